-- What the options of a command say.
use Rattle.std.specs.Prelude.{ℕ, List, Option, None, Some, bytes_eq, codes, nat_lt, nat_le, ◌&&◌, if◌then◌else◌, option_map, option_and_then}
use Rattle.clap.specs.Walk.{Row, Text, first_of}
use Rattle.cat_session_lines.specs.Arguments.{number}
use Rattle.cat_keeper.specs.declared.keeper.Place.{Place}
use Rattle.cat_keeper.specs.declared.keeper.Place.TheVariants.{File, Journal}
use Rattle.cat_model.specs.declared.types.OrphanRule.{OrphanRule}
use Rattle.cat_model.specs.declared.types.OrphanRule.TheVariants.{Keep, Delete}
use Rattle.cat_command_line.specs.declared.options.CatalogueOptions.{CatalogueOptions}
use Rattle.cat_command_line.specs.declared.options.ServerOptions.{ServerOptions}
use Rattle.cat_command_line.specs.declared.options.Serving.{Serving}

-- ---- a catalogue

-- the rule for orphans that a word names
abbrev pub rule_of : Text → Option OrphanRule
rule_of word = if bytes_eq word (codes "keep") then Some Keep else (if bytes_eq word (codes "delete") then Some Delete else None)

-- the rule for orphans that was given, if one was
abbrev pub orphans : Option Text → Option (Option OrphanRule)
orphans None = Some None
orphans (Some word) = option_map Some (rule_of word)

-- the place that was given, if one was: a database or a journal, and not both
abbrev pub place : Option Text → Option Text → Option (Option Place)
place None None = Some None
place (Some file) None = Some (Some (File file))
place None (Some file) = Some (Some (Journal file))
place (Some store) (Some journal) = None

abbrev pub catalogue_by : Option (Option OrphanRule) → Option (Option Place) → Option CatalogueOptions
catalogue_by None place = None
catalogue_by (Some orphans) place = option_map (λ at. record { orphans = orphans; place = at }) place

-- the catalogue that a command is over
abbrev pub catalogue_options : List Row → Option CatalogueOptions
catalogue_options rows = catalogue_by (orphans (first_of (codes "orphans") rows)) (place (first_of (codes "store") rows) (first_of (codes "journal") rows))

-- ---- a server

-- so many pairs of workers, or connections at once
abbrev pub crew_of : ℕ → Option ℕ
crew_of count = if nat_lt 0 count && nat_le count 16 then Some count else None

-- the number that was given, or else the usual one
abbrev pub crew : Option Text → ℕ → Option ℕ
crew None usual = Some usual
crew (Some word) usual = option_and_then crew_of (number word)

abbrev pub server_by : Option ℕ → Option ℕ → Option ServerOptions
server_by None connections = None
server_by (Some workers) connections = option_map (λ count. record { workers = workers; connections = count }) connections

-- how a server serves: with two pairs of workers and four connections at once, where nothing else was given
abbrev pub server_options : List Row → Option ServerOptions
server_options rows = server_by (crew (first_of (codes "workers") rows) 2) (crew (first_of (codes "connections") rows) 4)

abbrev pub serving_by : Option Text → Option CatalogueOptions → Option ServerOptions → Option Serving
serving_by None catalogue server = None
serving_by (Some address) None server = None
serving_by (Some address) (Some catalogue) server = option_map (λ how. record { address = address; catalogue = catalogue; server = how }) server

-- a server
abbrev pub serving_of : List Row → Option Serving
serving_of rows = serving_by (first_of (codes "address") rows) (catalogue_options rows) (server_options rows)
