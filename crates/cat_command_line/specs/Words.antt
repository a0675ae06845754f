-- The command that the words of a command line are.
use Rattle.std.specs.Prelude.{⊤, ℕ, ◌<◌, ◌^◌, List, [], ◌∷◌, Option, None, Some, bytes_eq, codes, nat_lt, nat_le, ◌&&◌, if◌then◌else◌, option_map, option_and_then}
use Rattle.clap.specs.Walk.{Row, Text, first_of}
use Rattle.cat_session_lines.specs.Arguments.{number}
use Rattle.cat_command_line.specs.Given.{catalogue_words, mirror_words, read, sample_words, server_words}
use Rattle.cat_command_line.specs.Options.{catalogue_options, serving_of}
use Rattle.cat_command_line.specs.declared.options.CatalogueOptions.{CatalogueOptions}
use Rattle.cat_command_line.specs.declared.options.Serving.{Serving}
use Rattle.cat_command_line.specs.declared.words.Command.{Command}
use Rattle.cat_command_line.specs.declared.words.Command.TheVariants as command
use Rattle.cat_command_line.specs.declared.words.Sample.{Sample}

-- ---- each command, by all words, of which the first is its name

-- the catalogue that a session or a connection is over
abbrev pub catalogue : Text → List Text → Option CatalogueOptions
catalogue name words = option_and_then catalogue_options (read (catalogue_words name) words)

abbrev pub session : List Text → Option Command
session words = option_map command.Session (catalogue (codes "session") words)

abbrev pub wire : List Text → Option Command
wire words = option_map command.Wire (catalogue (codes "wire") words)

abbrev pub server : List Text → Option Serving
server words = option_and_then serving_of (read (server_words (codes "serve")) words)

abbrev pub serve : List Text → Option Command
serve words = option_map command.Serve (server words)

abbrev pub mirror : List Text → Option Command
mirror words = option_map (λ rows. command.Mirror) (read (mirror_words (codes "mirror")) words)

-- a seed is below 2^31, and a sample has 1 to 50,000 Components
abbrev pub sample_of : ℕ → ℕ → Option Sample
sample_of seed count = if nat_lt seed 2147483648 && (nat_lt 0 count && nat_le count 50000) then Some (record { seed = seed; count = count }) else None

-- the number of a word that was given
abbrev pub number_of : Option Text → Option ℕ
number_of word = option_and_then number word

abbrev pub sample_by : Option ℕ → Option ℕ → Option Sample
sample_by None count = None
sample_by (Some seed) count = option_and_then (sample_of seed) count

abbrev pub sample_in : List Row → Option Sample
sample_in rows = sample_by (number_of (first_of (codes "seed") rows)) (number_of (first_of (codes "count") rows))

abbrev pub sample_numbers : List Text → Option Sample
sample_numbers words = option_and_then sample_in (read (sample_words (codes "sample")) words)

abbrev pub sample_command : List Text → Option Command
sample_command words = option_map command.Sample (sample_numbers words)

-- ---- all

-- the command that a word names, if the words are one
abbrev pub command_named : Text → List Text → Option Command
command_named name words =
    if bytes_eq name (codes "session") then session words
    else (if bytes_eq name (codes "wire") then wire words
    else (if bytes_eq name (codes "serve") then serve words
    else (if bytes_eq name (codes "mirror") then mirror words
    else (if bytes_eq name (codes "sample") then sample_command words else None))))

-- the command of the words, if they are one
unfoldable pub command_of : List Text → Option Command
command_of [] = None
command_of (name ∷ words) = command_named name (name ∷ words)

-- A server serves one connection at least at once, and a sample has a seed below 2^31.
abbrev pub IsWithin : Command → Type 0
IsWithin (command.Session options) = ⊤
IsWithin (command.Wire options) = ⊤
IsWithin (command.Serve serving) = 0 < serving.server.connections
IsWithin command.Mirror = ⊤
IsWithin (command.Sample sample) = sample.seed < 2 ^ 31
