-- What `clap` is told of each command, and what it finds among the words.
use Rattle.std.specs.Prelude.{List, [], ◌∷◌, true, Option, Some, None, codes}
use Rattle.clap.specs.Faults.{fault_of}
use Rattle.clap.specs.Kinds.{Kinds}
use Rattle.clap.specs.Simple.{App, matches_of, new_shape, new_rule, with_rule}
use Rattle.clap.specs.Walk.{Row, Rule, Text}

-- ---- what stands behind a command

-- an option with one value, `--NAME VALUE` or `--NAME=VALUE`
abbrev pub option : Text → Rule
option name = record (new_rule name) { long = Some name }

-- a word that isn't an option and has to stand, at its place among those
abbrev pub positional : Text → Rule
positional name = record (new_rule name) { required = true }

-- a command without options, of clap's own neither
abbrev pub bare : Text → App
bare name = record { top = record (new_shape name) { disable_help_flag = true }; subs = [] }

-- a session or a connection: which catalogue it is over
unfoldable pub catalogue_words : Text → App
catalogue_words name = with_rule (with_rule (with_rule (bare name) (option (codes "orphans"))) (option (codes "store"))) (option (codes "journal"))

-- a server: the same, how it serves, and its address
unfoldable pub server_words : Text → App
server_words name = with_rule (with_rule (with_rule (catalogue_words name) (option (codes "workers"))) (option (codes "connections"))) (positional (codes "address"))

-- a sample: its seed and its count
unfoldable pub sample_words : Text → App
sample_words name = with_rule (with_rule (bare name) (positional (codes "seed"))) (positional (codes "count"))

-- a mirror: nothing
unfoldable pub mirror_words : Text → App
mirror_words name = bare name

-- ---- what is found

abbrev pub if_taken : Kinds → List Row → Option (List Row)
if_taken [] rows = Some rows
if_taken (kind ∷ kinds) rows = None

-- The rows that clap finds among the words, the first of which is the command's own: one for each option and word that was given. It takes the words
-- exactly where its own definition of the command has no fault for them: each option is one of the command's, has one value and stands once, and each
-- word that has to stand is there.
unfoldable pub read : App → List Text → Option (List Row)
read app words = if_taken (fault_of app words) (matches_of app words)
