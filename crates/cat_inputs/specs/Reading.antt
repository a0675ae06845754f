-- The tree that a text is, in JSON or in block YAML, computed.
use Rattle.std.specs.Prelude.{ℕ, List, [], ◌∷◌, Bool, false, ◌==◌, ◌||◌, Option, None, Some, Result, Ok, Err, if◌then◌else◌}
use Rattle.std.specs.Str.{is_utf8}
use Rattle.serde_json.specs.Data as json
use Rattle.serde_json.specs.Read.{read}
use Rattle.serde_json.specs.Written.{has_float}
use Rattle.cat_tree.specs.Data.{Data, list, items_of}
use Rattle.cat_tree.specs.Read.{tree_of}
use Rattle.cat_tree.specs.declared.read.TreeFault.{TreeFault}
use Rattle.cat_tree.specs.declared.read.TreeFault.TheVariants.{Syntax, Fraction}
use Rattle.cat_yaml.specs.Narrow.{are_narrow}
use Rattle.cat_yaml.specs.Reading as yaml
use Rattle.cat_yaml.specs.declared.fault.Refusal.{Refusal}

-- the tree of what `serde_json` reads, which has whole numbers alone
abbrev pub whole_tree : Option json.Data → Result Data TreeFault
whole_tree None = Err Syntax
whole_tree (Some d) = if has_float d then Err Fraction else Ok (tree_of d)

-- the tree of the bytes, or why they give none
unfoldable pub tree_reading : List ℕ → Result Data TreeFault
tree_reading bytes = if is_utf8 bytes then whole_tree (read bytes) else Err Syntax

-- ---- JSON or block YAML

-- what may stand between the tokens of a JSON text: a space, tab, CR or LF
abbrev pub is_space : ℕ → Bool
is_space b = b == 32 || b == 9 || b == 13 || b == 10

-- what a JSON object or list begins with
abbrev pub is_opening : ℕ → Bool
is_opening b = b == 123 || b == 91

-- the first byte that is no space, tab, CR or LF opens an object or a list
abbrev pub is_json : List ℕ → Bool
is_json [] = false
is_json (b ∷ s) = if is_space b then is_json s else is_opening b

-- the documents of a text in block YAML as one list, which has whole numbers alone
abbrev pub documents_tree : Result (List Data) Refusal → Result Data TreeFault
documents_tree (Ok ds) = if are_narrow (items_of ds) then Ok (list (items_of ds)) else Err Fraction
documents_tree (Err refusal) = Err Syntax

-- the tree of a text: that of a JSON object or list, else the list of the documents in block YAML
abbrev pub text_tree : List ℕ → Result Data TreeFault
text_tree bytes = if is_json bytes then tree_reading bytes else documents_tree (yaml.reading bytes)
