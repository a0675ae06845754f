-- The trees of the values that `serde_json` read.
use Rattle.std.specs.Prelude.{ℕ, List, String, string_bytes}
use Rattle.std.specs.declared.alloc.Global.{Global}
use Rattle.serde_json.specs.View.{view}
use Rattle.serde_json.specs.declared.value.Value.{Value}
use Rattle.cat_tree.specs.Data.{Data}
use Rattle.cat_tree.specs.Read.{tree_of}

-- the tree of a value
abbrev pub seen_tree : Value → Data
seen_tree v = tree_of (view v)

-- the key and the tree of a member
abbrev pub seen_entry : String Global × Value → List ℕ × Data
seen_entry m = (string_bytes m.0, tree_of (view m.1))
