-- What contracts see of the entries of a map that is being read.
use Rattle.std.specs.Prelude.{ℕ, List, map, String, string_bytes}
use Rattle.std.specs.declared.alloc.Global.{Global}
use Rattle.cat_tree.specs.Data.{Data, Members, members_of}
use Rattle.cat_tree.specs.View.{data_of}
use Rattle.cat_tree.specs.declared.tree.Tree.{Tree}

-- a key and its value
abbrev pub seen_pair : String Global × Tree → List ℕ × Data
seen_pair p = (string_bytes p.0, data_of p.1)

-- the members of the map
abbrev pub seen_pairs : List (String Global × Tree) → Members
seen_pairs ps = members_of (map seen_pair ps)
