-- The data that a tree of the code stands for.
use Rattle.std.specs.Prelude.{ℕ, suc, ◌+◌, List}
use Rattle.cat_tree.specs.Data.{Data, null, flag, whole, words, list, dict, Items, no_items, item, Members, no_members, member, items_of, members_of}
use Rattle.cat_tree.specs.declared.tree.Tree.{Tree}
use Rattle.cat_tree.specs.declared.tree.Tree.TheVariants.{Null, Flag, Whole, Words, List as Listing, Map}

-- the data of a tree
abbrev pub data_of : Tree → Data
data_of Null = null
data_of (Flag b) = flag b
data_of (Whole z) = whole z
data_of (Words s) = words s
data_of (Listing ts) = list (items_of ts)
data_of (Map ps) = dict (members_of ps)

-- the key and the data of a pair
abbrev pub entry_of : List ℕ × Tree → List ℕ × Data
entry_of p = (p.0, data_of p.1)

-- ---- a count of the nodes, which falls on the way down

-- a tree has one node more than its members have
abbrev mutual
  pub weight : Data → ℕ
  weight null = 1
  weight (flag b) = 1
  weight (whole z) = 1
  weight (words s) = 1
  weight (list ds) = suc (items_weight ds)
  weight (dict ms) = suc (members_weight ms)

  pub items_weight : Items → ℕ
  items_weight no_items = 0
  items_weight (item d ds) = weight d + items_weight ds

  pub members_weight : Members → ℕ
  members_weight no_members = 0
  members_weight (member k d ms) = weight d + members_weight ms

-- the nodes of a list of trees
abbrev pub list_weight : List Data → ℕ
list_weight ds = items_weight (items_of ds)

-- the nodes of keys with trees
abbrev pub map_weight : List (List ℕ × Data) → ℕ
map_weight ms = members_weight (members_of ms)
