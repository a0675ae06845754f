-- What a look into a tree gives.
use Rattle.std.specs.Prelude.{ℕ, suc, max, List, Option, Some, None, if◌then◌else◌, bytes_eq}
use Rattle.cat_tree.specs.Data.{Data, null, flag, whole, words, list, dict, Items, no_items, item, Members, no_members, member}

-- the tree of the first entry with the key, if there is one
abbrev pub member_at : List ℕ → Members → Option Data
member_at k no_members = None
member_at k (member l d ms) = if bytes_eq k l then Some d else member_at k ms

-- the tree at a key, where the tree is a map that has it
abbrev pub child_of : List ℕ → Data → Option Data
child_of k null = None
child_of k (flag b) = None
child_of k (whole z) = None
child_of k (words s) = None
child_of k (list ds) = None
child_of k (dict ms) = member_at k ms

-- how deep lists and maps nest, an empty one counted
abbrev mutual
  pub depth_of : Data → ℕ
  depth_of null = 0
  depth_of (flag b) = 0
  depth_of (whole z) = 0
  depth_of (words s) = 0
  depth_of (list ds) = suc (items_depth ds)
  depth_of (dict ms) = suc (members_depth ms)

  pub items_depth : Items → ℕ
  items_depth no_items = 0
  items_depth (item d ds) = max (depth_of d) (items_depth ds)

  pub members_depth : Members → ℕ
  members_depth no_members = 0
  members_depth (member k d ms) = max (depth_of d) (members_depth ms)
