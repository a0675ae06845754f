-- A test of two trees that computes.
use Rattle.std.specs.Prelude.{Bool, true, false, ◌&&◌, bytes_eq}
use Rattle.std.specs.Ordering.{int_eq}
use mathlib.Core.Bool.{beq}
use Rattle.cat_tree.specs.Data.{Data, null, flag, whole, words, list, dict, Items, no_items, item, Members, no_members, member}

-- equal trees have equal values at the same keys and positions
abbrev mutual
  pub is_same : Data → Data → Bool
  is_same null null = true
  is_same (flag b) (flag c) = beq b c
  is_same (whole y) (whole z) = int_eq y z
  is_same (words s) (words t) = bytes_eq s t
  is_same (list ds) (list es) = same_items ds es
  is_same (dict ms) (dict ns) = same_members ms ns
  is_same _ _ = false

  pub same_items : Items → Items → Bool
  same_items no_items no_items = true
  same_items (item d ds) (item e es) = is_same d e && same_items ds es
  same_items _ _ = false

  pub same_members : Members → Members → Bool
  same_members no_members no_members = true
  same_members (member k d ms) (member l e ns) = bytes_eq k l && (is_same d e && same_members ms ns)
  same_members _ _ = false
