-- The form of single trees, and a test of it.
use Rattle.std.specs.Prelude.{ℕ, ◌^◌, ◌≤◌, ℤ, pos, negsuc, List, Bool, true, ◌&&◌, nat_lt, nat_le}
use Rattle.std.specs.Ordering.{nat_cmp, is_lt}
use Rattle.std.specs.Cmp.Lexicographic.{slice_cmp}
use Rattle.cat_tree.specs.Ask.{depth_of}
use Rattle.cat_tree.specs.Data.{Data, null, flag, whole, words, list, dict, Items, no_items, item, Members, no_members, member}
use Rattle.cat_tree.specs.Proper.{IsNarrow, IsProper}

-- a tree is at most n levels deep, its numbers are integers of 64 bits, and the keys of each of its maps rise
pub record IsWithin (n : ℕ) (d : Data) : Type 0 where
  pub shallow : depth_of d ≤ n
  pub narrow : IsNarrow d
  pub proper : IsProper d

-- ---- the tests

-- an integer of 64 bits, with a sign or without
abbrev pub is_narrow_number : ℤ → Bool
is_narrow_number (pos n) = nat_lt n (2 ^ 64)
is_narrow_number (negsuc n) = nat_lt n (2 ^ 63)

-- each number is an integer of 64 bits
abbrev mutual
  pub is_narrow : Data → Bool
  is_narrow null = true
  is_narrow (flag b) = true
  is_narrow (whole z) = is_narrow_number z
  is_narrow (words s) = true
  is_narrow (list ds) = are_items_narrow ds
  is_narrow (dict ms) = are_members_narrow ms

  pub are_items_narrow : Items → Bool
  are_items_narrow no_items = true
  are_items_narrow (item d ds) = is_narrow d && are_items_narrow ds

  pub are_members_narrow : Members → Bool
  are_members_narrow no_members = true
  are_members_narrow (member k d ms) = is_narrow d && are_members_narrow ms

-- the key comes before each of these
abbrev pub is_below : List ℕ → Members → Bool
is_below k no_members = true
is_below k (member l d ms) = is_lt (slice_cmp nat_cmp k l) && is_below k ms

-- each key once, in byte order
abbrev pub is_rising : Members → Bool
is_rising no_members = true
is_rising (member k d ms) = is_below k ms && is_rising ms

-- the keys of each map rise
abbrev mutual
  pub is_proper : Data → Bool
  is_proper null = true
  is_proper (flag b) = true
  is_proper (whole z) = true
  is_proper (words s) = true
  is_proper (list ds) = are_items_proper ds
  is_proper (dict ms) = are_members_proper ms && is_rising ms

  pub are_items_proper : Items → Bool
  are_items_proper no_items = true
  are_items_proper (item d ds) = is_proper d && are_items_proper ds

  pub are_members_proper : Members → Bool
  are_members_proper no_members = true
  are_members_proper (member k d ms) = is_proper d && are_members_proper ms

-- the tree is at most n levels deep, with numbers of 64 bits and keys that rise
abbrev pub is_within : ℕ → Data → Bool
is_within n d = nat_le (depth_of d) n && (is_narrow d && is_proper d)
