-- A test of the numbers of a tree that computes.
use Rattle.std.specs.Prelude.{◌^◌, pos, negsuc, ℤ, Bool, true, false, nat_lt, if◌then◌else◌}
use Rattle.cat_tree.specs.Data.{Data, null, flag, whole, words, list, dict, Items, no_items, item, Members, no_members, member}

-- whether a number is an integer of 64 bits
abbrev pub is_short : ℤ → Bool
is_short (pos n) = nat_lt n (2 ^ 64)
is_short (negsuc n) = nat_lt n (2 ^ 63)

-- whether each number is an integer of 64 bits
abbrev mutual
  pub is_narrow : Data → Bool
  is_narrow null = true
  is_narrow (flag b) = true
  is_narrow (whole z) = is_short z
  is_narrow (words s) = true
  is_narrow (list ds) = are_narrow ds
  is_narrow (dict ms) = have_narrow ms

  pub are_narrow : Items → Bool
  are_narrow no_items = true
  are_narrow (item d ds) = if is_narrow d then are_narrow ds else false

  pub have_narrow : Members → Bool
  have_narrow no_members = true
  have_narrow (member k d ms) = if is_narrow d then have_narrow ms else false
