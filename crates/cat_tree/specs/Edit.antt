-- A map with one entry put in or taken out.
use Rattle.std.specs.Prelude.{ℕ, List, if◌then◌else◌, bytes_eq}
use Rattle.std.specs.Ordering.{nat_cmp}
use Rattle.std.specs.Cmp.Lexicographic.{slice_cmp}
use Rattle.std.specs.FinMap.Entries.{by_order}
use Rattle.cat_tree.specs.Data.{Data, null, flag, whole, words, list, dict, Members, no_members, member}

-- the entry stands before the first key that is greater, or in the place of the entry with its key
abbrev pub put_member : List ℕ → Data → Members → Members
put_member k d no_members = member k d no_members
put_member k d (member l e ms) = by_order (slice_cmp nat_cmp k l) (member k d (member l e ms)) (member l d ms) (member l e (put_member k d ms))

-- the entry of the key is gone
abbrev pub drop_member : List ℕ → Members → Members
drop_member k no_members = no_members
drop_member k (member l e ms) = if bytes_eq k l then ms else member l e (drop_member k ms)

-- a map gets the value at the key, and any other tree stays as it is
abbrev pub with_key : List ℕ → Data → Data → Data
with_key k v null = null
with_key k v (flag b) = flag b
with_key k v (whole z) = whole z
with_key k v (words s) = words s
with_key k v (list ds) = list ds
with_key k v (dict ms) = dict (put_member k v ms)

-- a map loses the key, and any other tree stays as it is
abbrev pub without_key : List ℕ → Data → Data
without_key k null = null
without_key k (flag b) = flag b
without_key k (whole z) = whole z
without_key k (words s) = words s
without_key k (list ds) = list ds
without_key k (dict ms) = dict (drop_member k ms)
