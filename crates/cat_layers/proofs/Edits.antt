-- Edits keep the form of a tree.
use Rattle.std.proofs.Common.{◌≡◌, ℕ, suc, max, ◌≤◌, Bool, true, false, List, Some, IfSome, if◌then◌else◌, bytes_eq, nat_cmp, Ordering, Less, Equal, Greater, subst, arith}
use Rattle.std.specs.Cmp.Lexicographic.{slice_cmp}
use Rattle.std.specs.FinMap.Entries.{by_order}
use Rattle.cat_tree.specs.Ask.{member_at, child_of, depth_of, members_depth}
use Rattle.cat_tree.specs.Data.{Data, null, flag, whole, words, list, dict, Members, no_members, member}
use Rattle.cat_tree.specs.Edit.{put_member, with_key}
use Rattle.cat_tree.specs.Proper.{MembersProper, MembersNarrow}
use Rattle.cat_tree.proofs.Edits.{IsProper-with_key, IsNarrow-with_key, member_at-put_same}
use Rattle.cat_layers.specs.Trees.{IsWithin}

abbrev order : List ℕ → List ℕ → Ordering
order = slice_cmp nat_cmp

-- ---- what stands in a tree

-- what stands in a map has fewer levels, and the same form
member_within : (n : ℕ) (k : List ℕ) (ms : Members) → members_depth ms ≤ n → MembersNarrow ms → MembersProper ms → IfSome (member_at k ms) (IsWithin n)
member_within n k no_members depth narrow proper = tt
member_within n k (member l d ms) depth narrow proper =
    let here : depth_of d ≤ n = omega arith in
    let there : members_depth ms ≤ n = omega arith in
    pick (bytes_eq k l) (record { shallow = here; narrow = narrow.0; proper = proper.0 }) (member_within n k ms there narrow.1 proper.1)
  where
    pick : (b : Bool) → IsWithin n d → IfSome (member_at k ms) (IsWithin n) → IfSome (if b then Some d else member_at k ms) (IsWithin n)
    pick true h rest = h
    pick false h rest = rest

child_within_if : (n : ℕ) (k : List ℕ) (d : Data) → IsWithin (suc n) d → IfSome (child_of k d) (IsWithin n)
child_within_if n k null h = tt
child_within_if n k (flag b) h = tt
child_within_if n k (whole z) h = tt
child_within_if n k (words s) h = tt
child_within_if n k (list ds) h = tt
child_within_if n k (dict ms) h = let depth : members_depth ms ≤ n = let s = h.shallow in omega arith in member_within n k ms depth h.narrow h.proper.0

pub child_within : (n : ℕ) (k : List ℕ) (d c : Data) → child_of k d ≡ Some c → IsWithin (suc n) d → IsWithin n c
child_within n k d c e h = subst (λ o. IfSome o (IsWithin n)) e (child_within_if n k d h)

-- ---- what is put into a tree

depth-put : (k : List ℕ) (v : Data) (ms : Members) → members_depth (put_member k v ms) ≤ max (depth_of v) (members_depth ms)
depth-put k v no_members = omega arith
depth-put k v (member l e ms) =
    let more = depth-put k v ms in
    elim (order k l) as (λ o. members_depth (by_order o (member k v (member l e ms)) (member l v ms) (member l e (put_member k v ms))) ≤ max (depth_of v) (members_depth (member l e ms))) [ Less ↦ omega arith | Equal ↦ omega arith | Greater ↦ omega arith ]

depth-with_key : (k : List ℕ) (v d : Data) → depth_of (with_key k v d) ≤ max (suc (depth_of v)) (depth_of d)
depth-with_key k v null = omega arith
depth-with_key k v (flag b) = omega arith
depth-with_key k v (whole z) = omega arith
depth-with_key k v (words s) = omega arith
depth-with_key k v (list ds) = omega arith
depth-with_key k v (dict ms) = let more = depth-put k v ms in omega arith

pub within-with_key : (n : ℕ) (k : List ℕ) (v d : Data) → IsWithin n v → IsWithin (suc n) d → IsWithin (suc n) (with_key k v d)
within-with_key n k v d g h = record {
  shallow = let a = g.shallow in let b = h.shallow in let c = depth-with_key k v d in omega arith;
  narrow = IsNarrow-with_key k v d g.narrow h.narrow;
  proper = IsProper-with_key k v d g.proper h.proper;
}

pub within-words : (n : ℕ) (s : List ℕ) → IsWithin n (words s)
within-words n s = record { shallow = omega arith; narrow = tt; proper = tt }

pub within-empty : (n : ℕ) → IsWithin (suc n) (dict no_members)
within-empty n = record { shallow = omega arith; narrow = tt; proper = (tt, tt) }

pub child_of-put : (k : List ℕ) (v d c : Data) → child_of k d ≡ Some c → child_of k (with_key k v d) ≡ Some v
child_of-put k v null c e = cc
child_of-put k v (flag b) c e = cc
child_of-put k v (whole z) c e = cc
child_of-put k v (words s) c e = cc
child_of-put k v (list ds) c e = cc
child_of-put k v (dict ms) c e = member_at-put_same k v ms
