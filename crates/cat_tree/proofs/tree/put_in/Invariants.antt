use Rattle.std.proofs.Common.{◌≡◌, ◌++◌, ◌-◌, ◌≤◌, length, take, drop, nat_cmp}
use Rattle.std.specs.Cmp.Lexicographic.{slice_cmp}
use Rattle.std.specs.FinMap.Entries.{put}
use Rattle.cat_tree.proofs.tree.put_in.Given as goal

-- the keys before the place are smaller
abbrev pub invariant-loop-place : goal.invariant-loop-place
invariant-loop-place l =
    (l.place ≤ length l.items.items)
    × (put (slice_cmp nat_cmp) l.fn.key l.fn.tree l.items.items ≡ take l.place l.items.items ++ put (slice_cmp nat_cmp) l.fn.key l.fn.tree (drop l.place l.items.items))
    × (l.items ≡ l.initial.items)

abbrev pub decreases-loop-place : goal.decreases-loop-place
decreases-loop-place l = length l.items.items - l.place
