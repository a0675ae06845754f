use Rattle.std.proofs.Common.{◌≡◌, ◌++◌, ◌-◌, ◌≤◌, length, take, drop, bytes_eq}
use Rattle.std.specs.Map.{remove_entry}
use Rattle.cat_tree.proofs.tree.take_out.Given as goal

-- the key isn't among those before the place
abbrev pub invariant-loop-place : goal.invariant-loop-place
invariant-loop-place l =
    (l.place ≤ length l.items.items)
    × (remove_entry (bytes_eq l.key) l.items.items ≡ take l.place l.items.items ++ remove_entry (bytes_eq l.key) (drop l.place l.items.items))
    × (l.items ≡ l.initial.items)

abbrev pub decreases-loop-place : goal.decreases-loop-place
decreases-loop-place l = length l.items.items - l.place
