use Rattle.std.proofs.Common.{◌≡◌, ◌+◌, ◌≤◌, length, drop, map}
use Rattle.cat_tree.specs.Data.{items_of}
use Rattle.cat_tree.specs.View.{data_of}
use Rattle.cat_sample.specs.Summary.{ownership_count}
use Rattle.cat_sample.proofs.summary.ownership_count.Given as goal

-- those from the place on were counted
abbrev pub invariant-loop-left : goal.invariant-loop-left
invariant-loop-left l =
    (l.left ≤ length l.relations) × (l.count + l.left ≤ length l.relations)
    × (l.count ≡ ownership_count (items_of (map data_of (drop l.left l.relations))))

abbrev pub decreases-loop-left : goal.decreases-loop-left
decreases-loop-left l = l.left
