use Rattle.std.proofs.Common.{◌≡◌, ◌+◌, ◌<◌, ◌^◌}
use Rattle.cat_collections.specs.Left.{items_left}
use Rattle.cat_sample.specs.Summary.{capped, relation_count}
use Rattle.cat_sample.proofs.summary.relation_count.Given as goal

-- the count, with those of the documents that are left, comes to that of all
abbrev pub invariant-loop-node : goal.invariant-loop-node
invariant-loop-node l =
    goal.iterator-loop-node.can_next l.node-iterator
    × goal.iterator-loop-node.is_finite l.node-iterator
    × (l.count < 2 ^ 64)
    × (capped (l.count + relation_count (items_left l.node-iterator)) ≡ relation_count l.documents)
