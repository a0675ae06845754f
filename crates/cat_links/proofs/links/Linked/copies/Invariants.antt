use Rattle.std.proofs.Common.{◌≡◌, ◌++◌}
use Rattle.cat_links.specs.Left.{relations_left}
use Rattle.cat_links.proofs.links.Linked.copies.Given as goal

-- the copies so far and the relations that are left are all relations
abbrev pub invariant-loop-relation : goal.invariant-loop-relation
invariant-loop-relation l =
    goal.iterator-loop-relation.can_next l.relation-iterator
    × goal.iterator-loop-relation.is_finite l.relation-iterator
    × (l.list.items ++ relations_left l.relation-iterator ≡ l.self)
