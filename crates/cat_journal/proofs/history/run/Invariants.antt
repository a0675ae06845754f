use Rattle.std.proofs.Common.{◌≡◌, ◌++◌}
use Rattle.std.specs.Vec.Iter.{into_iter_items}
use Rattle.cat_journal.specs.Histories.{Runs, orders_of}
use Rattle.cat_journal.proofs.history.run.Given as goal

-- what was asked for and what is left are all orders, and the calls so far were made
abbrev pub invariant-loop-order : goal.invariant-loop-order
invariant-loop-order g l =
    (goal.iterator-loop-order g).can_next l.order-iterator
    × (goal.iterator-loop-order g).is_finite l.order-iterator
    × (orders_of l.made.items ++ into_iter_items l.order-iterator ≡ l.fn.orders.items)
    × Runs l.made.items l.fn.keeper l.keeper
