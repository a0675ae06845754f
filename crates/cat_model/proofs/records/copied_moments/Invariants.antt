use Rattle.std.proofs.Common.{◌≡◌, ◌++◌}
use Rattle.cat_owned_map.specs.BoxedLeft.{boxed_left}
use Rattle.cat_model.proofs.records.copied_moments.Given as goal

-- the copies so far and the moments that are left are all moments
abbrev pub invariant-loop-moment : goal.invariant-loop-moment
invariant-loop-moment l =
    goal.iterator-loop-moment.can_next l.moment-iterator
    × goal.iterator-loop-moment.is_finite l.moment-iterator
    × (l.made.items ++ boxed_left l.moment-iterator ≡ l.moments)
