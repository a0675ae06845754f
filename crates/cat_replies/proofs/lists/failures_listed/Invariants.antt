use Rattle.std.proofs.Common.{◌≡◌, ◌++◌, map}
use Rattle.cat_owned_map.specs.BoxedLeft.{boxed_left}
use Rattle.cat_tree.specs.View.{data_of}
use Rattle.cat_replies.specs.Lists.{failures_in}
use Rattle.cat_replies.proofs.lists.failures_listed.Given as goal

-- what was found, with what is left, is the whole
abbrev pub invariant-loop-reference : goal.invariant-loop-reference
invariant-loop-reference l =
    goal.iterator-loop-reference.can_next l.reference-iterator
    × goal.iterator-loop-reference.is_finite l.reference-iterator
    × (map data_of l.trees.items ++ failures_in (boxed_left l.reference-iterator) ≡ failures_in l.records)
