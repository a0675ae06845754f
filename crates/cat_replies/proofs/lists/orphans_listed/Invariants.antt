use Rattle.std.proofs.Common.{◌≡◌, ◌++◌, map}
use Rattle.cat_collections.specs.Left.{items_left}
use Rattle.cat_tree.specs.Data.{words}
use Rattle.cat_tree.specs.View.{data_of}
use Rattle.cat_replies.proofs.lists.orphans_listed.Given as goal

-- the references so far, with those that are left, are all
abbrev pub invariant-loop-reference : goal.invariant-loop-reference
invariant-loop-reference l =
    goal.iterator-loop-reference.can_next l.reference-iterator
    × goal.iterator-loop-reference.is_finite l.reference-iterator
    × (map data_of l.trees.items ++ map (λ e. words e.0) (items_left l.reference-iterator) ≡ map (λ e. words e.0) l.orphans)
