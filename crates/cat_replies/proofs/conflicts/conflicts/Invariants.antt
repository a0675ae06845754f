use Rattle.std.proofs.Common.{◌≡◌, ◌++◌, map}
use Rattle.std.specs.List.{flat_map}
use Rattle.cat_collections.specs.Left.{items_left}
use Rattle.cat_model.specs.Catalogue.{holding}
use Rattle.cat_model.specs.Reply.{conflict_with, waiting}
use Rattle.cat_replies.specs.Shown as seen
use Rattle.cat_replies.proofs.conflicts.conflicts.Given as goal

-- what was found, with what is left, is the whole
abbrev pub invariant-loop-place : goal.invariant-loop-place
invariant-loop-place l =
    goal.iterator-loop-place.can_next l.place-iterator
    × goal.iterator-loop-place.is_finite l.place-iterator
    × (map seen.conflict l.found.items ++ flat_map (λ e. conflict_with e.1 (holding l.state.rows l.state.holders e.0.0)) (map seen.waiting (items_left l.place-iterator)) ≡ flat_map (λ e. conflict_with e.1 (holding l.state.rows l.state.holders e.0.0)) (waiting l.state))
