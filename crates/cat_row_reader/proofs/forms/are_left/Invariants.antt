use Rattle.std.proofs.Common.{◌≡◌}
use Rattle.std.specs.List.{list_all}
use Rattle.cat_collections.specs.Left.{items_left}
use Rattle.cat_row_reader.specs.Forms.{is_left}
use Rattle.cat_row_reader.proofs.forms.are_left.Given as goal

abbrev pub invariant-loop-reference : goal.invariant-loop-reference
invariant-loop-reference l =
    goal.iterator-loop-reference.can_next l.reference-iterator
    × goal.iterator-loop-reference.is_finite l.reference-iterator
    × (list_all is_left (items_left l.reference-iterator) ≡ list_all is_left l.orphans)
