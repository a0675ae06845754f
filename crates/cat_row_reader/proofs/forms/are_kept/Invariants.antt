use Rattle.std.proofs.Common.{◌≡◌}
use Rattle.std.specs.List.{list_all}
use Rattle.cat_owned_map.specs.BoxedLeft.{boxed_left}
use Rattle.cat_row_reader.specs.Forms.{is_kept}
use Rattle.cat_row_reader.proofs.forms.are_kept.Given as goal

abbrev pub invariant-loop-reference : goal.invariant-loop-reference
invariant-loop-reference l =
    goal.iterator-loop-reference.can_next l.reference-iterator
    × goal.iterator-loop-reference.is_finite l.reference-iterator
    × (list_all is_kept (boxed_left l.reference-iterator) ≡ list_all is_kept l.records)
