use Rattle.std.proofs.Common.{◌≡◌}
use Rattle.std.specs.List.{list_all}
use Rattle.cat_collections.specs.Left.{items_left}
use Rattle.cat_row_reader.specs.Forms.{is_source}
use Rattle.cat_row_reader.proofs.forms.are_sources.Given as goal

abbrev pub invariant-loop-inputs : goal.invariant-loop-inputs
invariant-loop-inputs l =
    goal.iterator-loop-inputs.can_next l.inputs-iterator
    × goal.iterator-loop-inputs.is_finite l.inputs-iterator
    × (list_all is_source (items_left l.inputs-iterator) ≡ list_all is_source l.providers)
