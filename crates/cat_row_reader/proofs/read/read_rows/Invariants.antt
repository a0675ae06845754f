use Rattle.std.proofs.Common.{List, ◌++◌}
use Rattle.cat_row_format.specs.declared.row.StoredRow.{StoredRow}
use Rattle.cat_collections.specs.Left.{items_left}
use Rattle.cat_row_reader.specs.Read.{AreRead, AreTextsOf}
use Rattle.cat_row_reader.proofs.read.read_rows.Given as goal

-- the rows so far, and those that the texts which are left spell, are spelled by all texts; and where all are the texts of rows, so are those that are left
abbrev pub invariant-loop-entry : goal.invariant-loop-entry
invariant-loop-entry l =
    goal.iterator-loop-entry.can_next l.entry-iterator
    × goal.iterator-loop-entry.is_finite l.entry-iterator
    × ((xs : List StoredRow) → AreRead (items_left l.entry-iterator) xs → AreRead l.texts (l.rows.items ++ xs))
    × ((xs : List StoredRow) → AreTextsOf l.texts xs → (ys : List StoredRow) × AreTextsOf (items_left l.entry-iterator) ys)
