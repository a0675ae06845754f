use Rattle.std.proofs.Common.{◌≡◌, ◌∷◌, ◌+◌, List, drop, ap, sym, ◌∙◌}
use Rattle.std.specs.List.{flat_map}
use Rattle.std.proofs.lemmas.List.{drop_more}
use Rattle.cat_row_format.specs.declared.row.StoredRow.{StoredRow}
use Rattle.cat_row_reader.specs.Standing.{given_by, with_rows}
use Rattle.cat_row_reader.proofs.Putting.{with_parts}
use Rattle.cat_row_reader.proofs.state.rows_of.Goals as goal

pub loop-row-preserved : goal.loop-row-preserved
loop-row-preserved c =
    let trees = c.args.trees.now in
    let rows = c.args.rows.now in
    let row = c.row-item.result in
    let rest : List StoredRow = drop (c.loop-row.row-index + 1) rows in
    let left : drop c.loop-row.row-index rows ≡ row ∷ rest = drop_more rows c.loop-row.row-index row c.loop-row-test.true ∙ ap (λ r. r ∷ rest) (sym c.row-item.is) in
    ap (with_rows (flat_map (given_by trees) rest)) c.in_ok-add_given.ensures
    ∙ (sym (with_parts (given_by trees row) (flat_map (given_by trees) rest) c.loop-row.made)
    ∙ (ap (λ l. with_rows (flat_map (given_by trees) l) c.loop-row.made) (sym left) ∙ c.loop-row.invariant))
