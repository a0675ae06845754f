use Rattle.std.proofs.Common.{sym, ◌∙◌, refl}
use Rattle.cat_types.proofs.Readings.{pieces_from_cuts, reading_found, reading_missing, reads_found, no_reading}
use Rattle.cat_types.proofs.split.split.Goals as goal

pub returns-then-are_pieces-clause-ok : goal.returns-then-are_pieces-clause-ok
returns-then-are_pieces-clause-ok c =
    reads_found c.args.text.now _ (pieces_from_cuts c.args.text.now _ _ _ _ c.cut.ensures c.cut-2.ensures) (sym c.are_pieces.ensures ∙ c.if-are_pieces.true)

pub returns-then-are_pieces-clause-reading : goal.returns-then-are_pieces-clause-reading
returns-then-are_pieces-clause-reading c =
    reading_found c.args.text.now _ (pieces_from_cuts c.args.text.now _ _ _ _ c.cut.ensures c.cut-2.ensures) (sym c.are_pieces.ensures ∙ c.if-are_pieces.true)

pub returns-else-are_pieces-clause-err : goal.returns-else-are_pieces-clause-err
returns-else-are_pieces-clause-err c =
    (refl, no_reading c.args.text.now (reading_missing c.args.text.now _ (pieces_from_cuts c.args.text.now _ _ _ _ c.cut.ensures c.cut-2.ensures) (sym c.are_pieces.ensures ∙ c.if-are_pieces.false)))

pub returns-else-are_pieces-clause-reading : goal.returns-else-are_pieces-clause-reading
returns-else-are_pieces-clause-reading c =
    reading_missing c.args.text.now _ (pieces_from_cuts c.args.text.now _ _ _ _ c.cut.ensures c.cut-2.ensures) (sym c.are_pieces.ensures ∙ c.if-are_pieces.false)
