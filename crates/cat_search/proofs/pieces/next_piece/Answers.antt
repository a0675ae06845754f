use Rattle.std.proofs.Common.{◌∷◌, eqb, sym, ◌∙◌}
use Rattle.std.specs.Prelude.{None, Some}
use Rattle.std.specs.List.{slice_split}
use Rattle.std.proofs.lemmas.Str.Pattern.{split_once_first}
use Rattle.std.proofs.lemmas.List.Splits.{slice_split_first}
use Rattle.cat_search.proofs.Cuts.{one_piece}
use Rattle.cat_search.proofs.pieces.next_piece.Goals as goal

pub returns-in-Some-clause-pieces : goal.returns-in-Some-clause-pieces
returns-in-Some-clause-pieces c =
    let first = split_once_first c.args.separator c.args.text.now (Some (c.in-Some.piece, c.in-Some.rest)) c.in-Some.ensures.cases c.requires in
    slice_split_first (λ b. eqb b c.args.separator) c.args.text.now 0 first.0
    ∙ (λ i. sym first.1 i ∷ slice_split (λ b. eqb b c.args.separator) (sym first.2 i))

pub returns-in-None-clause-pieces : goal.returns-in-None-clause-pieces
returns-in-None-clause-pieces c =
    one_piece c.args.separator c.args.text.now (split_once_first c.args.separator c.args.text.now None c.in-None.ensures.cases c.requires)
