use Rattle.std.proofs.Common.{◌≡◌, ◌+◌, ◌^◌, ◌++◌, ◌∷◌, [], ◌&&◌, true, false, not, min, take, get_or, ap, subst, sym, ◌∙◌, arith}
use Rattle.std.specs.Prelude.{nat_lt}
use Rattle.std.specs.declared.option.Option.TheVariants.{Some}
use Rattle.std.proofs.lemmas.Grind.{common_steps}
use Rattle.cat_row_faults.specs.Readings.{read_rows}
use Rattle.cat_row_faults.specs.Rules.{is_input, is_right, weight, weights}
use Rattle.cat_row_faults.specs.Told.{answers}
use Rattle.cat_row_faults.proofs.Wrongs.{here, none_all, none_more, read_more, row_right, row_wrong, weights_more}
use Rattle.cat_row_faults.proofs.first.first_wrong.Goals as goal

pub returns-then-not-branch : goal.returns-then-not-branch
returns-then-not-branch c =
    let rs = c.args.readings.now in
    let i = c.loop-place.place in
    let row = c.in-Some.row in
    let at = here rs i c.index-readings-place.result (Some row) c.loop-place-test.true c.index-readings-place.is c.in-Some.is in
    let total : c.weighed-total.result ≡ weights (answers rs) (read_rows (take i rs) ++ row ∷ []) =
    c.weighed-total.ensures ∙ ((λ j. min (c.loop-place.invariant.0 j + weight (c.requires j) row) (2 ^ 62)) ∙ weights_more (answers rs) (read_rows (take i rs)) row) in
    let kept : c.in_ok-keeps.field-0 ≡ (is_right (answers rs) row && not (is_input row && nat_lt c.args.limit (weights (answers rs) (read_rows (take i rs) ++ row ∷ [])))) =
    c.in_ok-keeps.ensures ∙ (λ j. is_right (c.requires j) row && not (is_input row && nat_lt c.args.limit (total j))) in
    let no : c.in_ok-keeps.field-0 ≡ false = grind (arith, common_steps, c.if-not-branch.true) in
    (row_wrong c.args.limit rs i row at (sym kept ∙ no), c.loop-place.invariant.1)

pub loop-place-preserved : goal.loop-place-preserved
loop-place-preserved c =
    let rs = c.args.readings.now in
    let i = c.loop-place.place in
    let row = c.in-Some.row in
    let at = here rs i c.index-readings-place.result (Some row) c.loop-place-test.true c.index-readings-place.is c.in-Some.is in
    let total : c.weighed-total.result ≡ weights (answers rs) (read_rows (take i rs) ++ row ∷ []) =
    c.weighed-total.ensures ∙ ((λ j. min (c.loop-place.invariant.0 j + weight (c.requires j) row) (2 ^ 62)) ∙ weights_more (answers rs) (read_rows (take i rs)) row) in
    let kept : c.in_ok-keeps.field-0 ≡ (is_right (answers rs) row && not (is_input row && nat_lt c.args.limit (weights (answers rs) (read_rows (take i rs) ++ row ∷ [])))) =
    c.in_ok-keeps.ensures ∙ (λ j. is_right (c.requires j) row && not (is_input row && nat_lt c.args.limit (total j))) in
    let yes : c.in_ok-keeps.field-0 ≡ true = grind (arith, common_steps, c.if-not-branch.false) in
    let more = read_more rs i row c.loop-place-test.true (subst (λ x. x ≡ get_or rs i x) c.in-Some.is c.index-readings-place.is) in
    (total ∙ ap (weights (answers rs)) (sym more), none_more c.args.limit rs i c.loop-place.invariant.1 (row_right c.args.limit rs i row at (sym kept ∙ yes)))

pub returns : goal.returns
returns c = none_all c.args.limit c.args.readings.now c.loop-place.place c.loop-place-test.false c.loop-place.invariant.1
