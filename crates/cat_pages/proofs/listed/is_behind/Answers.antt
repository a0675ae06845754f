use Rattle.std.proofs.Common.{sym, ap, ◌∙◌, ◌∷◌}
use Rattle.std.proofs.lemmas.Map.Text.{is_eq-slice_cmp}
use Rattle.cat_collections.specs.Table.{same_text}
use Rattle.cat_pages.proofs.listed.is_behind.Goals as goal

pub returns-then-first-eq61 : goal.returns-then-first-eq61
returns-then-first-eq61 c =
    let rest = c.in-Some.rest.now in
    let v = c.args.value.now in
    c.eq.ensures
    ∙ sym (is_eq-slice_cmp rest v)
    ∙ ap (λ b. same_text (b ∷ rest) (61 ∷ v)) (sym c.if-first-eq61.true)
    ∙ ap (λ l. same_text l (61 ∷ v)) (sym c.in-Some.ensures.cases.0)
