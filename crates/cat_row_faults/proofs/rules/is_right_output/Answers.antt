use Rattle.std.proofs.Common.{◌≡◌, ◌&&◌, true, ap, sym, ◌∙◌, arith}
use Rattle.std.proofs.lemmas.Grind.{common_steps}
use Rattle.std.proofs.lemmas.Result.{IfOk-weaker}
use Rattle.std.specs.List.{list_all}
use Rattle.cat_row_reader.specs.Forms.{is_entity}
use Rattle.cat_collections.specs.Table.{Text, find, text_cmp}
use Rattle.cat_row_faults.specs.Rules.{is_offer_among, references_of}
use Rattle.cat_row_faults.specs.Told.{asked, is_first, is_once}
use Rattle.cat_row_faults.proofs.rules.is_right_output.Goals as goal

pub returns : goal.returns
returns c =
    let a = asked c.args.told.now in
    let output = c.args.output.now in
    let references : c.as_slice.result.now ≡ references_of output.offers = c.as_slice.ensures.value ∙ (c.in_ok-references.ensures ∙ ap references_of c.as_slice-offers.ensures) in
    let once : (λ (q : Text). is_first (find text_cmp q c.in_ok-noted.noted)) ≡ is_once text_cmp (references_of output.offers) =
    λ i q. (c.in_ok-noted.ensures q ∙ ap (λ rs. is_once text_cmp rs q) references) i in
    let entity : is_entity output.entity c.args.reference.now ≡ true = grind (arith, common_steps, c.in_ok-is_entity.ensures, c.if-not-branch.false) in
    IfOk-weaker c.are_right_offers.result _ _
    (λ b is. is
    ∙ (ap (list_all (is_offer_among a (λ (q : Text). is_first (find text_cmp q c.in_ok-noted.noted)))) c.as_slice-offers.ensures
    ∙ (ap (λ f. list_all (is_offer_among a f) output.offers) once
    ∙ ap (λ e. e && list_all (is_offer_among a (is_once text_cmp (references_of output.offers))) output.offers) (sym entity))))
    c.are_right_offers.ensures
