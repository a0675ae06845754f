use Rattle.std.proofs.Common.{ap, sym, ◌∙◌}
use Rattle.cat_collections.specs.Table.{keys}
use Rattle.cat_model.specs.Catalogue.{Rows, row_at}
use Rattle.cat_model.specs.Step.{add_offers}
use Rattle.cat_model.specs.declared.types.Numbered.{Numbered}
use Rattle.cat_claims.proofs.Added.{below_kept, new_among}
use Rattle.cat_claims.proofs.Lost.{lost_of_changed}
use Rattle.cat_claims.proofs.replaced.replaced_rows.Goals as goal

pub added-requires-clause-below : goal.added-requires-clause-below
added-requires-clause-below g c =
    λ a row e. below_kept c.args.m.now.rows c.args.m.now.arrival c.args.origin.now (g.O.Offering.offers c.args.offers.now) c.requires.ready.below a row (sym (ap (λ z. row_at z a) c.in_ok-renewed_rows.ensures) ∙ e)

pub returns-clause-lost : goal.returns-clause-lost
returns-clause-lost g c =
    let o = c.args.origin.now in
    let f = g.O.Offering.offers c.args.offers.now in
    let first : Rows → Numbered = λ rows. record { rows = rows; next = c.args.m.now.arrival } in
    lost_of_changed o f c.args.order.now c.args.changed.now c.args.m.now c.in_ok-numbered.numbered c.in_ok-lost.lost c.requires.changed
    (c.in_ok-numbered.ensures.value ∙ ap (λ rows. add_offers o f c.args.order.now (first rows)) c.in_ok-renewed_rows.ensures) c.in_ok-lost.ensures

pub returns-clause-new : goal.returns-clause-new
returns-clause-new g c =
    new_among c.in_ok-numbered.numbered.rows c.args.origin.now c.args.m.now.arrival c.in_ok-numbered.numbered.next (keys c.in_ok-new.new) c.in_ok-numbered.ensures.below c.in_ok-new.ensures
