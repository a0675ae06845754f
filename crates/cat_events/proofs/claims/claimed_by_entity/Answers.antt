use Rattle.std.proofs.Common.{List, sym, ap, subst, ◌∙◌}
use Rattle.std.specs.declared.option.Option.{Option}
use Rattle.cat_collections.specs.Table.{Text}
use Rattle.cat_model.specs.declared.types.Origin.TheVariants.{Entity}
use Rattle.cat_model.specs.declared.types.Record.{Record}
use Rattle.cat_claims.specs.Change.{IsChangedAmong}
use Rattle.cat_events.specs.OwnChanges.{offered_or}
use Rattle.cat_events.proofs.Changing.{entity_among}
use Rattle.cat_events.proofs.claims.claimed_by_entity.Goals as goal

pub claimed-requires-clause-changed : goal.claimed-requires-clause-changed
claimed-requires-clause-changed g c =
    let m = c.args.m.now in
    let e = c.args.entity.now in
    let order = c.args.order.now in
    let offers = g.O.Offering.offers c.args.offers.now in
    let changed = c.as_slice.ensures ∙ c.in_ok-changed.ensures ∙ ap (λ (kept : Option Record). offered_or kept order) c.get.ensures in
    subst (λ (r : Text). IsChangedAmong (Entity r) offers c.as_slice.result.now m.rows) (sym c.in_ok-duplicate.ensures)
    (subst (λ (l : List Text). IsChangedAmong (Entity e) offers l m.rows) (sym changed) (entity_among m e offers order c.requires.offers))
