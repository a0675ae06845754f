use Rattle.std.proofs.Common.{List, sym, ap, subst, ◌∙◌}
use Rattle.cat_collections.specs.Table.{Text, get}
use Rattle.cat_claims.specs.Change.{IsChangedAmong}
use Rattle.cat_model.proofs.Changed.{sound_ready}
use Rattle.cat_model.specs.declared.types.Origin.TheVariants.{Provider}
use Rattle.cat_plan.specs.Linked.{AreLinked}
use Rattle.cat_model.specs.declared.types.ProviderInputs.{ProviderInputs}
use Rattle.cat_model.specs.Catalogue.{Offers, frame}
use Rattle.cat_model.specs.Step.{items_after, mutated_state, source_at}
use Rattle.cat_events.specs.OwnChanges.{given_or_removed}
use Rattle.cat_events.proofs.Changing.{given_among}
use Rattle.cat_events.proofs.Owned.{mutation_how, mutation_owned, mutation_reached}
use Rattle.cat_mutations.proofs.mutation.mutation_plan.Goals as goal

pub own_change-requires-clause-ready : goal.own_change-requires-clause-ready
own_change-requires-clause-ready g c = sound_ready g.L.Layers.rules c.args.m.now c.requires.sound

pub own_change-requires-clause-changed : goal.own_change-requires-clause-changed
own_change-requires-clause-changed g c =
    let m = c.args.m.now in
    let p = c.args.p.now in
    let x = c.args.x.now in
    let made = c.in_ok-items.ensures ∙ ap (λ (s : ProviderInputs). items_after x s.items) c.in_ok-source.ensures in
    let changed = c.as_slice.ensures ∙ c.in_ok-changed.ensures ∙ ap (λ (s : ProviderInputs). given_or_removed x s.items) c.in_ok-source.ensures in
    subst (λ (items : Offers). IsChangedAmong (Provider p) (get items) c.as_slice.result.now m.rows) (sym made)
    (subst (λ (l : List Text). IsChangedAmong (Provider p) (get (items_after x (source_at (get m.providers p)).items)) l m.rows) (sym changed) (given_among m p x c.requires.sound.offers))

pub planned-requires-clause-reach : goal.planned-requires-clause-reach
planned-requires-clause-reach g c =
    mutation_reached c.args.p.now c.args.x.now c.args.m.now c.in_ok-items.items (c.in_ok-items.ensures ∙ ap (λ (s : ProviderInputs). items_after c.args.x.now s.items) c.in_ok-source.ensures)
    c.in_ok-own.own c.in_ok-own.ensures g.L.Layers.rules c.requires.sound

pub returns-clause-state : goal.returns-clause-state
returns-clause-state g c =
    let m = c.args.m.now in
    let n = mutated_state c.args.p.now c.args.x.now (source_at (get m.providers c.args.p.now)) m in
    let made = c.in_ok-items.ensures ∙ ap (λ (s : ProviderInputs). items_after c.args.x.now s.items) c.in_ok-source.ensures in
    c.in_ok-plan.ensures.state n (mutation_owned c.args.p.now c.args.x.now m c.in_ok-items.items made c.in_ok-own.own c.in_ok-own.ensures)
    ∙ ap (λ h. frame g.L.Layers.rules h m n) (mutation_how c.args.p.now c.args.x.now m c.in_ok-items.items made c.in_ok-own.own c.in_ok-own.ensures)

pub returns-clause-linked : goal.returns-clause-linked
returns-clause-linked g c =
    let n = mutated_state c.args.p.now c.args.x.now (source_at (get c.args.m.now.providers c.args.p.now)) c.args.m.now in
    let owned =
    mutation_owned c.args.p.now c.args.x.now c.args.m.now c.in_ok-items.items (c.in_ok-items.ensures ∙ ap (λ (s : ProviderInputs). items_after c.args.x.now s.items) c.in_ok-source.ensures)
    c.in_ok-own.own c.in_ok-own.ensures in
    subst (AreLinked g.L.Layers.rules c.in_ok-plan.plan.value.following.links.after) (sym (c.in_ok-plan.ensures.state n owned)) (c.in_ok-plan.ensures.linked n owned)
