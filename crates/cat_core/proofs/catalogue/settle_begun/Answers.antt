use Rattle.std.proofs.Common.{◌≡◌, ap, sym, subst, ◌∙◌}
use Rattle.cat_model.specs.Sound.{AreBegun}
use Rattle.cat_model.specs.declared.types.Progress.{Progress}
use Rattle.cat_model.specs.Settle.{try_settle}
use Rattle.cat_settle.specs.Part.{Came}
use Rattle.cat_core.proofs.Settles.{begun_within, few_events, first_events, none_stand, settled_begun}
use Rattle.cat_core.proofs.catalogue.settle_begun.Goals as goal

pub returns-clause-state : goal.returns-clause-state
returns-clause-state g c =
    let p = c.settled-came.new.p in
    let e : c.taken_out-p.result.state ≡ c.args.state.now = ap (λ (q : Progress). q.state) c.taken_out-p.ensures in
    let few = few_events c.args.most p (c.settled-came.ensures.within (begun_within c.args.most c.taken_out-p.result _ c.taken_out-p.ensures)) c.requires.few in
    c.put_in.ensures ∙ sym ((first_events g.L.Layers.rules c.args.settings.now c.args.now c.args.state.now c.settled-came.result p few
    (subst (λ m. Came c.settled-came.result (λ limit. try_settle g.L.Layers.rules c.args.settings.now c.args.now limit m) p) e c.settled-came.ensures.came)).state few)

pub returns-clause-events : goal.returns-clause-events
returns-clause-events g c =
    let p = c.settled-came.new.p in
    let e : c.taken_out-p.result.state ≡ c.args.state.now = ap (λ (q : Progress). q.state) c.taken_out-p.ensures in
    let few = few_events c.args.most p (c.settled-came.ensures.within (begun_within c.args.most c.taken_out-p.result _ c.taken_out-p.ensures)) c.requires.few in
    (first_events g.L.Layers.rules c.args.settings.now c.args.now c.args.state.now c.settled-came.result p few
    (subst (λ m. Came c.settled-came.result (λ limit. try_settle g.L.Layers.rules c.args.settings.now c.args.now limit m) p) e c.settled-came.ensures.came)).events few

pub returns-clause-begun : goal.returns-clause-begun
returns-clause-begun g c =
    let p = c.settled-came.new.p in
    let e : c.taken_out-p.result.state ≡ c.args.state.now = ap (λ (q : Progress). q.state) c.taken_out-p.ensures in
    subst AreBegun (sym c.put_in.ensures)
    (settled_begun g.L.Layers.rules c.args.settings.now c.args.now c.args.state.now c.settled-came.result p (few_events c.args.most p (c.settled-came.ensures.within (begun_within c.args.most c.taken_out-p.result _ c.taken_out-p.ensures)) c.requires.few)
    (subst (λ m. Came c.settled-came.result (λ limit. try_settle g.L.Layers.rules c.args.settings.now c.args.now limit m) p) e c.settled-came.ensures.came) c.requires.begun)

pub returns-clause-most : goal.returns-clause-most
returns-clause-most g c = c.settled-came.ensures.within (begun_within c.args.most c.taken_out-p.result _ c.taken_out-p.ensures)

pub returns-clause-none : goal.returns-clause-none
returns-clause-none g c = λ none. none_stand g.L.Layers.rules c.args.settings.now c.args.now c.args.state.now c.settled-came.new.p.events c.put_in.new.state none (returns-clause-state g c)
