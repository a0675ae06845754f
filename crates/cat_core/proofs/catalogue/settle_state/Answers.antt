use Rattle.std.proofs.Common.{◌≡◌, ◌-◌, ◌^◌, arith, ap, sym, subst, ◌∙◌}
use Rattle.cat_model.specs.Sound.{AreBegun}
use Rattle.cat_model.specs.declared.types.Progress.{Progress}
use Rattle.cat_model.specs.Settle.{try_settle}
use Rattle.cat_settle.specs.Part.{Came}
use Rattle.cat_affected.specs.Gathered.{Gathers}
use Rattle.cat_core.specs.Answer.{IsSettled}
use Rattle.cat_core.proofs.Settles.{begun_within, few_events, settled_begun, settles}
use Rattle.cat_core.proofs.catalogue.settle_state.Goals as goal

pub returns-clause-settled : goal.returns-clause-settled
returns-clause-settled g c =
    let p = c.settled-came.new.p in
    let e : c.taken_out-p.result.state ≡ c.args.state.now = ap (λ (q : Progress). q.state) c.taken_out-p.ensures in
    subst (λ n. IsSettled g.L.Layers.rules c.args.settings.now c.args.now c.args.state.now c.settle_reply-reply.result n) (sym c.put_in.ensures)
    (subst (λ r. IsSettled g.L.Layers.rules c.args.settings.now c.args.now c.args.state.now r p.state) (sym c.settle_reply-reply.ensures)
    (settles g.L.Layers.rules c.args.settings.now c.args.now c.args.state.now c.requires.interval c.requires.steady.sound c.settled-came.result p (few_events (2 ^ 64 - 2) p (c.settled-came.ensures.within (begun_within (2 ^ 64 - 2) c.taken_out-p.result _ c.taken_out-p.ensures)) (omega arith))
    (subst (λ m. Came c.settled-came.result (λ limit. try_settle g.L.Layers.rules c.args.settings.now c.args.now limit m) p) e c.settled-came.ensures.came)))

pub returns-clause-begun : goal.returns-clause-begun
returns-clause-begun g c =
    let p = c.settled-came.new.p in
    let e : c.taken_out-p.result.state ≡ c.args.state.now = ap (λ (q : Progress). q.state) c.taken_out-p.ensures in
    subst AreBegun (sym c.put_in.ensures)
    (settled_begun g.L.Layers.rules c.args.settings.now c.args.now c.args.state.now c.settled-came.result p (few_events (2 ^ 64 - 2) p (c.settled-came.ensures.within (begun_within (2 ^ 64 - 2) c.taken_out-p.result _ c.taken_out-p.ensures)) (omega arith))
    (subst (λ m. Came c.settled-came.result (λ limit. try_settle g.L.Layers.rules c.args.settings.now c.args.now limit m) p) e c.settled-came.ensures.came) c.requires.begun)

pub returns-clause-gathers : goal.returns-clause-gathers
returns-clause-gathers g c =
    let e : c.taken_out-p.result.state ≡ c.args.state.now = ap (λ (q : Progress). q.state) c.taken_out-p.ensures in
    subst (λ n. Gathers c.args.reached.now c.args.state.now c.settled-came.new.reached n) (sym c.put_in.ensures)
    (subst (λ m. Gathers c.args.reached.now m c.settled-came.new.reached c.settled-came.new.p.state) e c.settled-came.ensures.gathers)
