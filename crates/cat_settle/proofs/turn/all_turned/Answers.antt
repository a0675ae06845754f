use Rattle.std.proofs.Common.{◌≡◌, ◌+◌, ◌∷◌, ◌∙◌, drop, ap, sym, subst, rules}
use Rattle.std.proofs.lemmas.List.{at_drop_all, drop_more}
use Rattle.cat_model.specs.Settle.{try_turn, try_turns}
use Rattle.cat_settle.proofs.Gathering.{gathers_on}
use Rattle.cat_settle.proofs.Parts.{Leads, goes_on, leads_cut, leads_on, nothing_done, rests, same_done}
use Rattle.cat_settle.proofs.Stays.{turns_stays}
use Rattle.cat_settle.proofs.turn.all_turned.Goals as goal

pub returns-in-Err-clause-came : goal.returns-in-Err-clause-came
returns-in-Err-clause-came g c =
    let refs = c.args.refs.now in
    let i = c.loop-reference.reference-index in
    let p = c.loop-reference.p in
    let item = c.reference-item.result in
    let rest = drop (i + 1) refs in
    let e : drop i refs ≡ item ∷ rest = drop_more refs i item (search rules) ∙ ap (λ z. z ∷ rest) (sym c.reference-item.is) in
    leads_cut g.L.Layers.rules (λ limit. try_turns g.L.Layers.rules c.args.settings.now c.args.now limit c.args.refs.now c.args.p.now) p c.turned.new.p (λ limit x. try_turn g.L.Layers.rules c.args.settings.now c.args.now limit item x) (λ limit x. try_turns g.L.Layers.rules c.args.settings.now c.args.now limit rest x) (turns_stays g.L.Layers.rules c.args.settings.now c.args.now rest) c.turned.ensures.goes
    (subst (λ l. Leads g.L.Layers.rules (λ limit. try_turns g.L.Layers.rules c.args.settings.now c.args.now limit c.args.refs.now c.args.p.now) p (λ limit x. try_turns g.L.Layers.rules c.args.settings.now c.args.now limit l x)) e c.loop-reference.invariant.leads) c.in-Err.ensures.came

pub loop-reference-preserved : goal.loop-reference-preserved
loop-reference-preserved g c =
    let refs = c.args.refs.now in
    let i = c.loop-reference.reference-index in
    let p = c.loop-reference.p in
    let item = c.reference-item.result in
    let rest = drop (i + 1) refs in
    let e : drop i refs ≡ item ∷ rest = drop_more refs i item (search rules) ∙ ap (λ z. z ∷ rest) (sym c.reference-item.is) in
    record {
      leads = leads_on g.L.Layers.rules (λ limit. try_turns g.L.Layers.rules c.args.settings.now c.args.now limit c.args.refs.now c.args.p.now) p c.turned.new.p (λ limit x. try_turn g.L.Layers.rules c.args.settings.now c.args.now limit item x) (λ limit x. try_turns g.L.Layers.rules c.args.settings.now c.args.now limit rest x) (turns_stays g.L.Layers.rules c.args.settings.now c.args.now rest) c.turned.ensures.goes
          (subst (λ l. Leads g.L.Layers.rules (λ limit. try_turns g.L.Layers.rules c.args.settings.now c.args.now limit c.args.refs.now c.args.p.now) p (λ limit x. try_turns g.L.Layers.rules c.args.settings.now c.args.now limit l x)) e c.loop-reference.invariant.leads) c.in-Ok.ensures.came;
      goes = goes_on g.L.Layers.rules c.args.p.now p c.turned.new.p c.loop-reference.invariant.goes c.turned.ensures.goes;
      within = λ h. c.turned.ensures.within (c.loop-reference.invariant.within h);
      gathers = gathers_on c.args.reached.now c.loop-reference.reached c.turned.new.reached c.args.p.now.state p.state c.turned.new.p.state c.loop-reference.invariant.gathers c.turned.ensures.gathers;
      steady = c.turned.ensures.steady;
    }

pub returns-clause-came : goal.returns-clause-came
returns-clause-came g c =
    let p = c.loop-reference.p in
    c.loop-reference.invariant.leads.done p (rests g.L.Layers.rules p)
    (same_done (λ limit. p) _ (λ limit. sym (at_drop_all (λ l. try_turns g.L.Layers.rules c.args.settings.now c.args.now limit l p) c.args.refs.now c.loop-reference.reference-index (search rules))) p (nothing_done p))

pub returns-in-Err-clause-gathers : goal.returns-in-Err-clause-gathers
returns-in-Err-clause-gathers g c =
    gathers_on c.args.reached.now c.loop-reference.reached c.turned.new.reached c.args.p.now.state c.loop-reference.p.state c.turned.new.p.state c.loop-reference.invariant.gathers c.turned.ensures.gathers
