use Rattle.std.proofs.Common.{◌≡◌, ◌+◌, ◌∷◌, ◌∙◌, drop, ap, sym, subst, rules}
use Rattle.std.proofs.lemmas.List.{at_drop_all, drop_more}
use Rattle.cat_model.specs.Settle.{mark_order, try_stitch_with, try_stitches}
use Rattle.cat_settle.proofs.Gathering.{still_on}
use Rattle.cat_settle.proofs.Parts.{Leads, goes_on, leads_cut, leads_on, nothing_done, rests, same_done}
use Rattle.cat_settle.proofs.Stays.{stitches_stays}
use Rattle.cat_settle.proofs.stitches.all_stitched.Goals as goal

pub returns-in-Err-clause-came : goal.returns-in-Err-clause-came
returns-in-Err-clause-came g c =
    let refs = c.args.refs.now in
    let i = c.loop-reference.reference-index in
    let p = c.loop-reference.p in
    let item = c.reference-item.result in
    let rest = drop (i + 1) refs in
    let e : drop i refs ≡ item ∷ rest = drop_more refs i item (search rules) ∙ ap (λ z. z ∷ rest) (sym c.reference-item.is) in
    leads_cut g.L.Layers.rules (λ limit. try_stitches g.L.Layers.rules c.args.settings.now limit c.args.refs.now c.args.p.now) p c.mark_tried.new.p (λ limit x. try_stitch_with g.L.Layers.rules c.args.settings.now limit (mark_order g.L.Layers.rules x.state item) x) (λ limit x. try_stitches g.L.Layers.rules c.args.settings.now limit rest x) (stitches_stays g.L.Layers.rules c.args.settings.now rest) c.mark_tried.ensures.goes
    (subst (λ l. Leads g.L.Layers.rules (λ limit. try_stitches g.L.Layers.rules c.args.settings.now limit c.args.refs.now c.args.p.now) p (λ limit x. try_stitches g.L.Layers.rules c.args.settings.now limit l x)) e c.loop-reference.invariant.leads) c.in-Err.ensures.came

pub loop-reference-preserved : goal.loop-reference-preserved
loop-reference-preserved g c =
    let refs = c.args.refs.now in
    let i = c.loop-reference.reference-index in
    let p = c.loop-reference.p in
    let item = c.reference-item.result in
    let rest = drop (i + 1) refs in
    let e : drop i refs ≡ item ∷ rest = drop_more refs i item (search rules) ∙ ap (λ z. z ∷ rest) (sym c.reference-item.is) in
    record {
      leads = leads_on g.L.Layers.rules (λ limit. try_stitches g.L.Layers.rules c.args.settings.now limit c.args.refs.now c.args.p.now) p c.mark_tried.new.p (λ limit x. try_stitch_with g.L.Layers.rules c.args.settings.now limit (mark_order g.L.Layers.rules x.state item) x) (λ limit x. try_stitches g.L.Layers.rules c.args.settings.now limit rest x) (stitches_stays g.L.Layers.rules c.args.settings.now rest) c.mark_tried.ensures.goes
          (subst (λ l. Leads g.L.Layers.rules (λ limit. try_stitches g.L.Layers.rules c.args.settings.now limit c.args.refs.now c.args.p.now) p (λ limit x. try_stitches g.L.Layers.rules c.args.settings.now limit l x)) e c.loop-reference.invariant.leads) c.in-Ok.ensures.came;
      goes = goes_on g.L.Layers.rules c.args.p.now p c.mark_tried.new.p c.loop-reference.invariant.goes c.mark_tried.ensures.goes;
      within = λ h. c.mark_tried.ensures.within (c.loop-reference.invariant.within h);
      still = still_on c.args.p.now.state p.state c.mark_tried.new.p.state c.loop-reference.invariant.still c.mark_tried.ensures.still;
      steady = c.mark_tried.ensures.steady;
    }

pub returns-clause-came : goal.returns-clause-came
returns-clause-came g c =
    let p = c.loop-reference.p in
    c.loop-reference.invariant.leads.done p (rests g.L.Layers.rules p)
    (same_done (λ limit. p) _ (λ limit. sym (at_drop_all (λ l. try_stitches g.L.Layers.rules c.args.settings.now limit l p) c.args.refs.now c.loop-reference.reference-index (search rules))) p (nothing_done p))

pub returns-in-Err-clause-still : goal.returns-in-Err-clause-still
returns-in-Err-clause-still g c = still_on c.args.p.now.state c.loop-reference.p.state c.mark_tried.new.p.state c.loop-reference.invariant.still c.mark_tried.ensures.still
