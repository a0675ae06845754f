use Rattle.std.proofs.Common.{◌∙◌}
use Rattle.std.proofs.lemmas.Result.{IfOk-weaker}
use Rattle.cat_plan.proofs.Relinking.{linked_are}
use Rattle.cat_plan.proofs.link_plan.plan_links.Goals as goal

pub returns-clause-linked : goal.returns-clause-linked
returns-clause-linked g c =
    let x = c.args.change.now in
    IfOk-weaker c.plan.result _ _
    (λ p e n change. linked_are g.L.Layers.rules x.how x.own.now x.shelf.now x.rows.now x.holders.now x.fresh.now x.leaving.now x.touched.now x.m.now n c.requires.sound c.requires.reach change
    x.links.now p.after c.as_slice.result.now c.requires.linked (c.as_slice.ensures.value ∙ c.in_ok-changes.ensures) e)
    c.plan.ensures.after
