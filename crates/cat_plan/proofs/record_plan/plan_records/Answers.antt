use Rattle.std.proofs.Common.{◌∙◌}
use Rattle.cat_plan.proofs.Recording.{planned_number, planned_orphans, planned_records}
use Rattle.cat_plan.proofs.record_plan.plan_records.Goals as goal

pub returns-clause-records : goal.returns-clause-records
returns-clause-records g c = λ n change.
    let x = c.args.change.now in
    planned_records g.L.Layers.rules x.how x.own.now x.shelf.now x.rows.now x.holders.now x.fresh.now x.leaving.now x.touched.now x.m.now n c.requires.sound c.requires.reach change
    c.as_slice-4.result.now c.as_slice.result.now c.in_ok-drawn.drawn c.as_slice-3.result.now c.from_vec-numbers.result c.in_ok-records.records.put.items c.in_ok-records.records.gone
    (c.as_slice-4.ensures.value ∙ c.in_ok-all.ensures) (c.as_slice.ensures.value ∙ c.in_ok-all.ensures) c.in_ok-drawn.ensures c.as_slice-3.ensures (c.from_vec-numbers.ensures ∙ c.in_ok-entries.ensures)
    c.in_ok-records.ensures.put c.in_ok-records.ensures.gone

pub returns-clause-orphans : goal.returns-clause-orphans
returns-clause-orphans g c = λ n change.
    let x = c.args.change.now in
    planned_orphans g.L.Layers.rules x.how x.own.now x.shelf.now x.rows.now x.holders.now x.fresh.now x.leaving.now x.touched.now x.m.now n c.requires.sound c.requires.reach change
    c.as_slice-5.result.now c.in_ok-orphans.orphans.put.items c.in_ok-orphans.orphans.gone
    (c.as_slice-5.ensures.value ∙ c.in_ok-all.ensures) c.in_ok-orphans.ensures.put c.in_ok-orphans.ensures.gone c.requires.ordered.orphans

pub returns-clause-number : goal.returns-clause-number
returns-clause-number g c = λ n change.
    let x = c.args.change.now in
    planned_number g.L.Layers.rules x.how x.own.now x.shelf.now x.rows.now x.holders.now x.fresh.now x.leaving.now x.touched.now x.m.now n c.requires.sound c.requires.reach change
    c.as_slice.result.now c.in_ok-drawn.drawn c.as_slice-2.result.now _ (c.as_slice.ensures.value ∙ c.in_ok-all.ensures) c.in_ok-drawn.ensures c.as_slice-2.ensures c.count_of-count.ensures.count
