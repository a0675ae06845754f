use Rattle.std.proofs.Common.{◌≡◌, ◌++◌, List, ap, ◌∙◌}
use Rattle.cat_collections.specs.Order.{in_order}
use Rattle.cat_collections.specs.Table.{text_cmp}
use Rattle.cat_model.specs.Catalogue.{Ref}
use Rattle.cat_plan.specs.Following.{own_refs}
use Rattle.cat_plan.proofs.Relinking.{planned_documents, planned_marks, planned_ticket}
use Rattle.cat_plan.proofs.mark_plan.plan_marks.Goals as goal

pub returns-clause-marks : goal.returns-clause-marks
returns-clause-marks g c = λ n change.
    let x = c.args.change.now in
    let asked : c.in_ok-all.all.items ≡ in_order text_cmp (((own_refs x.own.now ++ x.fresh.now) ++ x.leaving.now) ++ c.args.plan.now.changed) =
    c.in_ok-all.ensures ∙ ap (λ (l : List Ref). in_order text_cmp (((own_refs x.own.now ++ x.fresh.now) ++ x.leaving.now) ++ l)) c.changed.ensures in
    planned_marks g.L.Layers.rules x.how x.own.now x.shelf.now x.rows.now x.holders.now x.fresh.now x.leaving.now x.touched.now x.m.now n c.requires.sound c.requires.reach change
    c.requires.ordered x.links.now c.args.plan.now.after c.args.plan.now.changed c.requires.before (c.requires.after n change) c.requires.changed
    c.as_slice.result.now c.in_ok-moved.moved c.as_slice-2.result.now c.as_slice-3.result.now c.in_ok-put.put.items c.in_ok-gone.gone
    (c.as_slice.ensures.value ∙ asked) c.in_ok-moved.ensures c.as_slice-2.ensures c.in_ok-put.ensures (c.as_slice-3.ensures.value ∙ asked) c.in_ok-gone.ensures

pub returns-clause-documents : goal.returns-clause-documents
returns-clause-documents g c = λ n change.
    let x = c.args.change.now in
    let asked : c.in_ok-all.all.items ≡ in_order text_cmp (((own_refs x.own.now ++ x.fresh.now) ++ x.leaving.now) ++ c.args.plan.now.changed) =
    c.in_ok-all.ensures ∙ ap (λ (l : List Ref). in_order text_cmp (((own_refs x.own.now ++ x.fresh.now) ++ x.leaving.now) ++ l)) c.changed.ensures in
    planned_documents g.L.Layers.rules x.how x.own.now x.shelf.now x.rows.now x.holders.now x.fresh.now x.leaving.now x.touched.now x.m.now n c.requires.sound c.requires.reach change
    c.requires.ordered x.links.now c.args.plan.now.after c.args.plan.now.changed c.requires.before (c.requires.after n change) c.requires.changed
    c.as_slice-4.result.now c.in_ok-documents.documents (c.as_slice-4.ensures.value ∙ asked) c.in_ok-documents.ensures

pub returns-clause-ticket : goal.returns-clause-ticket
returns-clause-ticket g c = λ n change.
    let x = c.args.change.now in
    let asked : c.in_ok-all.all.items ≡ in_order text_cmp (((own_refs x.own.now ++ x.fresh.now) ++ x.leaving.now) ++ c.args.plan.now.changed) =
    c.in_ok-all.ensures ∙ ap (λ (l : List Ref). in_order text_cmp (((own_refs x.own.now ++ x.fresh.now) ++ x.leaving.now) ++ l)) c.changed.ensures in
    planned_ticket g.L.Layers.rules x.how x.own.now x.shelf.now x.rows.now x.holders.now x.fresh.now x.leaving.now x.touched.now x.m.now n c.requires.sound c.requires.reach change
    c.requires.ordered x.links.now c.args.plan.now.after c.args.plan.now.changed c.requires.before (c.requires.after n change) c.requires.changed
    c.as_slice.result.now c.in_ok-moved.moved c.as_slice-5.result.now _ (c.as_slice.ensures.value ∙ asked) c.in_ok-moved.ensures c.as_slice-5.ensures c.count_of.ensures.count

pub moved-requires-clause-rises : goal.moved-requires-clause-rises
moved-requires-clause-rises g c = c.requires.changed.rises

pub moved-requires-clause-apart : goal.moved-requires-clause-apart
moved-requires-clause-apart g c = c.requires.changed.sound
