use Rattle.std.proofs.Common.{ap, sym, ◌∙◌}
use Rattle.cat_collections.specs.Rows.{without}
use Rattle.cat_collections.specs.Table.{put, text_cmp}
use Rattle.cat_model.specs.Step.{is_present_stitch}
use Rattle.cat_events.proofs.Stored.{stitch_comes}
use Rattle.cat_events.proofs.stitch.put_stitch.Goals as goal

pub returns-in_ok-put : goal.returns-in_ok-put
returns-in_ok-put g c =
    let m = c.args.state.now in
    let same = c.order-order.ensures in
    stitch_comes g.L.Layers.rules c.args.settings.now c.args.stitched.now.order.now m c.args.links.now c.put.new.self c.remove.new.self
    (ap (is_present_stitch g.L.Layers.rules m) (sym same) ∙ (sym c.in_ok-present_stitch.ensures ∙ c.if-branch.true)) c.requires
    (c.in_ok-put.ensures ∙ (λ i. put text_cmp ((c.in_ok-reference.ensures ∙ ap (λ o. o.reference) same) i) ((c.in_ok-document.ensures ∙ c.document.ensures) i) m.documents))
    (c.in_ok-remove.ensures ∙ (λ i. without text_cmp (ap (λ o. o.reference) same i) (c.in_ok-marks.ensures i)))
