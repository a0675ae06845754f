use Rattle.std.proofs.Common.{◌≡◌, ◌&&◌, is_some, sym, ap, ◌∙◌}
use Rattle.std.specs.declared.option.Option.{Option}
use Rattle.std.specs.Option.{option_and_then}
use Rattle.std.specs.List.{list_any}
use Rattle.cat_collections.specs.Table.{get, same_text}
use Rattle.cat_model.specs.declared.types.Record.{Record}
use Rattle.cat_plan.specs.Following.{kept_now, orphan_now}
use Rattle.cat_plan.proofs.Shifted.{shifted}
use Rattle.cat_plan.proofs.mark_plan.has_moved.Goals as goal

pub returns-then-is_relinked : goal.returns-then-is_relinked
returns-then-is_relinked g c =
    let x = c.args.change.now in
    let r = c.args.reference.now in
    let plan = c.args.plan.now in
    sym (shifted g.L.Layers.rules x.links.now plan.after plan.changed r (get x.m.now.orphans r) (orphan_now x.how x.own.now x.m.now x.holders.now r) (get x.m.now.records r) (kept_now x.own.now x.m.now x.holders.now r)
    c.requires.apart
    (sym (c.is_relinked.ensures ∙ ap (λ (v : Option Record). list_any (same_text r) plan.changed && is_some (option_and_then (λ (y : Record). y.output) v)) c.kept_now.ensures) ∙ c.if-is_relinked.true))
