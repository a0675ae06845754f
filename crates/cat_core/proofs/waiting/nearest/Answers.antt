use Rattle.std.proofs.Common.{◌&&◌, is_some, sym, ap, option_map, ◌∙◌}
use Rattle.std.specs.declared.option.Option.TheVariants.{Some}
use Rattle.cat_collections.specs.Left.{items_left}
use Rattle.cat_model.specs.Reply.{place_cmp, waits}
use Rattle.cat_core.specs.Least.{nearer}
use Rattle.cat_core.specs.Waits.{is_above, nearest, place_of}
use Rattle.cat_core.proofs.Nearer.{nearest_begun, nearest_more, nearest_with}
use Rattle.cat_core.proofs.waiting.nearest.Goals as goal

pub loop-row-init : goal.loop-row-init
loop-row-init c =
    let m = c.args.m.now in
    let after = option_map (λ e. place_of e.now) c.args.after in
    (tt, tt, nearest_begun m after (items_left c.into_iter-row-iterator.result) ∙ ap (nearest m after) (ap items_left c.into_iter-row-iterator.ensures.into_iter_gives ∙ c.iter-row-items.ensures))

pub loop-row-preserved : goal.loop-row-preserved
loop-row-preserved c =
    let m = c.args.m.now in
    let after = option_map (λ e. place_of e.now) c.args.after in
    let row = c.in-Some.row.now in
    let rest = items_left c.next.new.self in
    let best = option_map (λ e. place_of e.now) c.loop-row.best in
    let p = is_above place_cmp after (place_of row) && is_some (waits m row.0 (Some row.1)) in (
      tt,
      tt,
      ap (nearest_with m after rest) (c.nearer-best.ensures ∙ ap (λ b. nearer place_cmp b (place_of row) best) c.comes_after.ensures)
          ∙ (nearest_more m after p (place_of row) best rest ∙ (sym (ap (λ rs. nearest_with m after rs best) c.in-Some.ensures.steps) ∙ c.loop-row.invariant.2)),
    )
