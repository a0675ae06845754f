use Rattle.std.proofs.Common.{◌≡◌, ◌+◌, ◌∙◌, ap, sym, subst, drop, List}
use Rattle.std.specs.Prelude.{slice_get}
use Rattle.std.specs.Arc.{arc_value}
use Rattle.std.specs.declared.option.Option.TheVariants.{Some}
use Rattle.cat_collections.specs.Table.{put, puts}
use Rattle.cat_collections.proofs.Sides.{drop_get}
use Rattle.cat_collections.proofs.map.Map.put_map.Goals as goal

pub loop-place-preserved : goal.loop-place-preserved
loop-place-preserved g c =
    let r = g.K.Key.order in
    let o = c.args.other.now in
    let i = c.loop-place.place in
    let e = arc_value c.in-Some.entry.now in
    let at : slice_get o i ≡ Some e = subst (λ (l : List (g.row.K.Denot × g.row.X.Denot)). slice_get l i ≡ Some e) c.other.view_is (sym c.in-Some.ensures) in
    let left = drop_get o i e at in
    ap (puts r (drop (i + 1) o)) (c.in_ok-put_shared.ensures ∙ ap (λ (x : g.row.K.Denot × g.row.X.Denot). put r x.0 x.1 c.loop-place.next) c.in_ok-try_clone.ensures)
    ∙ (sym (ap (λ (es : List (g.row.K.Denot × g.row.X.Denot)). puts r es c.loop-place.next) left) ∙ c.loop-place.invariant)
