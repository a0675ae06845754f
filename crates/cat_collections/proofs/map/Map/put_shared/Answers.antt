use Rattle.std.proofs.Common.{◌≡◌, ◌∙◌, ap, subst, true}
use Rattle.std.specs.FinMap.Entries.{is_sorted}
use Rattle.cat_collections.proofs.Placed.{put_between}
use Rattle.cat_collections.proofs.Rising.{put_rises}
use Rattle.cat_collections.specs.Rows.{IsAt, IsBetween}
use Rattle.cat_collections.specs.Table.{put}
use Rattle.std.specs.Arc.{arc_value}
use Rattle.cat_collections.proofs.Searched.{put_here}
use Rattle.cat_collections.proofs.map.Map.put_shared.Goals as goal

pub returns-in_ok-replace-in-Ok : goal.returns-in_ok-replace-in-Ok
returns-in_ok-replace-in-Ok g c =
    let e = arc_value c.args.entry in
    let at = subst (λ (x : g.row.K.Denot × g.row.X.Denot). IsAt g.K.Key.order x.0 c.self.inside.tree c.in-Ok.place) c.deref.ensures c.in-Ok.ensures in
    c.in_ok-replace-in-Ok.ensures
    ∙ (put_here g.met.K.Key.total g.met.K.Key.apart e.0 e.1 c.self.inside.tree c.in-Ok.place at ∙ ap (put g.K.Key.order e.0 e.1) c.self.view_is)

pub returns-in_ok-insert-in-Err : goal.returns-in_ok-insert-in-Err
returns-in_ok-insert-in-Err g c =
    let e = arc_value c.args.entry in
    let at = subst (λ (x : g.row.K.Denot × g.row.X.Denot). IsBetween g.K.Key.order x.0 c.self.inside.tree c.in-Err.place) c.deref.ensures c.in-Err.ensures in
    c.in_ok-insert-in-Err.ensures
    ∙ (put_between g.met.K.Key.total g.met.K.Key.apart e.0 e.1 c.self.inside.tree c.in-Err.place at ∙ ap (put g.K.Key.order e.0 e.1) c.self.view_is)

pub invariant_of-self-in-Ok : goal.invariant_of-self-in-Ok
invariant_of-self-in-Ok g c =
    let e = arc_value c.args.entry in
    ap (is_sorted g.K.Key.order) (returns-in_ok-replace-in-Ok g c)
    ∙ put_rises g.met.K.Key.total e.0 e.1 c.args.self.now (subst (λ l. is_sorted g.K.Key.order l ≡ true) c.self.view_is c.self.invariant)

pub invariant_of-self-in-Err : goal.invariant_of-self-in-Err
invariant_of-self-in-Err g c =
    let e = arc_value c.args.entry in
    ap (is_sorted g.K.Key.order) (returns-in_ok-insert-in-Err g c)
    ∙ put_rises g.met.K.Key.total e.0 e.1 c.args.self.now (subst (λ l. is_sorted g.K.Key.order l ≡ true) c.self.view_is c.self.invariant)
