use Rattle.std.proofs.Common.{◌≡◌, ◌∙◌, ap, sym, subst, true}
use Rattle.std.specs.FinMap.Entries.{is_sorted}
use Rattle.cat_collections.proofs.Placed.{without_at, without_between}
use Rattle.cat_collections.proofs.Rising.{without_rises}
use Rattle.cat_collections.specs.Rows.{without}
use Rattle.cat_collections.proofs.map.Map.remove.Goals as goal

pub returns-in_ok-remove-in-Ok : goal.returns-in_ok-remove-in-Ok
returns-in_ok-remove-in-Ok g c =
    c.in_ok-remove-in-Ok.ensures
    ∙ (without_at g.met.K.Key.total g.met.K.Key.apart c.args.key.now c.self.inside.tree c.in-Ok.place c.self.invariant c.in-Ok.ensures ∙ ap (without g.K.Key.order c.args.key.now) c.self.view_is)

pub returns-in-Err : goal.returns-in-Err
returns-in-Err g c =
    let e = without_between g.met.K.Key.total g.met.K.Key.apart c.args.key.now c.self.inside.tree c.in-Err.field-0 c.in-Err.ensures in
    sym c.self.view_is ∙ (e ∙ ap (without g.K.Key.order c.args.key.now) c.self.view_is)

pub invariant_of-self-in-Ok : goal.invariant_of-self-in-Ok
invariant_of-self-in-Ok g c =
    ap (is_sorted g.K.Key.order) (returns-in_ok-remove-in-Ok g c)
    ∙ without_rises g.met.K.Key.total c.args.key.now c.args.self.now (subst (λ l. is_sorted g.K.Key.order l ≡ true) c.self.view_is c.self.invariant)
