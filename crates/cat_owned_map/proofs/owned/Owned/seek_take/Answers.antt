use Rattle.std.proofs.Common.{◌≡◌, ◌∙◌, ap, sym, subst, true, length, arith}
use Rattle.std.specs.List.{remove}
use Rattle.std.proofs.lemmas.List.Edits.{length-remove}
use Rattle.cat_collections.specs.Rows.{IsAt}
use Rattle.std.specs.Prelude.{option_map}
use Rattle.std.specs.FinMap.Entries.{is_sorted}
use Rattle.cat_collections.proofs.Placed.{without_at, without_between}
use Rattle.cat_collections.proofs.Rising.{without_rises}
use Rattle.cat_collections.proofs.Taken.{none_taken, taken_at}
use Rattle.cat_collections.specs.Rows.{without}
use Rattle.cat_collections.specs.Table.{find}
use Rattle.cat_owned_map.proofs.owned.Owned.seek_take.Goals as goal

pub returns-in-Ok-clause-node : goal.returns-in-Ok-clause-node
returns-in-Ok-clause-node g c =
    let k = g.S.Seek.sought c.args.key.now in
    taken_at g.met.K.Key.total g.met.K.Key.apart k c.self.inside.tree c.in-Ok.place c.remove.result c.in-Ok.ensures c.remove.ensures.node
    ∙ ap (λ m. option_map (λ x. (k, x)) (find g.K.Key.order k m)) c.self.view_is

pub returns-in-Ok-clause-entries : goal.returns-in-Ok-clause-entries
returns-in-Ok-clause-entries g c =
    let k = g.S.Seek.sought c.args.key.now in
    c.remove.ensures.rest
    ∙ (without_at g.met.K.Key.total g.met.K.Key.apart k c.self.inside.tree c.in-Ok.place c.self.invariant c.in-Ok.ensures ∙ ap (without g.K.Key.order k) c.self.view_is)

pub returns-in-Err-clause-node : goal.returns-in-Err-clause-node
returns-in-Err-clause-node g c =
    let k = g.S.Seek.sought c.args.key.now in
    none_taken g.met.K.Key.total g.met.K.Key.apart k c.self.inside.tree c.in-Err.field-0 c.in-Err.ensures ∙ ap (λ m. option_map (λ x. (k, x)) (find g.K.Key.order k m)) c.self.view_is

pub returns-in-Err-clause-entries : goal.returns-in-Err-clause-entries
returns-in-Err-clause-entries g c =
    let k = g.S.Seek.sought c.args.key.now in
    let e = without_between g.met.K.Key.total g.met.K.Key.apart k c.self.inside.tree c.in-Err.field-0 c.in-Err.ensures in
    sym c.self.view_is ∙ (e ∙ ap (without g.K.Key.order k) c.self.view_is)

pub invariant_of-self : goal.invariant_of-self
invariant_of-self g c =
    let k = g.S.Seek.sought c.args.key.now in
    ap (is_sorted g.K.Key.order) (returns-in-Ok-clause-entries g c)
    ∙ without_rises g.met.K.Key.total k c.args.self.now (subst (λ l. is_sorted g.K.Key.order l ≡ true) c.self.view_is c.self.invariant)

pub returns-in-Ok-clause-room : goal.returns-in-Ok-clause-room
returns-in-Ok-clause-room g c =
    let m = c.self.inside.tree in
    let at = c.in-Ok.ensures in
    omega (arith, ap length c.remove.ensures.rest, length-remove m c.in-Ok.place at.within, c.len-most.ensures.most, c.len-most.ensures.items)
