use Rattle.std.proofs.Common.{◌∙◌, ap, subst}
use Rattle.std.specs.Prelude.{option_map}
use Rattle.std.specs.declared.option.Option.TheVariants.{Some}
use Rattle.std.specs.FinMap.Entries.{is_sorted}
use Rattle.std.proofs.Math.ListN.{set}
use Rattle.cat_collections.proofs.Placed.{put_between}
use Rattle.cat_collections.proofs.Rising.{put_rises}
use Rattle.cat_collections.proofs.Searched.{put_here}
use Rattle.cat_collections.proofs.Taken.{none_taken, taken_at}
use Rattle.cat_collections.specs.Rows.{IsAt, IsBetween}
use Rattle.cat_collections.specs.Table.{find, put}
use Rattle.cat_owned_map.proofs.owned.Owned.put_node.Goals as goal

pub returns-in-Ok-clause-before : goal.returns-in-Ok-clause-before
returns-in-Ok-clause-before g c =
    let e = c.args.node in
    let at = subst (λ (x : g.row.K.Denot × g.row.X.Denot). IsAt g.K.Key.order x.0 c.self.inside.tree c.in-Ok.place) c.item.ensures c.in-Ok.ensures in
    ap Some c.fill.ensures
    ∙ (taken_at g.met.K.Key.total g.met.K.Key.apart e.0 c.self.inside.tree c.in-Ok.place c.exchange-before.result at c.exchange-before.ensures.item
    ∙ ap (λ m. option_map (λ x. (e.0, x)) (find g.K.Key.order e.0 m)) c.self.view_is)

pub returns-in-Ok-clause-entries : goal.returns-in-Ok-clause-entries
returns-in-Ok-clause-entries g c =
    let e = c.args.node in
    let at = subst (λ (x : g.row.K.Denot × g.row.X.Denot). IsAt g.K.Key.order x.0 c.self.inside.tree c.in-Ok.place) c.item.ensures c.in-Ok.ensures in
    c.exchange-before.ensures.items
    ∙ (ap (set c.self.inside.tree c.in-Ok.place) c.open-entry.ensures
    ∙ (put_here g.met.K.Key.total g.met.K.Key.apart e.0 e.1 c.self.inside.tree c.in-Ok.place at ∙ ap (put g.K.Key.order e.0 e.1) c.self.view_is))

pub returns-in-Err-clause-before : goal.returns-in-Err-clause-before
returns-in-Err-clause-before g c =
    let e = c.args.node in
    let at = subst (λ (x : g.row.K.Denot × g.row.X.Denot). IsBetween g.K.Key.order x.0 c.self.inside.tree c.in-Err.place) c.item.ensures c.in-Err.ensures in
    none_taken g.met.K.Key.total g.met.K.Key.apart e.0 c.self.inside.tree c.in-Err.place at ∙ ap (λ m. option_map (λ x. (e.0, x)) (find g.K.Key.order e.0 m)) c.self.view_is

pub returns-in-Err-clause-entries : goal.returns-in-Err-clause-entries
returns-in-Err-clause-entries g c =
    let e = c.args.node in
    let at = subst (λ (x : g.row.K.Denot × g.row.X.Denot). IsBetween g.K.Key.order x.0 c.self.inside.tree c.in-Err.place) c.item.ensures c.in-Err.ensures in
    c.insert.ensures ∙ (put_between g.met.K.Key.total g.met.K.Key.apart e.0 e.1 c.self.inside.tree c.in-Err.place at ∙ ap (put g.K.Key.order e.0 e.1) c.self.view_is)

pub invariant_of-self : goal.invariant_of-self
invariant_of-self g c =
    let e = c.args.node in
    let at = subst (λ (x : g.row.K.Denot × g.row.X.Denot). IsAt g.K.Key.order x.0 c.self.inside.tree c.in-Ok.place) c.item.ensures c.in-Ok.ensures in
    ap (is_sorted g.K.Key.order) (c.exchange-before.ensures.items ∙ (ap (set c.self.inside.tree c.in-Ok.place) c.open-entry.ensures ∙ put_here g.met.K.Key.total g.met.K.Key.apart e.0 e.1 c.self.inside.tree c.in-Ok.place at))
    ∙ put_rises g.met.K.Key.total e.0 e.1 c.self.inside.tree c.self.invariant

pub invariant_of-self-in-Err : goal.invariant_of-self-in-Err
invariant_of-self-in-Err g c =
    let e = c.args.node in
    let at = subst (λ (x : g.row.K.Denot × g.row.X.Denot). IsBetween g.K.Key.order x.0 c.self.inside.tree c.in-Err.place) c.item.ensures c.in-Err.ensures in
    ap (is_sorted g.K.Key.order) (c.insert.ensures ∙ put_between g.met.K.Key.total g.met.K.Key.apart e.0 e.1 c.self.inside.tree c.in-Err.place at)
    ∙ put_rises g.met.K.Key.total e.0 e.1 c.self.inside.tree c.self.invariant
