-- What a shelf change and a forget come to.
use Rattle.std.proofs.Common.{◌≡◌, true, cond, ◌&&◌, ◌||◌, is_some, is_none, refl, sym, ap, ◌∙◌, true≢false}
use Rattle.std.specs.declared.option.Option.{Option}
use Rattle.std.specs.declared.option.Option.TheVariants.{None, Some}
use Rattle.cat_collections.specs.Table.{Text, get}
use Rattle.cat_model.specs.declared.types.Fault.{Fault}
use Rattle.cat_model.specs.declared.types.Fault.TheVariants.{NotFound}
use Rattle.cat_model.specs.declared.types.Orphan.{Orphan}
use Rattle.cat_model.specs.declared.types.Record.{Record}
use Rattle.cat_model.specs.declared.types.Leaving.TheVariants.{Deleted}
use Rattle.cat_model.specs.declared.types.Settings.{Settings}
use Rattle.cat_model.specs.declared.types.State.{State}
use Rattle.cat_model.specs.Catalogue.{Rules, frame}
use Rattle.cat_model.specs.Step.{fault_where, forgotten, or_else, spent}
use Rattle.cat_model.specs.Step.Event.{Forget, ShelfDrop, ShelfPut}
use Rattle.cat_events.specs.Stepped.{come_to, dropped, is_known, over_limit, shelved, stepped}
use Rattle.cat_events.specs.declared.stepped.Stepped.{Stepped}

pub put_steps : (rules : Rules) (s : Settings) (name text : Text) (m n f : State) (fault : Option Fault) (o : Stepped)
    → n ≡ shelved name text m → f ≡ frame rules Deleted m n → fault ≡ or_else (over_limit rules s f) (spent f) → o ≡ stepped fault f → o ≡ come_to rules s (ShelfPut name text) m
put_steps rules s name text m n f fault o en ef ea eo =
    eo ∙ (ap (λ v. stepped v f) ea ∙ ap (λ x. stepped (or_else (over_limit rules s x) (spent x)) x) (ef ∙ ap (frame rules Deleted m) en))

pub drop_steps : (rules : Rules) (s : Settings) (name : Text) (m n f : State) (o : Stepped)
    → is_some (get m.shelf name) ≡ true → n ≡ dropped name m → f ≡ frame rules Deleted m n → o ≡ stepped (spent f) f → o ≡ come_to rules s (ShelfDrop name) m
drop_steps rules s name m n f o there en ef eo =
    eo ∙ (ap (λ x. stepped (spent x) x) (ef ∙ ap (frame rules Deleted m) en) ∙ shape (get m.shelf name) there)
  where
    shape : (v : Option Text) → is_some v ≡ true
        → stepped (spent (frame rules Deleted m (dropped name m))) (frame rules Deleted m (dropped name m))
        ≡ stepped (or_else (fault_where (is_none v) NotFound) (or_else None (spent (cond (is_some v) (frame rules Deleted m (dropped name m)) m)))) (cond (is_some v) (frame rules Deleted m (dropped name m)) m)
    shape None h = absurd (true≢false (sym h))
    shape (Some x) h = refl

pub forget_steps : (rules : Rules) (s : Settings) (r : Text) (m n f : State) (o : Stepped)
    → is_known m r ≡ true → n ≡ forgotten r m → f ≡ frame rules Deleted m n → o ≡ stepped (spent f) f → o ≡ come_to rules s (Forget r) m
forget_steps rules s r m n f o there en ef eo =
    eo ∙ (ap (λ x. stepped (spent x) x) (ef ∙ ap (frame rules Deleted m) en) ∙ shape (get m.records r) (get m.orphans r) there)
  where
    shape : (u : Option Record) (w : Option Orphan) → (is_some u || is_some w) ≡ true
        → stepped (spent (frame rules Deleted m (forgotten r m))) (frame rules Deleted m (forgotten r m))
        ≡ stepped (or_else (fault_where (is_none u && is_none w) NotFound) (or_else None (spent (cond (is_some u || is_some w) (frame rules Deleted m (forgotten r m)) m)))) (cond (is_some u || is_some w) (frame rules Deleted m (forgotten r m)) m)
    shape None None h = absurd (true≢false (sym h))
    shape None (Some y) h = refl
    shape (Some x) w h = refl
