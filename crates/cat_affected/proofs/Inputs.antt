-- What becomes of the inputs.
use Rattle.std.proofs.Common.{◌≡◌, ℕ, ◌||◌, false, cond, refl, ap, ◌∙◌, is_some, true≢false}
use Rattle.std.specs.declared.option.Option.{Option}
use Rattle.std.specs.declared.option.Option.TheVariants.{None, Some}
use Rattle.cat_collections.specs.Table.{Text, get}
use Rattle.cat_collections.proofs.Tables.{text_total, text_antisymmetric, find-put_other}
use Rattle.cat_model.specs.Catalogue.{Ref, Rules, frame}
use Rattle.cat_model.specs.Step.{Event, change, finish, finished_state, forget, forget_at, forgotten, is_present, is_present_stitch, leaving, next_taken, ref_at, refresh, step, take, take_next, without_key}
use Rattle.cat_model.specs.Step.Event.{Mutate, ShelfPut, ShelfDrop, Refresh, Forget, ForgetNumber, Take, TakeAt, Finish, PutStitch}
use Rattle.cat_model.specs.declared.types.Leaving.TheVariants.{Deleted}
use Rattle.cat_model.specs.declared.types.Order.{Order}
use Rattle.cat_model.specs.declared.types.Record.{Record}
use Rattle.cat_model.specs.declared.types.Settings.{Settings}
use Rattle.cat_model.specs.declared.types.State.{State}
use Rattle.cat_laws.proofs.Steps.{get-without_key, other_way}
use Rattle.cat_affected.specs.Reach.{AreSameInputs, AreSameTextsBut, gives_input}
use Rattle.cat_affected.proofs.Stepped.{inputs_unchanged, at_cond, stepped}

module _ (rules : Rules) (s : Settings) (m : State) where
  abbrev Stay : State → Type 0
  Stay n = AreSameInputs m n

  none : Stay m
  none = inputs_unchanged m

  finish_of : (order : Order) (now : ℕ) (v : Option Record) → Stay (finish rules s order now m v)
  finish_of order now None = none
  finish_of order now (Some x) = at_cond Stay (is_present rules m order x) (frame rules (leaving s.orphans) m (finished_state s order.reference now x (rules.result order.work) m)) m
      (record { providers = refl; shelf = refl }) none

  forget_of : (r : Ref) → Stay (forget rules r m)
  forget_of r = at_cond Stay (is_some (get m.records r) || is_some (get m.orphans r)) (frame rules Deleted m (forgotten r m)) m (record { providers = refl; shelf = refl }) none

  forget_at_of : (v : Option Ref) → Stay (forget_at rules m v)
  forget_at_of None = none
  forget_at_of (Some r) = forget_of r

  refresh_of : (r : Ref) (v : Option Record) → Stay (refresh r m v)
  refresh_of r None = none
  refresh_of r (Some x) = record { providers = refl; shelf = refl }

  take_of : (r : Ref) (now : ℕ) (v : Option Record) → Stay (take s r now m v)
  take_of r now None = none
  take_of r now (Some x) = record { providers = refl; shelf = refl }

  take_next_of : (now : ℕ) (v : Option Ref) → Stay (take_next s now m v)
  take_next_of now None = none
  take_next_of now (Some r) = take_of r now (get m.records r)

  change_of : (e : Event) → gives_input e ≡ false → Stay (change rules s e m)
  change_of (Mutate p x) is = absurd (true≢false is)
  change_of (ShelfPut name text) is = absurd (true≢false is)
  change_of (ShelfDrop name) is = absurd (true≢false is)
  change_of (Refresh r) is = refresh_of r (get m.records r)
  change_of (Forget r) is = forget_of r
  change_of (ForgetNumber number) is = forget_at_of (ref_at m number)
  change_of (Take now) is = take_next_of now (next_taken now m)
  change_of (TakeAt r now) is = take_of r now (get m.records r)
  change_of (Finish order now) is = finish_of order now (get m.records order.reference)
  change_of (PutStitch order) is = at_cond Stay (is_present_stitch rules m order) _ m (record { providers = refl; shelf = refl }) none

  -- an event that gives no input changes none
  pub inputs_stay : (e : Event) → gives_input e ≡ false → Stay (step rules s e m)
  inputs_stay e is = stepped rules s e m Stay none (change_of e is)

  -- one of the shelf changes no text but that of its name
  abbrev Others : Text → State → Type 0
  Others name n = AreSameTextsBut name m n

  no_other : (name : Text) → Others name m
  no_other name = record { providers = refl; shelf = λ t out. refl }

  pub put_inputs : (name text : Text) → Others name (step rules s (ShelfPut name text) m)
  put_inputs name text = stepped rules s (ShelfPut name text) m (Others name) (no_other name)
      (record { providers = refl; shelf = λ t out. find-put_other text_total text_antisymmetric t name text m.shelf out })

  pub drop_inputs : (name : Text) → Others name (step rules s (ShelfDrop name) m)
  drop_inputs name = stepped rules s (ShelfDrop name) m (Others name) (no_other name)
      (at_cond (Others name) (is_some (get m.shelf name)) (frame rules Deleted m (record m { shelf = without_key name m.shelf })) m
      (record { providers = refl; shelf = λ t out. get-without_key rules s name m.shelf t ∙ ap (λ b. cond b None (get m.shelf t)) (other_way t name out) }) (no_other name))
