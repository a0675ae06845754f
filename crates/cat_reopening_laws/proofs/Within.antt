-- The stored input bytes never pass the limit.
use Rattle.std.proofs.Common.{T, ◌≡◌, ℕ, ◌≤◌, Bool, true, false, cond, ◌&&◌, ◌||◌, refl, ap, is_some, nat_lt, true≢false, arith}
use Rattle.std.specs.declared.option.Option.{Option}
use Rattle.std.specs.declared.option.Option.TheVariants.{None, Some}
use Rattle.std.specs.Option.{option_and_then}
use Rattle.std.specs.FinMap.Entries.{is_sorted, is_sorted-put}
use Rattle.std.proofs.lemmas.Bool.Decides.{nat_tests}
use Rattle.cat_collections.specs.Table.{Map, Text, get, keys, put, same_text, text_cmp}
use Rattle.cat_collections.proofs.Tables.{is_sorted-tabulate, text_antisymmetric, text_total}
use Rattle.cat_model.specs.Catalogue.{Ref, Rules, frame}
use Rattle.cat_model.specs.Step.{source_at, without_key, is_present, finish, finished_state, leaving, mutated_state, refresh, take, take_next, next_taken, forget, forget_at, forgotten, ref_at, is_present_stitch, Event, change, fault_where, not_found, or_else, refusal, spent, step, too_large}
use Rattle.cat_model.specs.Step.Event.{Mutate, ShelfPut, ShelfDrop, Refresh, Forget, ForgetNumber, Take, TakeAt, Finish, PutStitch}
use Rattle.cat_model.specs.declared.types.Fault.{Fault}
use Rattle.cat_model.specs.declared.types.Fault.TheVariants.{TooLarge}
use Rattle.cat_model.specs.declared.types.Leaving.TheVariants.{Deleted}
use Rattle.cat_model.specs.declared.types.Order.{Order}
use Rattle.cat_model.specs.declared.types.ProviderInputs.{ProviderInputs}
use Rattle.cat_model.specs.declared.types.Record.{Record}
use Rattle.cat_model.specs.declared.types.Settings.{Settings}
use Rattle.cat_model.specs.declared.types.State.{State}

at_cond : {A : Type 0} (P : A → Type 0) (b : Bool) (x y : A) → P x → P y → P (cond b x y)
at_cond P true x y p q = p
at_cond P false x y p q = q

fault_not : (b : Bool) (fault : Fault) → fault_where b fault ≡ None → b ≡ false
fault_not true fault e = absurd (true≢false (ap is_some e))
fault_not false fault e = refl

else_first : (v w : Option Fault) → or_else v w ≡ None → v ≡ None
else_first None w e = refl
else_first (Some x) w e = e

else_second : (v w : Option Fault) → or_else v w ≡ None → w ≡ None
else_second None w e = e
else_second (Some x) w e = absurd (true≢false (ap is_some e))

not_above : (limit n : ℕ) → nat_lt limit n ≡ false → n ≤ limit
not_above limit n e = grind (arith, nat_tests)

without_key-sorted : {X : Type 0} (r : Ref) (m : Map X) → T (is_sorted text_cmp (without_key r m))
without_key-sorted r m = is_sorted-tabulate text_total text_antisymmetric (keys m) (λ k. option_and_then (λ x. cond (same_text r k) None (Some x)) (get m k))

module _ (rules : Rules) (limit : ℕ) where
  -- the inputs are within the limit, and the shelf is in order
  pub record IsWithin (m : State) : Type 0 where
    pub within : rules.bytes m.providers m.shelf ≤ limit
    pub in_order : T (is_sorted text_cmp m.shelf)

module _ (rules : Rules) (s : Settings) (left : (providers : Map ProviderInputs) (shelf : Map Text) (name : Text) → T (is_sorted text_cmp shelf) → rules.bytes providers (without_key name shelf) ≤ rules.bytes providers shelf) where
  abbrev Stays : State → Type 0
  Stays = IsWithin rules s.input_limit

  -- inputs that aren't too large are within the limit
  tested : (n : State) → fault_where (nat_lt s.input_limit (rules.bytes n.providers n.shelf)) (TooLarge (rules.bytes n.providers n.shelf)) ≡ None → rules.bytes n.providers n.shelf ≤ s.input_limit
  tested n e = not_above s.input_limit (rules.bytes n.providers n.shelf) (fault_not _ _ e)

  mutated_stays : (m n : State) → T (is_sorted text_cmp n.shelf) → Stays m → (b : Bool)
      → fault_where (b && nat_lt s.input_limit (rules.bytes (cond b n m).providers (cond b n m).shelf)) (TooLarge (rules.bytes (cond b n m).providers (cond b n m).shelf)) ≡ None → Stays (cond b n m)
  mutated_stays m n ordered h true e = record { within = tested n e; in_order = ordered }
  mutated_stays m n ordered h false e = h

  dropped_stays : (name : Text) (m : State) → Stays m → Stays (frame rules Deleted m (record m { shelf = without_key name m.shelf }))
  dropped_stays name m h = record {
    within = let less = left m.providers m.shelf name h.in_order in let most = h.within in omega arith;
    in_order = without_key-sorted name m.shelf;
  }

  take_stays : (r : Ref) (now : ℕ) (m : State) → Stays m → (v : Option Record) → Stays (take s r now m v)
  take_stays r now m h None = h
  take_stays r now m h (Some x) = record { within = h.within; in_order = h.in_order }

  take_next_stays : (now : ℕ) (m : State) → Stays m → (v : Option Ref) → Stays (take_next s now m v)
  take_next_stays now m h None = h
  take_next_stays now m h (Some r) = take_stays r now m h (get m.records r)

  refresh_stays : (r : Ref) (m : State) → Stays m → (v : Option Record) → Stays (refresh r m v)
  refresh_stays r m h None = h
  refresh_stays r m h (Some x) = record { within = h.within; in_order = h.in_order }

  forget_stays : (r : Ref) (m : State) → Stays m → Stays (forget rules r m)
  forget_stays r m h = at_cond Stays (is_some (get m.records r) || is_some (get m.orphans r)) (frame rules Deleted m (forgotten r m)) m (record { within = h.within; in_order = h.in_order }) h

  forget_at_stays : (m : State) → Stays m → (v : Option Ref) → Stays (forget_at rules m v)
  forget_at_stays m h None = h
  forget_at_stays m h (Some r) = forget_stays r m h

  finish_stays : (order : Order) (now : ℕ) (m : State) → Stays m → (v : Option Record) → Stays (finish rules s order now m v)
  finish_stays order now m h None = h
  finish_stays order now m h (Some x) = at_cond Stays (is_present rules m order x) (frame rules (leaving s.orphans) m (finished_state s order.reference now x (rules.result order.work) m)) m (record { within = h.within; in_order = h.in_order }) h

  change_stays : (e : Event) (m : State) → Stays m → too_large rules s e m (change rules s e m) ≡ None → Stays (change rules s e m)
  change_stays (Mutate p x) m h e =
      mutated_stays m (frame rules Deleted m (mutated_state p x (source_at (get m.providers p)) m)) h.in_order h (nat_lt (source_at (get m.providers p)).serial x.serial) e
  change_stays (ShelfPut name text) m h e = record {
    within = tested (frame rules Deleted m (record m { shelf = put text_cmp name text m.shelf })) e;
    in_order = is_sorted-put text_cmp text_total name text m.shelf h.in_order;
  }
  change_stays (ShelfDrop name) m h e = at_cond Stays (is_some (get m.shelf name)) _ m (dropped_stays name m h) h
  change_stays (Refresh r) m h e = refresh_stays r m h (get m.records r)
  change_stays (Forget r) m h e = forget_stays r m h
  change_stays (ForgetNumber number) m h e = forget_at_stays m h (ref_at m number)
  change_stays (Take now) m h e = take_next_stays now m h (next_taken now m)
  change_stays (TakeAt r now) m h e = take_stays r now m h (get m.records r)
  change_stays (Finish order now) m h e = finish_stays order now m h (get m.records order.reference)
  change_stays (PutStitch order) m h e = at_cond Stays (is_present_stitch rules m order) _ m (record { within = h.within; in_order = h.in_order }) h

  pub step_stays : (e : Event) (m : State) → Stays m → Stays (step rules s e m)
  unfolding step
  step_stays e m h = go (refusal rules s e m) refl
    where
      go : (v : Option Fault) → refusal rules s e m ≡ v → Stays (cond (is_some v) m (change rules s e m))
      go None is = change_stays e m h (else_first (too_large rules s e m (change rules s e m)) (spent (change rules s e m)) (else_second (not_found rules e m) _ is))
      go (Some x) is = h
