-- How what events reach is gathered, one after the other.
use Rattle.std.proofs.Common.{Box, Global, ◌≡◌, ℕ, false, List, [], ◌++◌, IfSome, refl, sym, ap, subst, ◌∙◌}
use Rattle.std.proofs.lemmas.List.Folds.{list_any-append}
use Rattle.std.specs.declared.option.Option.{Option}
use Rattle.std.specs.declared.option.Option.TheVariants.{None, Some}
use Rattle.std.specs.declared.result.Result.{Result}
use Rattle.std.specs.declared.result.Result.TheVariants.{Ok, Err}
use Rattle.cat_collections.specs.Table.{same_text}
use Rattle.cat_collections.proofs.Tables.{or_false_first, or_false_second}
use Rattle.cat_model.specs.declared.types.Order.{Order}
use Rattle.cat_model.specs.declared.types.Progress.{Progress}
use Rattle.cat_model.specs.declared.types.Settings.{Settings}
use Rattle.cat_model.specs.declared.types.State.{State}
use Rattle.cat_model.specs.declared.types.StitchOrder.{StitchOrder}
use Rattle.cat_model.specs.Catalogue.{Ref, Rules}
use Rattle.cat_model.specs.Sound.{Sound}
use Rattle.cat_model.specs.Step.{Event, step}
use Rattle.cat_model.specs.Step.Event.{TakeAt, Finish, PutStitch}
use Rattle.cat_events.specs.Stepped.{come_to}
use Rattle.cat_affected.specs.Gathered.{Gathers, IsGathered, IsWithin}
use Rattle.cat_affected.specs.Reach.{AreSameBeyond, AreSameInputs, has, own_refs, reached}
use Rattle.cat_affected.proofs.Inputs.{inputs_stay}
use Rattle.cat_affected.proofs.Nothing.{put_stitch_reaches, take_at_reaches}
use Rattle.cat_affected.proofs.Own.{finish_reaches}
use Rattle.cat_affected.proofs.Stepped.{inputs_unchanged, unchanged}
use Rattle.cat_settle.specs.Part.{moved, moved_in}
use Rattle.cat_settle.proofs.Called.{came_step, moved_state}

-- ---- what is the same beyond references

-- what is the same beyond these is so beyond more
wider : (refs more : List Ref) → ((r : Ref) → has r more ≡ false → has r refs ≡ false) → (m n : State) → AreSameBeyond refs m n → AreSameBeyond more m n
wider refs more out m n h = record {
  rows = λ a row e k. h.rows a row e (out row.reference k);
  none_new = λ a row e k. h.none_new a row e (out row.reference k);
  holders = λ r k. h.holders r (out r k);
  records = λ r k. h.records r (out r k);
  orphans = λ r k. h.orphans r (out r k);
}

same_on : (refs : List Ref) (m n k : State) → AreSameBeyond refs m n → AreSameBeyond refs n k → AreSameBeyond refs m k
same_on refs m n k x y = record {
  rows = λ a row e out. y.rows a row (x.rows a row e out) out;
  none_new = λ a row e out. x.none_new a row (y.none_new a row e out) out;
  holders = λ r out. y.holders r out ∙ x.holders r out;
  records = λ r out. y.records r out ∙ x.records r out;
  orphans = λ r out. y.orphans r out ∙ x.orphans r out;
}

-- beyond what two events reached, one after the other
both : (refs more : List Ref) (m n k : State) → AreSameBeyond refs m n → AreSameBeyond more n k → AreSameBeyond (refs ++ more) m k
both refs more m n k x y =
    same_on (refs ++ more) m n k
    (wider refs (refs ++ more) (λ r out. or_false_first (has r refs) (has r more) (sym (list_any-append (same_text r) refs more) ∙ out)) m n x)
    (wider more (refs ++ more) (λ r out. or_false_second (has r refs) (has r more) (sym (list_any-append (same_text r) refs more) ∙ out)) n k y)

inputs_on : (m n k : State) → AreSameInputs m n → AreSameInputs n k → AreSameInputs m k
inputs_on m n k x y = record { providers = y.providers ∙ x.providers; shelf = y.shelf ∙ x.shelf }

-- ---- where nothing is reached

pub within_itself : (refs : List Ref) (m : State) → IsWithin (Some refs) m m
within_itself refs m = (unchanged refs m, inputs_unchanged m)

pub still_on : (m n k : State) → IsWithin (Some []) m n → IsWithin (Some []) n k → IsWithin (Some []) m k
still_on m n k x y = (same_on [] m n k x.0 y.0, inputs_on m n k x.1 y.1)

-- ---- what is gathered

pub gathers_none : (refs : Option (List Ref)) (m : State) → Gathers refs m refs m
gathers_none refs m = record { within = λ k h. h }

pub gathers_on : (a b c : Option (List Ref)) (m n k : State) → Gathers a m b n → Gathers b n c k → Gathers a m c k
gathers_on a b c m n k x y = record { within = λ l h. y.within l (x.within l h) }

-- where nothing is reached, nothing has to be gathered
still_within : (refs : Option (List Ref)) (m n k : State) → IsWithin (Some []) n k → IsWithin refs m n → IsWithin refs m k
still_within None m n k still h = tt
still_within (Some refs) m n k still h = (same_on refs m n k h.0 (wider [] refs (λ r out. refl) n k still.0), inputs_on m n k h.1 still.1)

pub still_gathers : (refs : Option (List Ref)) (m n : State) → IsWithin (Some []) m n → Gathers refs m refs n
still_gathers refs m n still = record { within = λ k h. still_within refs k m n still h }

-- what an event reaches is put behind what was reached before
gathered_within : (old new : Option (List Ref)) (m n : State) (r : Ref) (k : State) → IsWithin (Some (reached (own_refs r n k) n k)) n k → IsGathered old n r k new → IsWithin old m n → IsWithin new m k
gathered_within old None m n r k reach is h = tt
gathered_within None (Some refs) m n r k reach is h = absurd is
gathered_within (Some before) (Some refs) m n r k reach is h =
    (subst (λ l. AreSameBeyond l m k) (sym is) (both before (reached (own_refs r n k) n k) m n k h.0 reach.0), inputs_on m n k h.1 reach.1)

-- records don't count in what an event reaches
pub known_before : (old new : Option (List Ref)) (b m n : State) (r : Ref) → b ≡ record m { records = [] } → IsGathered old b r n new → IsGathered old m r n new
known_before old None b m n r is h = tt
known_before None (Some refs) b m n r is h = absurd h
known_before (Some before) (Some refs) b m n r is h = h ∙ ap (λ (k : State). before ++ reached (own_refs r k n) k n) is

-- what is put behind the references gathered before
pub more_gathered : (old : Option (List Ref)) (before : Option (Box State Global)) (refs more : List Ref) (b : Box State Global) (r : Ref) (d n : State) (new : Option (List Ref)) → old ≡ Some refs → before ≡ Some b → d ≡ b.value
    → more ≡ reached (own_refs r d n) d n
    → IfSome new (λ all. all ≡ refs ++ more) → (m : State) → IfSome before (λ k. k.value ≡ record m { records = [] }) → IsGathered old m r n new
more_gathered old before refs more b r d n new is at lent tells all m known =
    subst (λ o. IsGathered o m r n new) (sym is)
    (known_before (Some refs) new b.value m n r (subst (λ v. IfSome v (λ k. k.value ≡ record m { records = [] })) at known) (subst (λ k. IsGathered (Some refs) k r n new) lent (put new all)))
  where
    put : (new : Option (List Ref)) → IfSome new (λ all. all ≡ refs ++ more) → IsGathered (Some refs) d r n new
    put None h = tt
    put (Some all) h = h ∙ ap (λ l. refs ++ l) tells

-- ---- the events of a settle

module _ (rules : Rules) (s : Settings) (e : Event) (p q : Progress) (P : State → Type 0) where
  -- what holds after the step of an event holds where the event has moved a progress
  moved_to : P (step rules s e p.state) → q ≡ moved e (come_to rules s e p.state) p → P q.state
  moved_to after is = subst P (sym (ap (λ (x : Progress). x.state) is ∙ (moved_state e (come_to rules s e p.state) p ∙ came_step rules s e p.state))) after

  -- and where want of memory has left it, if it held before
  called_to : {A E : Type 0} (r : Result A E) → P p.state → P (step rules s e p.state) → q ≡ moved_in r e (come_to rules s e p.state) p → P q.state
  called_to (Ok x) before after is = moved_to after is
  called_to (Err x) before after is = subst P (sym (ap (λ (x : Progress). x.state) is)) before

module _ (rules : Rules) (s : Settings) (p q : Progress) where
  pub take_still : (r : Ref) (now : ℕ) → q ≡ moved (TakeAt r now) (come_to rules s (TakeAt r now) p.state) p → IsWithin (Some []) p.state q.state
  take_still r now is =
      moved_to rules s (TakeAt r now) p q (λ n. IsWithin (Some []) p.state n) (take_at_reaches rules s p.state r now, inputs_stay rules s p.state (TakeAt r now) refl) is

  pub stitch_still : {A E : Type 0} (order : StitchOrder) (r : Result A E) → q ≡ moved_in r (PutStitch order) (come_to rules s (PutStitch order) p.state) p → IsWithin (Some []) p.state q.state
  stitch_still order r is =
      called_to rules s (PutStitch order) p q (λ n. IsWithin (Some []) p.state n) r (within_itself [] p.state)
      (put_stitch_reaches rules s p.state order, inputs_stay rules s p.state (PutStitch order) refl) is

  pub finish_gathers : {A E : Type 0} (order : Order) (now : ℕ) (r : Result A E) → Sound rules p.state → q ≡ moved_in r (Finish order now) (come_to rules s (Finish order now) p.state) p
      → (old new : Option (List Ref)) → IsGathered old p.state order.reference q.state new → Gathers old p.state new q.state
  finish_gathers order now r sound is old new g = record { within = λ m h. gathered_within old new m p.state order.reference q.state reach g h }
    where
      reach : IsWithin (Some (reached (own_refs order.reference p.state q.state) p.state q.state)) p.state q.state
      reach = called_to rules s (Finish order now) p q (λ n. IsWithin (Some (reached (own_refs order.reference p.state n) p.state n)) p.state n) r
          (within_itself (reached (own_refs order.reference p.state p.state) p.state p.state) p.state)
          (finish_reaches rules s p.state sound order now, inputs_stay rules s p.state (Finish order now) refl) is
