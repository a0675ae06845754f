-- What holds of each good result's output holds of each output that is kept.
use Rattle.std.proofs.Common.{◌≡◌, ℕ, ◌+◌, Bool, true, false, cond, ◌||◌, [], refl, sym, ap, subst, ◌∙◌, is_some, nat_lt, unwrap_or}
use Rattle.std.specs.declared.option.Option.{Option}
use Rattle.std.specs.declared.option.Option.TheVariants.{None, Some}
use Rattle.std.specs.List.{list_any}
use Rattle.std.specs.Option.{option_and_then}
use Rattle.cat_collections.specs.Table.{Map, same_text, text_cmp, get, keys, over, put, place}
use Rattle.cat_collections.proofs.Tables.{text_total, text_antisymmetric, same_is, find-put_same, find-put_other, find-over, find-tabulate}
use Rattle.cat_types.specs.declared.work.Output.{Output}
use Rattle.cat_types.specs.declared.work.Outcome.{Outcome}
use Rattle.cat_types.specs.declared.work.Outcome.TheVariants.{Good, Bad}
use Rattle.cat_types.specs.declared.work.Work.{Work}
use Rattle.cat_model.specs.Catalogue.{Ref, Issues, Rules, work, same_option, due_now, frame, reheld, record_after, fresh_refs}
use Rattle.cat_model.specs.Step.{source_at, leased, without_key, forgotten, finished_record, finished_state, leaving, is_present, finish, mutated_state, refresh, take, take_next, next_taken, forget, forget_at, ref_at, is_present_stitch, Event, change, refusal, step}
use Rattle.cat_model.specs.Step.Event.{Mutate, ShelfPut, ShelfDrop, Refresh, Forget, ForgetNumber, Take, TakeAt, Finish, PutStitch}
use Rattle.cat_model.specs.declared.types.Leaving.{Leaving}
use Rattle.cat_model.specs.declared.types.Leaving.TheVariants.{Deleted}
use Rattle.cat_model.specs.declared.types.Order.{Order}
use Rattle.cat_model.specs.declared.types.Orphan.{Orphan}
use Rattle.cat_model.specs.declared.types.Record.{Record}
use Rattle.cat_model.specs.declared.types.Settings.{Settings}
use Rattle.cat_model.specs.declared.types.State.{State}
use Rattle.cat_stored_rows.proofs.In.{none_some}
use Rattle.cat_laws.proofs.Steps.{get-without_key}

at_cond : {A : Type 0} (P : A → Type 0) (b : Bool) (x y : A) → P x → P y → P (cond b x y)
at_cond P true x y p q = p
at_cond P false x y p q = q

module _ (Q : Output → Type 0) where
  -- it holds of each output that these records keep
  abbrev pub AreAll : Map Record → Type 0
  AreAll records = (r : Ref) (x : Record) (output : Output) → get records r ≡ Some x → x.output ≡ Some output → Q output

  put_all_are : (r : Ref) (y : Record) (records : Map Record) → ((output : Output) → y.output ≡ Some output → Q output) → AreAll records → AreAll (put text_cmp r y records)
  put_all_are r y records new old q x output e o = go (same_text q r) refl
    where
      go : (b : Bool) → same_text q r ≡ b → Q output
      go true is =
          let same : q ≡ r = same_is text_total text_antisymmetric q r is in
          let value : Some y ≡ Some x = sym (find-put_same text_total text_antisymmetric r y records) ∙ (sym (ap (get (put text_cmp r y records)) same) ∙ e) in
          new output (ap (λ v. (unwrap_or v x).output) value ∙ o)
      go false is = old q x output (sym (find-put_other text_total text_antisymmetric q r y records is) ∙ e) o

  module _ (rules : Rules) (s : Settings) (gives : (w : Work) (output : Output) (issues : Issues) → rules.result w ≡ Good output issues → Q output) where
    abbrev Are : State → Type 0
    Are m = AreAll m.records

    gone : (r : Ref) (records : Map Record) → AreAll records → AreAll (without_key r records)
    gone r records h q x output e o = go (same_text r q) (sym (get-without_key rules s r records q) ∙ e)
      where
        go : (b : Bool) → cond b None (get records q) ≡ Some x → Q output
        go true e = absurd (none_some e)
        go false e = h q x output e o

    framed_are : (how : Leaving) (m n : State) → Are n → Are (frame rules how m n)
    framed_are how m n h r x output e o = go (list_any (same_text r) (keys (reheld n).holders))
        (sym (find-tabulate text_total text_antisymmetric r (keys (reheld n).holders) (λ r. Some (record_after (n.number + place text_cmp r (fresh_refs n (reheld n).holders)) (get n.orphans r) (same_option rules.same_work (work rules m r) (work rules (reheld n) r)) (get n.records r)))) ∙ e)
      where
        after : (drawn : ℕ) (orphan : Option Orphan) (same : Bool) (v : Option Record) → get n.records r ≡ v → (record_after drawn orphan same v).output ≡ Some output → Q output
        after drawn orphan same None is o = absurd (none_some o)
        after drawn orphan true (Some y) is o = h r y output is o
        after drawn orphan false (Some y) is o = h r y output is o

        go : (c : Bool) → cond c (Some (record_after (n.number + place text_cmp r (fresh_refs n (reheld n).holders)) (get n.orphans r) (same_option rules.same_work (work rules m r) (work rules (reheld n) r)) (get n.records r))) None ≡ Some x → Q output
        go true e = after _ (get n.orphans r) (same_option rules.same_work (work rules m r) (work rules (reheld n) r)) (get n.records r) refl (ap (λ v. (unwrap_or v x).output) e ∙ o)
        go false e = absurd (none_some e)

    take_are : (r : Ref) (now : ℕ) (m : State) → Are m → (v : Option Record) → get m.records r ≡ v → Are (take s r now m v)
    take_are r now m h None is = h
    take_are r now m h (Some x) is = put_all_are r (leased x.due x (Some (record { token = m.token; expires = now + s.lease }))) m.records (λ output o. h r x output is o) h

    take_next_are : (now : ℕ) (m : State) → Are m → (v : Option Ref) → Are (take_next s now m v)
    take_next_are now m h None = h
    take_next_are now m h (Some r) = take_are r now m h (get m.records r) refl

    refresh_are : (r : Ref) (m : State) → Are m → (v : Option Record) → get m.records r ≡ v → Are (refresh r m v)
    refresh_are r m h None is = h
    refresh_are r m h (Some x) is = put_all_are r (leased 0 x None) m.records (λ output o. h r x output is o) h

    forget_are : (r : Ref) (m : State) → Are m → Are (forget rules r m)
    forget_are r m h = at_cond Are (is_some (get m.records r) || is_some (get m.orphans r)) _ m (framed_are Deleted m (forgotten r m) (gone r m.records h)) h

    forget_at_are : (m : State) → Are m → (v : Option Ref) → Are (forget_at rules m v)
    forget_at_are m h None = h
    forget_at_are m h (Some r) = forget_are r m h

    finished_are : (r : Ref) (now : ℕ) (x : Record) (m : State) → Are m → get m.records r ≡ Some x → (u : Outcome) → ((output : Output) (issues : Issues) → u ≡ Good output issues → Q output) → Are (finished_state s r now x u m)
    finished_are r now x m h is (Good output issues) good =
        put_all_are r (finished_record s now x (Good output issues)) m.records (λ other o. subst Q (ap (λ v. unwrap_or v output) o) (good output issues refl)) h
    finished_are r now x m h is (Bad issues) good = put_all_are r (finished_record s now x (Bad issues)) m.records (λ output o. h r x output is o) h

    finish_are : (order : Order) (now : ℕ) (m : State) → Are m → (v : Option Record) → get m.records order.reference ≡ v → Are (finish rules s order now m v)
    finish_are order now m h None is = h
    finish_are order now m h (Some x) is = at_cond Are (is_present rules m order x) _ m
        (framed_are (leaving s.orphans) m (finished_state s order.reference now x (rules.result order.work) m) (finished_are order.reference now x m h is (rules.result order.work) (gives order.work))) h

    change_are : (e : Event) (m : State) → Are m → Are (change rules s e m)
    change_are (Mutate p x) m h = at_cond Are (nat_lt (source_at (get m.providers p)).serial x.serial) _ m (framed_are Deleted m (mutated_state p x (source_at (get m.providers p)) m) h) h
    change_are (ShelfPut name text) m h = framed_are Deleted m (record m { shelf = put text_cmp name text m.shelf }) h
    change_are (ShelfDrop name) m h = at_cond Are (is_some (get m.shelf name)) _ m (framed_are Deleted m (record m { shelf = without_key name m.shelf }) h) h
    change_are (Refresh r) m h = refresh_are r m h (get m.records r) refl
    change_are (Forget r) m h = forget_are r m h
    change_are (ForgetNumber number) m h = forget_at_are m h (ref_at m number)
    change_are (Take now) m h = take_next_are now m h (next_taken now m)
    change_are (TakeAt r now) m h = take_are r now m h (get m.records r) refl
    change_are (Finish order now) m h = finish_are order now m h (get m.records order.reference) refl
    change_are (PutStitch order) m h = at_cond Are (is_present_stitch rules m order) _ m h h

    pub step_are : (e : Event) (m : State) → Are m → Are (step rules s e m)
    unfolding step
    step_are e m h = at_cond Are (is_some (refusal rules s e m)) m (change rules s e m) h (change_are e m h)

  pub none_are : AreAll []
  none_are r x output e o = absurd (none_some e)

  -- records that are made due keep their outputs
  pub due_are : (records : Map Record) → AreAll records → AreAll (over text_cmp records (λ r x. Some (due_now x)))
  due_are records h r x output e o = go (get records r) refl (sym (find-over text_total text_antisymmetric r records (λ r x. Some (due_now x))) ∙ e)
    where
      go : (v : Option Record) → get records r ≡ v → option_and_then (λ x. Some (due_now x)) v ≡ Some x → Q output
      go None is e = absurd (none_some e)
      go (Some y) is e = h r y output is (ap (λ v. (unwrap_or v x).output) e ∙ o)
