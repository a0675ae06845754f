-- What holds between two events still does after a take or a refresh, which change a record's due moment and lease alone.
use Rattle.std.proofs.Common.{◌≡◌, ℕ, ◌+◌, Bool, true, false, refl, sym, ap, ◌∙◌, subst, IfOk}
use Rattle.std.specs.declared.option.Option.{Option}
use Rattle.std.specs.declared.option.Option.TheVariants.{None, Some}
use Rattle.std.specs.declared.result.Result.{Result}
use Rattle.std.specs.declared.result.Result.TheVariants.{Ok}
use Rattle.std.specs.Option.{option_and_then}
use Rattle.cat_collections.specs.Table.{get, put, same_text, text_cmp}
use Rattle.cat_collections.proofs.Tables.{find-put_other, find-put_same, same_is, text_antisymmetric, text_total}
use Rattle.cat_links.specs.Links.{Emitted}
use Rattle.cat_plan.specs.Linked.{AreLinked}
use Rattle.cat_model.specs.declared.types.Fault.{Fault}
use Rattle.cat_model.specs.declared.types.Order.{Order}
use Rattle.cat_model.specs.declared.types.Record.{Record}
use Rattle.cat_model.specs.declared.types.Settings.{Settings}
use Rattle.cat_model.specs.declared.types.State.{State}
use Rattle.cat_model.specs.Catalogue.{Ref, Rules, emits, output_of}
use Rattle.cat_model.specs.Reply.{taken}
use Rattle.cat_model.specs.Step.{Event, change, next_taken, refresh, refusal, step, take, take_next, with_record}
use Rattle.cat_model.specs.Step.Event.{Refresh, Take}
use Rattle.cat_laws.proofs.Ordered.{step_ordered}
use Rattle.cat_laws.proofs.Steps.{step_kept, step_small}
use Rattle.cat_events.specs.Coming.{HasCome, IsSteady, came_fault, came_state, state_after}
use Rattle.cat_events.specs.Stepped.{come_to, stepped}
use Rattle.cat_core.specs.declared.fault.CoreFault.{CoreFault}
use Rattle.cat_core.specs.declared.ledger.Ledger.{Ledger}
use Rattle.cat_core.specs.Answer.{answer_with}
use Rattle.cat_core.proofs.Calls.{IsReplied, came_step, is_replied}

module _ (rules : Rules) (links : Emitted) (m : State) (linked : AreLinked rules links m) where
  -- a record that has the output of the one before emits what that emitted
  module _ (r : Ref) (x y : Record) (at : get m.records r ≡ Some x) (as_before : y.output ≡ x.output) where
    same_output : (q : Ref) → output_of (put text_cmp r y m.records) q ≡ output_of m.records q
    same_output q = go (same_text q r) refl
      where
        go : (b : Bool) → same_text q r ≡ b → output_of (put text_cmp r y m.records) q ≡ output_of m.records q
        go true is =
            let same : q ≡ r = same_is text_total text_antisymmetric q r is in
            subst (λ k. output_of (put text_cmp r y m.records) k ≡ output_of m.records k) (sym same)
            (ap (option_and_then (λ (z : Record). z.output)) (find-put_same text_total text_antisymmetric r y m.records) ∙ (as_before ∙ sym (ap (option_and_then (λ (z : Record). z.output)) at)))
        go false is = ap (option_and_then (λ (z : Record). z.output)) (find-put_other text_total text_antisymmetric q r y m.records is)

    put_linked : AreLinked rules links (with_record r y m)
    put_linked = record { in_order = linked.in_order; each = λ q. linked.each q ∙ ap (emits rules q) (sym (same_output q)) }

  refresh_linked : (r : Ref) (v : Option Record) → get m.records r ≡ v → AreLinked rules links (refresh r m v)
  refresh_linked r None at = linked
  refresh_linked r (Some x) at = put_linked r x (record x { lease = None; due = 0 }) at refl

  module _ (s : Settings) (now : ℕ) where
    take_linked : (r : Ref) (v : Option Record) → get m.records r ≡ v → AreLinked rules links (take s r now m v)
    take_linked r None at = linked
    take_linked r (Some x) at =
        let h = put_linked r x (record x { lease = Some (record { token = m.token; expires = now + s.lease }); due = x.due }) at refl in
        record { in_order = h.in_order; each = h.each }

    next_linked : (v : Option Ref) → AreLinked rules links (take_next s now m v)
    next_linked None = linked
    next_linked (Some r) = take_linked r (get m.records r) refl

-- an event that keeps the links keeps what holds between two events
module _ (rules : Rules) (s : Settings) (e : Event) (m : State) (links : Emitted) (steady : IsSteady rules links m) (keeps : AreLinked rules links (change rules s e m)) where
  came_linked : AreLinked rules links (came_state (come_to rules s e m) m)
  came_linked = go (refusal rules s e m)
    where
      go : (v : Option Fault) → AreLinked rules links (came_state (stepped v (change rules s e m)) m)
      go None = keeps
      go (Some fault) = steady.linked

  stays_steady : IsSteady rules links (step rules s e m)
  stays_steady = record {
    sound = step_kept rules s e m steady.sound;
    small = step_small rules s e m steady.small;
    ordered = step_ordered rules s e m steady.ordered;
    linked = subst (AreLinked rules links) (came_step rules s e m) came_linked;
  }

  in_place : {E : Type 0} (f : Option Fault) (n : State) → n ≡ came_state (come_to rules s e m) m → f ≡ came_fault (come_to rules s e m) → HasCome {E = E} rules (come_to rules s e m) (Ok f) m n links
  in_place f n is told = record { state = is; fault = told; steady = subst (IsSteady rules links) (sym (is ∙ came_step rules s e m)) stays_steady }

-- a take
pub take_replied : {E : Type 0} (rules : Rules) (now : ℕ) (x m : Ledger) (same : x ≡ m) (n : State) (links : Emitted) → IsSteady rules links x.state → (came : Result (Option Fault × Option Order) E)
    → n ≡ state_after came (come_to rules x.settings (Take now) x.state) x.state → IfOk came (λ v. v.0 ≡ came_fault (come_to rules x.settings (Take now) x.state)) → IfOk came (λ v. v.0 ≡ None → v.1 ≡ taken rules x.settings now x.state)
    → (r : Result (Option Order) CoreFault) → r ≡ answer_with came → IsReplied rules (Take now) x m n links (taken rules m.settings now m.state) r
take_replied rules now x m same n links steady came is told replies r er =
    let come = in_place rules x.settings (Take now) x.state links steady (next_linked rules links x.state steady.linked x.settings now (next_taken now x.state)) in
    subst (IsReplied rules (Take now) x m n links (taken rules m.settings now m.state)) (sym er)
    (subst (λ (l : Ledger). IsReplied rules (Take now) x m n links (taken rules l.settings now l.state) (answer_with came)) same
    (is_replied rules (Take now) x m same n links (taken rules x.settings now x.state) (λ f. come f n) came is told replies))

-- a refresh
pub refresh_come : {E : Type 0} (rules : Rules) (s : Settings) (r : Ref) (m : State) (links : Emitted) → IsSteady rules links m → (f : Option Fault) (n : State)
    → n ≡ came_state (come_to rules s (Refresh r) m) m → f ≡ came_fault (come_to rules s (Refresh r) m) → HasCome {E = E} rules (come_to rules s (Refresh r) m) (Ok f) m n links
refresh_come rules s r m links steady = in_place rules s (Refresh r) m links steady (refresh_linked rules links m steady.linked r (get m.records r) refl)
