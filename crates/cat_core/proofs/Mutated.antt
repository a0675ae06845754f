-- Mutations with the last serial again, or a lower one.
use Rattle.std.proofs.Common.{◌≡◌, ℕ, ◌<◌, ◌≤◌, ◌^◌, true, false, cond, ◌&&◌, is_some, nat_lt, ap, ◌∙◌, arith}
use Rattle.std.proofs.lemmas.Bool.Decides.{nat_tests}
use Rattle.std.specs.declared.option.Option.TheVariants.{None, Some}
use Rattle.cat_collections.specs.Table.{Text, get}
use Rattle.cat_model.specs.declared.types.Counter.TheVariants.{Arrival, Number, Token, Ticket}
use Rattle.cat_model.specs.declared.types.Acted.TheVariants.{Now, Again}
use Rattle.cat_model.specs.declared.types.Fault.TheVariants.{OldSerial, TooLarge, Spent}
use Rattle.cat_model.specs.declared.types.Given.{Given}
use Rattle.cat_model.specs.declared.types.Leaving.TheVariants.{Deleted}
use Rattle.cat_model.specs.declared.types.Settings.{Settings}
use Rattle.cat_model.specs.declared.types.State.{State}
use Rattle.cat_model.specs.Catalogue.{Rules, frame}
use Rattle.cat_model.specs.Reply.{acted}
use Rattle.cat_model.specs.Sound.{AreSmall}
use Rattle.cat_model.specs.Step.{change, fault_where, mutated_state, or_else, refusal, source_at, spent, step}
use Rattle.cat_model.specs.Step.Event.{Mutate}

not_above : (a b : ℕ) → b ≤ a → nat_lt a b ≡ false
not_above a b h = grind (arith, nat_tests)

is_above : (a b : ℕ) → a < b → nat_lt a b ≡ true
is_above a b h = grind (arith, nat_tests)

pub unspent : (m : State) → AreSmall m → spent m ≡ None
unspent m h =
    let a = not_above (2 ^ 59) m.arrival h.arrival in
    let b = not_above (2 ^ 59) m.number h.number in
    let c = not_above (2 ^ 59) m.token h.token in
    let d = not_above (2 ^ 59) m.ticket h.ticket in
    λ i. or_else (fault_where (a i) (Spent Arrival)) (or_else (fault_where (b i) (Spent Number)) (or_else (fault_where (c i) (Spent Token)) (fault_where (d i) (Spent Ticket))))

module _ (rules : Rules) (s : Settings) (p : Text) (x : Given) (m : State) where
  last : ℕ
  last = (source_at (get m.providers p)).serial

  pub acted_now : (source_at (get m.providers p)).serial < x.serial → acted p x m ≡ Now
  acted_now h = ap (λ b. cond b Now Again) (is_above (source_at (get m.providers p)).serial x.serial h)

  pub old_refusal : x.serial < (source_at (get m.providers p)).serial → refusal rules s (Mutate p x) m ≡ Some (OldSerial (source_at (get m.providers p)).serial)
  old_refusal h =
      let n = change rules s (Mutate p x) m in
      ap (λ b. or_else (fault_where b (OldSerial (source_at (get m.providers p)).serial)) (or_else (fault_where (nat_lt (source_at (get m.providers p)).serial x.serial && nat_lt s.input_limit (rules.bytes n.providers n.shelf)) (TooLarge (rules.bytes n.providers n.shelf))) (spent n)))
      (is_above x.serial (source_at (get m.providers p)).serial h)

  pub old_step : x.serial < (source_at (get m.providers p)).serial → step rules s (Mutate p x) m ≡ m
  unfolding step
  old_step h = ap (λ v. cond (is_some v) m (change rules s (Mutate p x) m)) (old_refusal h)

  module _ (same : x.serial ≡ (source_at (get m.providers p)).serial) where
    up : nat_lt (source_at (get m.providers p)).serial x.serial ≡ false
    up = not_above (source_at (get m.providers p)).serial x.serial (omega arith)

    down : nat_lt x.serial (source_at (get m.providers p)).serial ≡ false
    down = not_above x.serial (source_at (get m.providers p)).serial (omega arith)

    pub again_refusal : AreSmall m → refusal rules s (Mutate p x) m ≡ None
    again_refusal small =
        let f = frame rules Deleted m (mutated_state p x (source_at (get m.providers p)) m) in
        let shape : refusal rules s (Mutate p x) m ≡ spent m =
        λ i. or_else (fault_where (down i) (OldSerial (source_at (get m.providers p)).serial))
        (or_else (fault_where (up i && nat_lt s.input_limit (rules.bytes (cond (up i) f m).providers (cond (up i) f m).shelf)) (TooLarge (rules.bytes (cond (up i) f m).providers (cond (up i) f m).shelf))) (spent (cond (up i) f m))) in
        shape ∙ unspent m small

    again_change : change rules s (Mutate p x) m ≡ m
    again_change = ap (λ b. cond b (frame rules Deleted m (mutated_state p x (source_at (get m.providers p)) m)) m) up

    pub again_step : AreSmall m → step rules s (Mutate p x) m ≡ m
    unfolding step
    again_step small = ap (λ v. cond (is_some v) m (change rules s (Mutate p x) m)) (again_refusal small) ∙ again_change

    pub acted_again : acted p x m ≡ Again
    acted_again = ap (λ b. cond b Now Again) up
