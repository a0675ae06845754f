-- The order that a take gives is known before it, and a forget by number is that of its reference.
use Rattle.std.proofs.Common.{◌≡◌, ℕ, ◌+◌, true, false, ◌&&◌, is_none, refl, sym, ap, ◌∙◌, true≢false}
use Rattle.std.specs.declared.option.Option.{Option}
use Rattle.std.specs.declared.option.Option.TheVariants.{None, Some}
use Rattle.std.specs.Option.{option_and_then}
use Rattle.cat_collections.specs.Table.{Text, get}
use Rattle.cat_collections.proofs.Tables.{find-put_same, first_some, text_antisymmetric, text_total}
use Rattle.cat_model.specs.declared.types.Fault.TheVariants.{NotFound}
use Rattle.cat_model.specs.declared.types.Lease.{Lease}
use Rattle.cat_model.specs.declared.types.Orphan.{Orphan}
use Rattle.cat_model.specs.declared.types.Record.{Record}
use Rattle.cat_model.specs.declared.types.Settings.{Settings}
use Rattle.cat_model.specs.declared.types.State.{State}
use Rattle.cat_model.specs.Catalogue.{Rules, Work, known_refs, work}
use Rattle.cat_model.specs.Reply.{taken}
use Rattle.cat_model.specs.Settle.{order, order_with}
use Rattle.cat_model.specs.Step.{change, fault_where, forget, forget_at, has_number, leased, next_taken, or_else, ref_at, spent, take, take_next}
use Rattle.cat_model.specs.Step.Event.{Forget, ForgetNumber, Take}
use Rattle.cat_events.specs.Stepped.{come_to, stepped}
use Rattle.cat_core.specs.Answer.{order_ahead, order_for}

module _ (rules : Rules) (s : Settings) (now : ℕ) (m : State) where
  -- the order of a lease that a take gives is the one ahead
  ahead : (r : Text) (w : Option Work) (v : Option Record) → get m.records r ≡ v → order_for r m.token v w ≡ order_with r (option_and_then (λ (x : Record). x.lease) (get (take s r now m v).records r)) w
  ahead r w None at = ap (λ v. order_with r (option_and_then (λ (x : Record). x.lease) v) w) (sym at)
  ahead r w (Some x) at =
      let lease : Lease = record { token = m.token; expires = now + s.lease } in
      ofthe w ∙ ap (λ v. order_with r (option_and_then (λ (x : Record). x.lease) v) w) (sym (find-put_same text_total text_antisymmetric r (leased x.due x (Some lease)) m.records))
    where
      ofthe : (w : Option Work) → order_for r m.token (Some x) w ≡ order_with r (Some (record { token = m.token; expires = now + s.lease })) w
      ofthe None = refl
      ofthe (Some w) = refl

  same_work : (r : Text) (v : Option Record) → work rules m r ≡ work rules (take s r now m v) r
  same_work r None = refl
  same_work r (Some x) = refl

  pub order_given : (r : Text) → Some r ≡ next_taken now m → order_ahead rules m r ≡ taken rules s now m
  order_given r e =
      let v = get m.records r in
      ahead r (work rules m r) v refl
      ∙ (ap (order_with r (option_and_then (λ (x : Record). x.lease) (get (take s r now m v).records r))) (same_work r v)
      ∙ (ap (λ v. order rules (take_next s now m v) r) e ∙ ap (option_and_then (order rules (change rules s (Take now) m))) e))

-- ---- forgets by number

has_known : (number : ℕ) (u : Option Record) (w : Option Orphan) → has_number number u w ≡ true → (is_none u && is_none w) ≡ false
has_known number None None h = absurd (true≢false (sym h))
has_known number None (Some x) h = refl
has_known number (Some x) w h = refl

pub forget_number_is : (rules : Rules) (s : Settings) (m : State) (number : ℕ) (r : Text) → Some r ≡ ref_at m number → come_to rules s (Forget r) m ≡ come_to rules s (ForgetNumber number) m
forget_number_is rules s m number r e =
    let known = has_known number (get m.records r) (get m.orphans r) (first_some text_total text_antisymmetric (λ q. has_number number (get m.records q) (get m.orphans q)) (known_refs m) r (sym e)) in
    ap (λ b. stepped (or_else (fault_where b NotFound) (or_else None (spent (forget rules r m)))) (forget rules r m)) known
    ∙ ap (λ v. stepped (or_else (fault_where (is_none v) NotFound) (or_else None (spent (forget_at rules m v)))) (forget_at rules m v)) e
