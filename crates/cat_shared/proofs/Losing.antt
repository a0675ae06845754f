-- Where a deed leads that wasn't kept.
use Rattle.std.proofs.Common.{◌≡◌, ◌⊎◌, inl, inr, ℕ, true, false, cond, nat_eq, refl, sym, ap, subst, ◌∙◌, true≢false}
use Rattle.std.specs.declared.option.Option.TheVariants.{None, Some}
use Rattle.cat_core.specs.declared.fault.CoreFault.TheVariants.{Keeper}
use Rattle.cat_core.specs.declared.ledger.Ledger.{Ledger}
use Rattle.cat_desk.specs.Acts.{Acts, done}
use Rattle.cat_desk.specs.Deed.{Deed}
use Rattle.cat_desk.specs.Deed.Deed.{Settle}
use Rattle.cat_desk.specs.declared.command.Reply.{Reply}
use Rattle.cat_desk.specs.declared.command.Reply.TheVariants as replies
use Rattle.cat_desk.proofs.Answered.{acts_kept, lost_is}
use Rattle.cat_desk.specs.Kept.{IsCutUnkept, IsLost, IsUnkept, is_lost}
use Rattle.cat_laws.proofs.Stands.{settle_keeps}
use Rattle.cat_model.specs.Catalogue.{Rules}
use Rattle.cat_model.specs.Settle.{try_settle}
use Rattle.cat_model.specs.Sound.{Sound}
use Rattle.cat_model.specs.declared.types.Settings.{Settings}
use Rattle.cat_model.specs.declared.types.State.{State}
use Rattle.cat_shared.specs.Notes.{IsLossOf, IsNoted, is_noted, lost_in, unkept_note}
use Rattle.cat_shared.specs.Replay.{led}
use Rattle.cat_shared.specs.declared.entry.Noted.{Noted}
use Rattle.cat_shared.specs.declared.entry.Noted.TheVariants as notes

-- a refused deed is no settle that was cut
never_both : {A : Type 0} (reply : Reply) (k : ℕ) → reply ≡ replies.Refused Keeper → reply ≡ replies.Cut (record { events = k; fault = Keeper }) → A
never_both reply k h is =
    let both : replies.Refused Keeper ≡ replies.Cut (record { events = k; fault = Keeper }) = sym h ∙ is in
    absurd (cc)

-- a note that a deed wasn't kept counts it
pub loss_counts : (now : ℕ) (d : Deed) (reply : Reply) (x : Noted) → IsLossOf now d reply x → lost_in x ≡ 1
loss_counts now d reply notes.Unkept is = refl
loss_counts now d reply (notes.CutUnkept moment events) is = refl
loss_counts now d reply (notes.Acted input said) is = absurd is
loss_counts now d reply (notes.Taken moment) is = absurd is
loss_counts now d reply (notes.Finished r token moment) is = absurd is
loss_counts now d reply (notes.Stitched r ticket) is = absurd is
loss_counts now d reply (notes.Settled moment) is = absurd is
loss_counts now d reply (notes.Cut moment events) is = absurd is

module _ (rules : Rules) where
  -- what wasn't kept at all leads nowhere else
  none_leads : (s : Settings) (m n : State) → n ≡ m → led rules s notes.Unkept m ≡ Some n
  unfolding led
  none_leads s m n same = ap Some (sym same)

  -- the first event of a settle leads to the state after it
  first_lead : (s : Settings) (now : ℕ) (m n : State) → (try_settle rules s now (Some 1) m).events ≡ 1 → n ≡ done rules s now (Some 1) Settle m → led rules s (notes.CutUnkept now 1) m ≡ Some n
  unfolding led
  first_lead s now m n exact state = ap (λ b. cond b (Some (done rules s now (Some 1) Settle m)) None) (ap (λ e. nat_eq e 1) exact) ∙ ap Some (sym state)

  module _ (now : ℕ) (d : Deed) (old new : Ledger) (reply : Reply) where
    -- a deed whose reply doesn't say otherwise was done
    pub kept_acts : is_lost reply ≡ false → Acts rules now d old new reply ⊎ IsLost rules now d old new reply → Acts rules now d old new reply
    kept_acts h (inl acts) = acts
    kept_acts h (inr loss) = absurd (true≢false (sym (lost_is rules now d old new reply loss) ∙ h))

    -- the settings stay
    pub loss_settings : IsLost rules now d old new reply → new.settings ≡ old.settings
    loss_settings (inl none) = none.settings
    loss_settings (inr part) = part.settings

    -- no event of it is noted as one that was kept
    pub loss_unnoted : IsLost rules now d old new reply → is_noted reply ≡ false
    loss_unnoted (inl none) = ap is_noted none.answer
    loss_unnoted (inr part) = ap is_noted part.answer

    -- what holds before it holds after it
    pub loss_sound : IsLost rules now d old new reply → Sound rules old.state → Sound rules new.state
    loss_sound (inl none) sound = subst (Sound rules) (sym none.state) sound
    loss_sound (inr part) sound = subst (Sound rules) (sym part.state) ((settle_keeps rules old.settings now (Some 1) old.state).sound sound)

    -- what is noted of it is of it
    pub loss_note : IsLost rules now d old new reply → IsLossOf now d reply (unkept_note now reply)
    loss_note (inl none) = subst (λ r. IsLossOf now d r (unkept_note now r)) (sym none.answer) refl
    loss_note (inr part) = subst (λ r. IsLossOf now d r (unkept_note now r)) (sym part.answer) (part.settles, refl, refl, refl)

    none_noted : IsUnkept d old new reply → (x : Noted) → IsLossOf now d reply x → led rules old.settings x old.state ≡ Some new.state
    none_noted none notes.Unkept is = none_leads old.settings old.state new.state none.state
    none_noted none (notes.CutUnkept moment events) is = never_both reply 1 none.answer is.3
    none_noted none (notes.Acted input said) is = absurd is
    none_noted none (notes.Taken moment) is = absurd is
    none_noted none (notes.Finished r token moment) is = absurd is
    none_noted none (notes.Stitched r ticket) is = absurd is
    none_noted none (notes.Settled moment) is = absurd is
    none_noted none (notes.Cut moment events) is = absurd is

    part_noted : IsCutUnkept rules now d old new reply → (x : Noted) → IsLossOf now d reply x → led rules old.settings x old.state ≡ Some new.state
    part_noted part notes.Unkept is = never_both reply 1 is part.answer
    part_noted part (notes.CutUnkept moment events) is =
        (λ i. led rules old.settings (notes.CutUnkept (is.1 i) (is.2 i)) old.state) ∙ first_lead old.settings now old.state new.state part.exact part.state
    part_noted part (notes.Acted input said) is = absurd is
    part_noted part (notes.Taken moment) is = absurd is
    part_noted part (notes.Finished r token moment) is = absurd is
    part_noted part (notes.Stitched r ticket) is = absurd is
    part_noted part (notes.Settled moment) is = absurd is
    part_noted part (notes.Cut moment events) is = absurd is

    -- what is noted of it leads to the state after it
    pub loss_leads : IsLost rules now d old new reply → (x : Noted) → IsLossOf now d reply x → led rules old.settings x old.state ≡ Some new.state
    loss_leads (inl none) x is = none_noted none x is
    loss_leads (inr part) x is = part_noted part x is

  module _ (now : ℕ) (d : Deed) (reply : Reply) (h : (old : Ledger) × (new : Ledger) × (Acts rules now d old new reply ⊎ IsLost rules now d old new reply)) where
    of_loss : is_lost reply ≡ true → Acts rules now d h.0 h.1 reply ⊎ IsLost rules now d h.0 h.1 reply → IsLossOf now d reply (unkept_note now reply)
    of_loss lost (inl acts) = absurd (true≢false (sym lost ∙ acts_kept rules now d h.0 h.1 reply acts))
    of_loss lost (inr loss) = loss_note now d h.0 h.1 reply loss

    -- a reply that says that a deed wasn't kept is noted so
    pub lost_noted : is_lost reply ≡ true → (x : Noted) → x ≡ unkept_note now reply → IsNoted now d reply (Some x)
    lost_noted lost x is = inr (lost, subst (IsLossOf now d reply) (sym is) (of_loss lost h.2))

    -- and one that doesn't say so is of a deed that was done
    pub done_acts : is_lost reply ≡ false → (old : Ledger) × (new : Ledger) × Acts rules now d old new reply
    done_acts never = (h.0, h.1, kept_acts now d h.0 h.1 reply never h.2)
