-- What a book keeps.
use Rattle.std.proofs.Common.{◌≡◌, ◌⊎◌, inl, inr, ℕ, ◌+◌, ◌-◌, ◌^◌, ◌≤◌, min, true, false, List, [], ◌∷◌, ◌++◌, refl, sym, ap, subst, ◌∙◌, is_some, unwrap_or, true≢false, le_trans, arith}
use Rattle.std.proofs.Math.Logic.{∥∥₁_elim, ∥∥₁_map}
use Rattle.std.proofs.lemmas.List.{append-nil}
use Rattle.std.specs.Coded.{Coded-set}
use Rattle.std.specs.Option.{option_and_then}
use Rattle.std.specs.declared.option.Option.{Option}
use Rattle.std.specs.declared.option.Option.TheVariants.{None, Some}
use Rattle.cat_core.specs.declared.ledger.Ledger.{Ledger}
use Rattle.cat_desk.specs.Acts.{Acts}
use Rattle.cat_desk.specs.Deed.{Deed}
use Rattle.cat_desk.specs.declared.command.Reply.{Reply}
use Rattle.cat_io.specs.Causes.{Rose}
use Rattle.cat_desk.proofs.Answered.{acts_kept, lost_is}
use Rattle.cat_desk.specs.Kept.{IsLost, is_lost}
use Rattle.cat_model.specs.Catalogue.{Rules}
use Rattle.cat_model.specs.Sound.{Sound}
use Rattle.cat_model.specs.contracts.types.State.{the_row}
use Rattle.cat_model.specs.declared.types.Settings.{Settings}
use Rattle.cat_model.specs.declared.types.State.{State}
use Rattle.cat_shared.specs.Book.{Does, entries}
use Rattle.cat_shared.specs.Notes.{IsLossOf, IsNoteOf, IsNoted, is_noted, lost, lost_in}
use Rattle.cat_shared.specs.Replay.{led, replay}
use Rattle.cat_shared.specs.declared.entry.Entry.{Entry}
use Rattle.cat_shared.specs.declared.entry.Noted.{Noted}
use Rattle.cat_shared.specs.declared.entry.Noted.TheVariants as notes
use Rattle.cat_shared.proofs.Leading.{By, deed_sound, note_leads, unnoted_stays}
use Rattle.cat_shared.proofs.Losing.{loss_counts, loss_leads, loss_settings, loss_sound, loss_unnoted}

some_same : {A : Type 0} (x y : A) → Some x ≡ Some y → x ≡ y
some_same x y h = ap (λ v. unwrap_or v x) h

-- ---- how many weren't kept

lost_on : (journal : List Entry) (entry : Entry) → lost (journal ++ entry ∷ []) ≡ lost journal + lost_in entry.noted
lost_on [] entry = omega arith
lost_on (e ∷ es) entry = ap (λ n. lost_in e.noted + n) (lost_on es entry) ∙ omega arith

no_more : (n : ℕ) → n + 0 ≡ n
no_more n = omega arith

one_lost : (first n faults faults' : ℕ) → min (first + n) (2 ^ 64 - 1) ≤ faults → Rose faults faults' → min (first + (n + 1)) (2 ^ 64 - 1) ≤ faults'
one_lost first n faults faults' h rose = omega arith

module _ (rules : Rules) where
  -- one entry more leads on from where the entries before it lead
  pub replay_on : (s : Settings) (journal : List Entry) (entry : Entry) (m n k : State) → replay rules s m journal ≡ Some n → led rules s entry.noted n ≡ Some k → replay rules s m (journal ++ entry ∷ []) ≡ Some k
  replay_on s [] entry m n k h l = ap (λ x. option_and_then (λ y. Some y) (led rules s entry.noted x)) (some_same m n h) ∙ ap (λ v. option_and_then (λ y. Some y) v) l
  replay_on s (first ∷ rest) entry m n k h l = go (λ x i. replay_on s rest entry x n k i l) (led rules s first.noted m) h
    where
      go : ((x : State) → replay rules s x rest ≡ Some n → replay rules s x (rest ++ entry ∷ []) ≡ Some k) → (v : Option State)
          → option_and_then (λ x. replay rules s x rest) v ≡ Some n → option_and_then (λ x. replay rules s x (rest ++ entry ∷ [])) v ≡ Some k
      go on None h = absurd (true≢false (sym (ap is_some h)))
      go on (Some x) h = on x h

  module _ (s : Settings) (opening : State) (pass now : ℕ) (d : Deed) (old new : Ledger) (journal longer : List Entry) (reply : Reply) (does : Does rules pass now d old new journal longer reply) where
    -- what was done, by its word
    by : (acts : Acts rules now d old new reply) → By rules old.settings now old.state new.state reply d acts.word
    by acts = record { state = acts.state; answer = acts.answer; exact = acts.exact }

    pub does_settings : new.settings ≡ old.settings
    does_settings = elim does.acts [ inl acts ↦ acts.settings | inr loss ↦ loss_settings rules now d old new reply loss ]

    -- the longer journal leads to the state after the deed
    pub does_replay : old.settings ≡ s → ∥ Sound rules old.state ∥₁ → replay rules s opening journal ≡ Some old.state → replay rules s opening longer ≡ Some new.state
    does_replay same sound led_to = ap (replay rules s opening) does.journal ∙ at does.noted does.is
      where
        stays : is_noted reply ≡ false → is_lost reply ≡ false → new.state ≡ old.state
        stays h never = elim does.acts [
          | inl acts ↦ ∥∥₁_elim sound (Coded-set the_row.coded _ _) (λ k. unnoted_stays rules old.settings now old.state new.state reply h k d acts.word (by acts))
          | inr loss ↦ absurd (true≢false (sym (lost_is rules now d old new reply loss) ∙ never))
        ]

        leads : (noted : Noted) → is_noted reply ≡ true → IsNoteOf now d reply noted → led rules old.settings noted old.state ≡ Some new.state
        leads noted h is = elim does.acts [
          | inl acts ↦ note_leads rules old.settings now old.state new.state reply h d acts.word (by acts) noted is
          | inr loss ↦ absurd (true≢false (sym h ∙ loss_unnoted rules now d old new reply loss))
        ]

        leads_lost : (noted : Noted) → is_lost reply ≡ true → IsLossOf now d reply noted → led rules old.settings noted old.state ≡ Some new.state
        leads_lost noted h is = elim does.acts [
          | inl acts ↦ absurd (true≢false (sym h ∙ acts_kept rules now d old new reply acts))
          | inr loss ↦ loss_leads rules now d old new reply loss noted is
        ]

        on : (noted : Noted) → led rules old.settings noted old.state ≡ Some new.state → replay rules s opening (journal ++ entries pass (Some noted)) ≡ Some new.state
        on noted to = replay_on s journal (record { pass = pass; noted = noted }) opening old.state new.state led_to (subst (λ t. led rules t noted old.state ≡ Some new.state) same to)

        at : (v : Option Noted) → IsNoted now d reply v → replay rules s opening (journal ++ entries pass v) ≡ Some new.state
        at None is = ap (replay rules s opening) (append-nil journal) ∙ (led_to ∙ ap Some (sym (stays is.0 is.1)))
        at (Some noted) (inl is) = on noted (leads noted is.0 is.1)
        at (Some noted) (inr is) = on noted (leads_lost noted is.0 is.1)

    -- what must hold between two events holds after the deed
    pub does_sound : ∥ Sound rules old.state ∥₁ → ∥ Sound rules new.state ∥₁
    does_sound sound = elim does.acts [
      | inl acts ↦ ∥∥₁_map sound (deed_sound rules old.settings now old.state new.state reply d acts.word (by acts))
      | inr loss ↦ ∥∥₁_map sound (loss_sound rules now d old new reply loss)
    ]

    -- at most as many commands weren't kept as faults were counted
    pub does_counted : (first faults faults' : ℕ) → min (first + lost journal) (2 ^ 64 - 1) ≤ faults → faults ≤ faults' → (is_lost reply ≡ true → Rose faults faults')
        → min (first + lost longer) (2 ^ 64 - 1) ≤ faults'
    does_counted first faults faults' counted later cause = subst (λ es. min (first + lost es) (2 ^ 64 - 1) ≤ faults') (sym does.journal) (at does.noted does.is)
      where
        same : (k : ℕ) → k ≡ lost journal → min (first + k) (2 ^ 64 - 1) ≤ faults'
        same k is = subst (λ n. min (first + n) (2 ^ 64 - 1) ≤ faults') (sym is) (le_trans counted later)

        kept_none : (noted : Noted) → IsNoteOf now d reply noted → lost_in noted ≡ 0
        kept_none (notes.Acted input said) is = refl
        kept_none (notes.Taken moment) is = refl
        kept_none (notes.Finished r token moment) is = refl
        kept_none (notes.Stitched r ticket) is = refl
        kept_none (notes.Settled moment) is = refl
        kept_none (notes.Cut moment events) is = refl
        kept_none notes.Unkept is = absurd is
        kept_none (notes.CutUnkept moment events) is = absurd is

        at : (v : Option Noted) → IsNoted now d reply v → min (first + lost (journal ++ entries pass v)) (2 ^ 64 - 1) ≤ faults'
        at None is = same _ (ap lost (append-nil journal))
        at (Some noted) (inl is) = same _ (lost_on journal (record { pass = pass; noted = noted }) ∙ (ap (λ k. lost journal + k) (kept_none noted is.1) ∙ no_more (lost journal)))
        at (Some noted) (inr is) =
            subst (λ n. min (first + n) (2 ^ 64 - 1) ≤ faults') (sym (lost_on journal (record { pass = pass; noted = noted }) ∙ ap (λ k. lost journal + k) (loss_counts now d reply noted is.1)))
            (one_lost first (lost journal) faults faults' counted (cause is.0))

module _ (rules : Rules) (pass now : ℕ) (d : Deed) (old new : Ledger) (before : List Entry) (reply : Reply) (acts : Acts rules now d old new reply ⊎ IsLost rules now d old new reply) where
  -- a deed of which nothing is to be noted leaves the journal as it is
  pub does_unnoted : (moment : ℕ) (v : Option Noted) (after : List Entry) → moment ≡ now → v ≡ None → IsNoted moment d reply v → after ≡ before → Does rules pass now d old new before after reply
  does_unnoted moment v after then none is same = record {
    acts = acts;
    noted = None;
    is = subst (λ t. IsNoted t d reply None) then (subst (IsNoted moment d reply) none is);
    journal = same ∙ sym (append-nil before);
  }

  -- a deed that is noted has its entry at the end of the journal
  pub does_noted : (moment : ℕ) (v : Option Noted) (noted : Noted) (between after : List Entry) → moment ≡ now → v ≡ Some noted → IsNoted moment d reply v
      → between ≡ before → after ≡ between ++ record { pass = pass; noted = noted } ∷ [] → Does rules pass now d old new before after reply
  does_noted moment v noted between after then some is same longer = record {
    acts = acts;
    noted = Some noted;
    is = subst (λ t. IsNoted t d reply (Some noted)) then (subst (IsNoted moment d reply) some is);
    journal = longer ∙ ap (λ (es : List Entry). es ++ record { pass = pass; noted = noted } ∷ []) same;
  }
