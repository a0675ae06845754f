-- What is noted of a deed that forgets an entity.
use Rattle.std.proofs.Common.{◌≡◌, ℕ, true, refl, sym, ap, subst, ◌∙◌, true≢false}
use Rattle.std.specs.declared.option.Option.{Option}
use Rattle.std.specs.declared.option.Option.TheVariants.{None, Some}
use Rattle.cat_core.specs.declared.ledger.Ledger.{Ledger}
use Rattle.cat_desk.specs.Acts.{Acts, IsExact, deed_reply, or_refused}
use Rattle.cat_desk.specs.Deed.{Deed}
use Rattle.cat_desk.specs.Deed.Deed.{Forget, Settle}
use Rattle.cat_desk.specs.declared.command.Reply.{Reply}
use Rattle.cat_desk.specs.declared.command.Reply.TheVariants as replies
use Rattle.cat_io.specs.Word.{Word, plain, memory, cut, unkept, cut_unkept}
use Rattle.cat_model.specs.Catalogue.{Ref, Rules}
use Rattle.cat_model.specs.Step.{refusal}
use Rattle.cat_model.specs.Step.Event.{Forget as Forgotten}
use Rattle.cat_model.specs.declared.types.Fault.{Fault}
use Rattle.cat_shared.specs.Notes.{IsNoteOf, is_noted}
use Rattle.cat_shared.specs.declared.entry.Input.TheVariants as inputs
use Rattle.cat_shared.specs.declared.entry.Noted.{Noted}
use Rattle.cat_shared.specs.declared.entry.Noted.TheVariants as notes

-- what is noted wasn't refused
changed_said : (v : Option Fault) (reply : Reply) → reply ≡ or_refused v replies.Changed → is_noted reply ≡ true → replies.Changed ≡ reply
changed_said None reply is h = sym is
changed_said (Some f) reply is h = absurd (true≢false (sym h ∙ ap is_noted is))

no_settle : (r : Ref) → Forget r ≡ Settle → ⊥
no_settle r h = absurd (cc)

module _ (rules : Rules) (now : ℕ) (r : Ref) (old new : Ledger) (reply : Reply) (h : is_noted reply ≡ true) where
  said : (w : Word) → reply ≡ deed_reply rules old.settings now w (Forget r) old.state → IsExact rules old.settings now old.state (Forget r) w → replies.Changed ≡ reply
  said plain is exact = changed_said (refusal rules old.settings (Forgotten r) old.state) reply is h
  said memory is exact = absurd (true≢false (sym h ∙ ap is_noted is))
  said (cut n) is exact = absurd (no_settle r exact.0)
  said unkept is exact = changed_said (refusal rules old.settings (Forgotten r) old.state) reply is h
  said (cut_unkept n) is exact = changed_said (refusal rules old.settings (Forgotten r) old.state) reply is h

  forgotten : Acts rules now (Forget r) old new reply → (x : Noted) → x ≡ notes.Acted (inputs.Forget r) replies.Changed → IsNoteOf now (Forget r) reply x
  forgotten acts x is = subst (IsNoteOf now (Forget r) reply) (sym is) (refl, said acts.word acts.answer acts.exact)

-- a forget that is noted is noted as what changed something
pub forget_noted : (rules : Rules) (now : ℕ) (d : Deed) (r : Ref) (old new : Ledger) (reply : Reply) → d ≡ Forget r → is_noted reply ≡ true → Acts rules now d old new reply
    → (x : Noted) → x ≡ notes.Acted (inputs.Forget r) replies.Changed → IsNoteOf now d reply x
forget_noted rules now d r old new reply same h acts x is =
    subst (λ e. IsNoteOf now e reply x) (sym same) (forgotten rules now r old new reply h (subst (λ e. Acts rules now e old new reply) same acts) x is)
