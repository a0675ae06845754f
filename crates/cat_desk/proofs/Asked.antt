-- Whether the catalogue is quiet.
use Rattle.std.proofs.Common.{◌≡◌, ◌↔◌, IsTrue, ℕ, Bool, true, false, refl, sym, true≢false}
use Rattle.cat_laws.proofs.Asked.{asked_quiet, quiet_asked}
use Rattle.cat_model.specs.Reply.{is_quiet}
use Rattle.cat_model.specs.Sound.{Quiet}
use Rattle.cat_model.specs.declared.types.State.{State}

-- an answer that is yes exactly where the catalogue is quiet is the model's
pub asked : (m : State) (now : ℕ) (b : Bool) → (IsTrue b ↔ Quiet m now) → b ≡ is_quiet m now
asked m now true iff = sym (quiet_asked m now (iff.0 refl))
asked m now false iff = no (is_quiet m now) refl
  where
    no : (v : Bool) → is_quiet m now ≡ v → false ≡ is_quiet m now
    no true e = absurd (true≢false (sym (iff.1 (asked_quiet m now e))))
    no false e = sym e
