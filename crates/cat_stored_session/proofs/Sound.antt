-- A kept session stays sound.
use Rattle.std.proofs.Common.{ℕ, Bool, true, false, if◌then◌else◌, List}
use Rattle.cat_laws.proofs.Stands.{settle_keeps}
use Rattle.cat_laws.proofs.Steps.{step_kept}
use Rattle.cat_io.proofs.Keeping.{Keeps, after_lines-keeps}
use Rattle.cat_io.specs.Runs.{after_lines}
use Rattle.cat_io.specs.Word.{Word, plain, memory, cut, unkept, cut_unkept}
use Rattle.cat_model.specs.Catalogue.{Rules}
use Rattle.cat_model.specs.Sound.{Sound}
use Rattle.cat_model.specs.declared.types.Settings.{Settings}
use Rattle.cat_session_model.proofs.Kept.{after_kept}
use Rattle.cat_session_model.specs.Program.{program_settings, ruled_after}
use Rattle.cat_session_model.specs.Session.{session_after}
use Rattle.cat_session_lines.specs.Lines.{line_of}
use Rattle.cat_stored_session.specs.Kept.{kept_after, may_be_cut, may_be_refused, one_refused}
use Rattle.cat_stored_session.specs.declared.state.KeptState.{KeptState}

module _ (rules : Rules) where
  abbrev IsSound : KeptState → Type 0
  IsSound m = Sound rules m.ruled.session.state

  acted : (m : KeptState) (w : Word) (line : List ℕ) → IsSound m → Sound rules (session_after rules (program_settings m.ruled.orphans) m.ruled.session w line).state
  acted m w line sound =
      let s : Settings = program_settings m.ruled.orphans in
      after_kept rules s (Sound rules) (step_kept rules s) (λ now limit n sound. (settle_keeps rules s now limit n).sound sound) m.ruled.session w line sound

  keeps : Keeps (kept_after rules) IsSound
  keeps m plain line sound = acted m plain line sound
  keeps m memory line sound = acted m memory line sound
  keeps m (cut n) line sound = acted m (cut n) line sound
  keeps m unkept line sound = go (may_be_refused (line_of line))
    where
      go : (b : Bool) → IsSound (if b then one_refused m.ruled m else record m { ruled = ruled_after rules m.ruled plain line })
      go true = sound
      go false = acted m plain line sound
  keeps m (cut_unkept n) line sound = go (may_be_cut (line_of line))
    where
      go : (b : Bool) → IsSound (if b then one_refused (ruled_after rules m.ruled (cut 1) line) m else record m { ruled = ruled_after rules m.ruled plain line })
      go true = acted m (cut 1) line sound
      go false = acted m plain line sound

  pub lines_sound : (m : KeptState) (lines : List (List ℕ)) (words : List Word) → IsSound m → IsSound (after_lines (kept_after rules) m lines words)
  lines_sound m lines words sound = after_lines-keeps (kept_after rules) IsSound keeps m sound lines words
