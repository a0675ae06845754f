-- What the code of a kept session does with a line.
use Rattle.std.specs.Prelude.{◌≡◌, ◌⊎◌, true, List, ℕ}
use Rattle.cat_session_lines.specs.declared.line.Line.{Line}
use Rattle.cat_session_lines.specs.declared.line.Line.TheVariants as asks
use Rattle.cat_io.specs.Word.{cut}
use Rattle.cat_model.specs.Catalogue.{Rules}
use Rattle.cat_session.specs.Carried.{Carries}
use Rattle.cat_replies.specs.Events.{cut_by_keeper}
use Rattle.cat_session_model.specs.Program.{program_settings}
use Rattle.cat_session_model.specs.Session.{after_reading}
use Rattle.cat_session_model.specs.declared.state.RuledSession.{RuledSession}
use Rattle.cat_stored_session.specs.Kept.{is_settle, is_single, refused_keeper, settle_events}
use Rattle.cat_desk.specs.Kept.{one_more}

-- a settle was cut behind its first event, since what follows it wasn't kept: just that event stands, and this is the reply
pub record IsCut (rules : Rules) (old new : RuledSession) (text : List ℕ) : Type 0 where
  pub session : new ≡ record old { session = after_reading rules (program_settings old.orphans) (cut 1) asks.Settle old.session }
  pub exact : settle_events rules old ≡ 1
  pub text_is : text ≡ cut_by_keeper 1

-- a line's change wasn't kept, and the session is as before; or of a settle just the first event was; and this is the reply
abbrev pub IsRefused : Rules → Line → RuledSession → RuledSession → List ℕ → Type 0
IsRefused rules line old new text =
    ((new ≡ old) × (text ≡ refused_keeper) × (is_single line ≡ true)) ⊎ (IsCut rules old new text × (is_settle line ≡ true))

-- a line was carried out; or its change wasn't kept, or not all of it, which is counted; and this is the reply
abbrev pub CarriesKept : Rules → Line → RuledSession → RuledSession → ℕ → ℕ → List ℕ → Type 0
CarriesKept rules line old new refusals refusals' text =
    (Carries rules line old new text × (refusals' ≡ refusals)) ⊎ (IsRefused rules line old new text × (refusals' ≡ one_more refusals))
