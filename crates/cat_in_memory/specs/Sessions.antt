-- The program's sessions.
use Rattle.std.specs.Prelude.{ℕ, List}
use Rattle.cat_layers.specs.Layered.{layered}
use Rattle.cat_io.specs.Runs.{after_lines, line_after, line_reply}
use Rattle.cat_io.specs.Word.{Word}
use Rattle.cat_model.specs.declared.types.OrphanRule.{OrphanRule}
use Rattle.cat_session_model.specs.Program.{program_settings, session_start}
use Rattle.cat_session_model.specs.Session.{session_after, session_reply}
use Rattle.cat_session_model.specs.declared.state.SessionState.{SessionState}

-- the program's session under a rule for orphans after these lines, each with its word
abbrev pub session_at : OrphanRule → List (List ℕ) → List Word → SessionState
session_at rule lines words = after_lines (session_after layered (program_settings rule)) session_start lines words

-- the same after one line more
abbrev pub session_next : OrphanRule → List (List ℕ) → List Word → Word → List ℕ → SessionState
session_next rule lines words word line = line_after (session_after layered (program_settings rule)) (session_at rule lines words) word line

-- the reply to that line
abbrev pub reply_next : OrphanRule → List (List ℕ) → List Word → Word → List ℕ → List ℕ
reply_next rule lines words word line = line_reply (session_reply layered (program_settings rule)) (session_at rule lines words) word line
