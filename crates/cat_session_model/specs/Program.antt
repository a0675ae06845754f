-- The settings of the program, where a session starts, and a session under its rule for orphans.
use Rattle.std.specs.Prelude.{ℕ, List, []}
use Rattle.cat_io.specs.Word.{Word}
use Rattle.cat_model.specs.Catalogue.{Rules}
use Rattle.cat_model.specs.Step.{start}
use Rattle.cat_model.specs.declared.types.OrphanRule.{OrphanRule}
use Rattle.cat_model.specs.declared.types.Settings.{Settings}
use Rattle.cat_session_model.specs.Session.{session_after, session_reply}
use Rattle.cat_session_model.specs.declared.state.RuledSession.{RuledSession}
use Rattle.cat_session_model.specs.declared.state.SessionState.{SessionState}

-- a result lasts two minutes, a lease one, 64 MiB of input are stored at most, and what leaves at a finish goes by this rule
abbrev pub program_settings : OrphanRule → Settings
program_settings rule = record { interval = 120000; lease = 60000; input_limit = 67108864; orphans = rule }

-- an empty catalogue at the moment 0
abbrev pub session_start : SessionState
session_start = record { state = start; now = 0; orders = []; stitches = [] }

-- the program's session after a line, under its rule
abbrev pub ruled_after : Rules → RuledSession → Word → List ℕ → RuledSession
ruled_after rules m word line = record m { session = session_after rules (program_settings m.orphans) m.session word line }

-- its reply to that line
abbrev pub ruled_reply : Rules → RuledSession → Word → List ℕ → List ℕ
ruled_reply rules m word line = session_reply rules (program_settings m.orphans) m.session word line
