-- A session whose catalogue is kept in a store.
use Rattle.std.specs.Prelude.{◌++◌, ◌∷◌, [], List, ℕ, Bool, true, false, not, ◌&&◌, codes, if◌then◌else◌}
use Rattle.std.specs.declared.result.Result.{Result}
use Rattle.std.specs.declared.result.Result.TheVariants.{Ok, Err}
use Rattle.cat_session_lines.specs.Lines.{line_of}
use Rattle.cat_session_lines.specs.declared.fault.LineFault.{LineFault}
use Rattle.cat_session_lines.specs.declared.line.Line.{Line}
use Rattle.cat_session_lines.specs.declared.line.Line.TheVariants as asks
use Rattle.cat_desk.specs.Kept.{one_more}
use Rattle.cat_io.specs.Word.{plain, memory, cut, unkept, cut_unkept, After, Reply}
use Rattle.cat_model.specs.Catalogue.{Rules}
use Rattle.cat_replies.specs.Events.{cut_by_keeper}
use Rattle.cat_session_model.specs.Program.{program_settings, ruled_after, ruled_reply}
use Rattle.cat_session_model.specs.Session.{settled}
use Rattle.cat_session_model.specs.declared.state.RuledSession.{RuledSession}
use Rattle.cat_stored_session.specs.declared.state.KeptState.{KeptState}

-- ---- which lines are followed

-- whether a line may change the stored rows of the catalogue's state
abbrev pub changes : Line → Bool
changes (asks.Mutate provider mutation) = true
changes (asks.ShelfPut name text) = true
changes (asks.ShelfDrop name) = true
changes (asks.Refresh r) = false
changes (asks.Forget r) = true
changes (asks.Clock now) = false
changes asks.Take = false
changes (asks.Finish token) = true
changes (asks.Stitch after) = false
changes (asks.Place ticket) = false
changes asks.Settle = true
changes (asks.Ask ask) = false

-- whether a line leaves what the catalogue holds as it is
abbrev pub leaves_state : Line → Bool
leaves_state (asks.Clock now) = true
leaves_state (asks.Stitch after) = true
leaves_state (asks.Ask ask) = true
leaves_state _ = false

-- whether a line is a settle, of which the first event may stand and the others not
abbrev pub is_settle : Line → Bool
is_settle asks.Settle = true
is_settle _ = false

-- whether a line is refused as a whole where its change isn't kept
abbrev pub is_single : Line → Bool
is_single line = changes line && not (is_settle line)

-- the same of what was read of a line
abbrev pub may_be_refused : Result Line LineFault → Bool
may_be_refused (Ok line) = is_single line
may_be_refused (Err fault) = false

-- whether what was read of a line is a settle
abbrev pub may_be_cut : Result Line LineFault → Bool
may_be_cut (Ok line) = is_settle line
may_be_cut (Err fault) = false

-- ---- what a line does

-- one more line wasn't kept, or not all of it
abbrev pub one_refused : RuledSession → KeptState → KeptState
one_refused ruled m = record m { ruled = ruled; refusals = one_more m.refusals }

-- the session after a line: one that wasn't kept, which may change the stored rows and is no settle, is counted and leaves it as it was; of a settle that was cut since
-- what follows its first event wasn't kept, which is counted too, just that event stands, whatever number the word has; and any other line does what it does to a session
-- that isn't kept
abbrev pub kept_after : Rules → After KeptState
kept_after rules m plain line = record m { ruled = ruled_after rules m.ruled plain line }
kept_after rules m memory line = record m { ruled = ruled_after rules m.ruled memory line }
kept_after rules m (cut n) line = record m { ruled = ruled_after rules m.ruled (cut n) line }
kept_after rules m unkept line = if may_be_refused (line_of line) then one_refused m.ruled m else record m { ruled = ruled_after rules m.ruled plain line }
kept_after rules m (cut_unkept n) line = if may_be_cut (line_of line) then one_refused (ruled_after rules m.ruled (cut 1) line) m else record m { ruled = ruled_after rules m.ruled plain line }

-- the reply to a line whose change wasn't kept, its LF at the end
abbrev pub refused_keeper : List ℕ
refused_keeper = codes "refused keeper" ++ 10 ∷ []

-- how many events a settle of a session has that is cut behind its first one: none where nothing is due and nothing marked
abbrev pub settle_events : Rules → RuledSession → ℕ
settle_events rules m = (settled rules (program_settings m.orphans) (cut 1) m.session).events

-- the reply to a line; of a settle that was cut since what follows its first event wasn't kept it says just that, whatever number the word has
abbrev pub kept_reply : Rules → Reply KeptState
kept_reply rules m plain line = ruled_reply rules m.ruled plain line
kept_reply rules m memory line = ruled_reply rules m.ruled memory line
kept_reply rules m (cut n) line = ruled_reply rules m.ruled (cut n) line
kept_reply rules m unkept line = if may_be_refused (line_of line) then refused_keeper else ruled_reply rules m.ruled plain line
kept_reply rules m (cut_unkept n) line = if may_be_cut (line_of line) then cut_by_keeper (settle_events rules m.ruled) else ruled_reply rules m.ruled plain line
