-- The states that the program's sessions reach, and those that runs over one store come to.
use Rattle.std.specs.Prelude.{ℕ, List, [], Option}
use Rattle.cat_api.specs.Wire.{wire_after}
use Rattle.cat_feed.specs.Feed.{begun}
use Rattle.cat_stored_session.specs.Kept.{kept_after}
use Rattle.cat_stored_session.specs.declared.state.KeptState.{KeptState}
use Rattle.cat_stored_session.specs.Wire.{KeptWired, kept_wire_after}
use Rattle.cat_keeper.specs.Answers.{Are}
use Rattle.cat_keeper.specs.Store.{Rows}
use Rattle.cat_keeper.specs.declared.keeper.Place.{Place}
use Rattle.cat_layers.specs.Layered.{layered}
use Rattle.cat_io.specs.Runs.{after_lines}
use Rattle.cat_io.specs.Word.{Word}
use Rattle.cat_model.specs.Step.{reopened, start}
use Rattle.cat_model.specs.declared.types.OrphanRule.{OrphanRule}
use Rattle.cat_model.specs.declared.types.State.{State}
use Rattle.cat_stored_rows.specs.Stored.{tables}
use Rattle.cat_session_model.specs.Program.{program_settings, session_start}
use Rattle.cat_session_model.specs.Session.{session_after}
use Rattle.cat_connection.specs.Items.{Item}
use Rattle.cat_connection.specs.Worded as wire
use Rattle.cat_connection.specs.Worded.{after_items}

-- the state that the program's session under a rule for orphans comes to by the lines, each with its word
abbrev pub reached : OrphanRule → List (List ℕ) → List Word → State
reached rule lines words = (after_lines (session_after layered (program_settings rule)) session_start lines words).state

-- a session over a state that is kept at a place, under a rule for orphans, at the moment 0, with no orders handed out
abbrev pub kept_over : OrphanRule → Place → State → KeptState
kept_over rule place m = record { ruled = record { orphans = rule; session = record { state = m; now = 0; orders = []; stitches = [] } }; place = place; refusals = 0 }

-- the state that such a session comes to by the lines, each with its word, so also where the changes of some weren't kept
abbrev pub kept_to : OrphanRule → Place → State → List (List ℕ) → List Word → State
kept_to rule place m lines words = (after_lines (kept_after layered) (kept_over rule place m) lines words).ruled.session.state

-- a connection over a state that is kept at a place, under a rule for orphans, whose feed has told nothing
abbrev pub wired_over : OrphanRule → Place → State → KeptWired
wired_over rule place m = record { wired = record { catalogue = record { settings = program_settings rule; state = m }; feed = begun 0 }; place = place; refusals = 0 }

-- the state that such a connection comes to by the messages, each with its word, so also where the changes of some weren't kept
abbrev pub wired_to : OrphanRule → Place → State → List Item → List wire.Word → State
wired_to rule place m items words = (after_items (kept_wire_after layered) (wired_over rule place m) items words).wired.catalogue.state

-- the state that a connection over a catalogue that nothing keeps comes to by the messages, each with its word, under a rule for orphans
abbrev pub connected : OrphanRule → List Item → List wire.Word → State
connected rule items words = (after_items (wire_after layered) (record { catalogue = record { settings = program_settings rule; state = start }; feed = begun 0 }) items words).catalogue.state

-- A state is lasting if runs over one store come to it, one after the other: it is that of the empty catalogue, or what a session or a connection over
-- a lasting state comes to, or what a lasting state is opened again as.
pub data IsLasting : State → Type 0 where
  begins : IsLasting start
  runs : (rule : OrphanRule) (place : Place) (m : State) (lines : List (List ℕ)) (words : List Word) → IsLasting m → IsLasting (kept_to rule place m lines words)
  serves : (rule : OrphanRule) (place : Place) (m : State) (items : List Item) (words : List wire.Word) → IsLasting m → IsLasting (wired_to rule place m items words)
  reopens : (m : State) → IsLasting m → IsLasting (reopened layered m)

-- The rows that are told, if any are told, are those of a lasting state.
abbrev pub AreLasting : Option Rows → Type 0
AreLasting told = (rule : OrphanRule) × (m : State) × IsLasting m × Are told (tables rule m)
