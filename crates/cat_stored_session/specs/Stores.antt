-- What a session or a connection over a store has done.
use Rattle.std.specs.Prelude.{◌≡◌, ◌≤◌, ◌⊎◌, ℕ, List, [], ◌∷◌, None, Option, IfSome}
use Rattle.cat_keeper.specs.Answers.{Are}
use Rattle.cat_keeper.specs.Store.{Rows}
use Rattle.cat_keeper.specs.declared.keeper.Place.{Place}
use Rattle.cat_stored_session.specs.Kept.{kept_after, kept_reply}
use Rattle.cat_stored_session.specs.declared.state.KeptState.{KeptState}
use Rattle.cat_stored_session.specs.Wire.{KeptWired, kept_wire_after, kept_wire_reply}
use Rattle.cat_layers.specs.Layered.{layered}
use Rattle.cat_model.specs.Sound.{Sound}
use Rattle.cat_model.specs.declared.types.OrphanRule.{OrphanRule}
use Rattle.cat_model.specs.declared.types.State.{State}
use Rattle.cat_row_updates.specs.Told.{OpensAs}
use Rattle.cat_store.specs.Opened.{HasRule, IsRead}
use Rattle.cat_stored_rows.specs.Stored.{stored, texts_of}
use Rattle.cat_feed.specs.Feed.{begun}
use Rattle.cat_connection.specs.Status.{HasCauses, HasRun, HasServed, IsOneOf}
use Rattle.cat_connection.specs.declared.command.Status.{Status}
use Rattle.cat_connection.specs.declared.command.Status.TheVariants.{Whole, ReadFault, WriteFault, StoreFault, BadRow, NoMemory, Bound}
use Rattle.cat_open_errors.specs.Unopened.{IsShut}
use Rattle.cat_session_model.specs.Program.{program_settings}
use Rattle.cat_connection.specs.Worded.{HasWords}
use Rattle.cat_session_model.specs.declared.state.SessionState.{SessionState}

-- a session over a state at the moment 0, with no orders handed out
abbrev pub session_over : State → SessionState
session_over m = record { state = m; now = 0; orders = []; stitches = [] }

-- A session was opened from what a keeper told of a place, under this rule for orphans, if one was given, or else under the stored one: its state is what
-- the rows say, so where they are the rows of a state it is what that state opens again as, and all holds of it that must hold between two events.
pub record IsOpened (place : Place) (rule : Option OrphanRule) (told : Option Rows) (m : KeptState) : Type 0 where
  pub begun : m.ruled.session ≡ session_over m.ruled.session.state
  pub place_is : m.place ≡ place
  pub none_refused : m.refusals ≡ 0
  pub rule_is : IfSome rule (λ r. m.ruled.orphans ≡ r)
  pub rule_kept : rule ≡ None → IfSome told (λ rows. HasRule rows m.ruled.orphans m.ruled.session.state)
  pub read : IfSome told (λ rows. IsRead rows m.ruled.session.state)
  pub opens : IfSome told (λ rows. OpensAs layered rows m.ruled.session.state)
  pub sound : Sound layered m.ruled.session.state

-- A session over a store ran: it was opened, its replies are those of the abstract session, in which a line may stand that wasn't kept; at its
-- end the keeper tells the rows of the state in which it ended, if it tells any, and has counted at least as many faults as lines weren't kept.
pub record HasKept (place : Place) (rule : Option OrphanRule) (before : Option Rows) (status : Status) (left left' written written' : Option (List ℕ)) (after : Place → Option Rows) (faults : ℕ) : Type 0 where
  pub first : KeptState
  pub last : KeptState
  pub opened : IsOpened place rule before first
  pub ran : HasRun (kept_after layered) (kept_reply layered) status left left' written written' first last
  pub kept : Are (after last.place) (texts_of (stored last.ruled.orphans last.ruled.session.state))
  pub caused : last.refusals ≤ faults

-- A connection was opened from what a keeper told of a place, under this rule for orphans, if one was given, or else under the stored one: its state is
-- what the rows say, so where they are the rows of a state it is what that state opens again as, all holds of it that must hold between two events, and
-- its feed has told nothing.
pub record IsWired (place : Place) (rule : Option OrphanRule) (told : Option Rows) (m : KeptWired) : Type 0 where
  pub settings : m.wired.catalogue.settings ≡ program_settings m.wired.catalogue.settings.orphans
  pub feed_is : m.wired.feed ≡ begun 0
  pub place_is : m.place ≡ place
  pub none_refused : m.refusals ≡ 0
  pub rule_is : IfSome rule (λ r. m.wired.catalogue.settings.orphans ≡ r)
  pub rule_kept : rule ≡ None → IfSome told (λ rows. HasRule rows m.wired.catalogue.settings.orphans m.wired.catalogue.state)
  pub read : IfSome told (λ rows. IsRead rows m.wired.catalogue.state)
  pub opens : IfSome told (λ rows. OpensAs layered rows m.wired.catalogue.state)
  pub sound : Sound layered m.wired.catalogue.state

-- A connection over a store was answered: it was opened, its replies are those of the abstract catalogue, in which a message may stand whose
-- change wasn't kept; at its end the keeper tells the rows of the state in which it ended, if it tells any, and has counted at least as many
-- faults as messages weren't kept.
pub record HasKeptWire (place : Place) (rule : Option OrphanRule) (before : Option Rows) (status : Status) (left left' written written' : Option (List ℕ)) (after : Place → Option Rows) (faults : ℕ) : Type 0 where
  pub first : KeptWired
  pub last : KeptWired
  pub opened : IsWired place rule before first
  pub ran : HasServed (HasWords (kept_wire_after layered) (kept_wire_reply layered)) status left left' written written' first last
  pub kept : ∥ Are (after last.place) (texts_of (stored last.wired.catalogue.settings.orphans last.wired.catalogue.state)) ∥₁
  pub caused : last.refusals ≤ faults

-- ---- how a session and a connection over a store end

-- A session over the store at a place: it wasn't opened, and nothing was read; or it ran from what the keeper told, and at its end the keeper tells the rows of
-- its state.
pub record EndsAsStoredSession {S O K : Type 0} (left : S → Option (List ℕ)) (read_faults : S → ℕ) (written : O → Option (List ℕ)) (write_faults : O → ℕ) (tables : Place → K → Option Rows) (keeper_faults : K → ℕ) (place : Place) (rule : Option OrphanRule) (status : Status) (source source' : S) (sink sink' : O) (keeper keeper' : K) : Type 0 where
  pub ran : ((source' ≡ source) × IsShut written write_faults (tables place) keeper_faults status sink sink' keeper keeper')
      ⊎ HasKept place rule (tables place keeper) status (left source) (left source') (written sink) (written sink') (λ at. tables at keeper') (keeper_faults keeper')
  pub causes : HasCauses read_faults write_faults status source source' sink sink'
  pub statuses : IsOneOf status (Whole ∷ ReadFault ∷ WriteFault ∷ StoreFault ∷ BadRow ∷ NoMemory ∷ Bound ∷ [])

-- a connection over the store at a place: the same of its messages
pub record EndsAsStoredConnection {S O K : Type 0} (left : S → Option (List ℕ)) (read_faults : S → ℕ) (written : O → Option (List ℕ)) (write_faults : O → ℕ) (tables : Place → K → Option Rows) (keeper_faults : K → ℕ) (place : Place) (rule : Option OrphanRule) (status : Status) (source source' : S) (sink sink' : O) (keeper keeper' : K) : Type 0 where
  pub ran : ((source' ≡ source) × IsShut written write_faults (tables place) keeper_faults status sink sink' keeper keeper')
      ⊎ HasKeptWire place rule (tables place keeper) status (left source) (left source') (written sink) (written sink') (λ at. tables at keeper') (keeper_faults keeper')
  pub causes : HasCauses read_faults write_faults status source source' sink sink'
  pub statuses : IsOneOf status (Whole ∷ ReadFault ∷ WriteFault ∷ StoreFault ∷ BadRow ∷ NoMemory ∷ Bound ∷ [])
