-- How each command ends, and what it leaves of what it was given: the source, the sink, the doors and the keeper.
use Rattle.std.specs.Prelude.{◌≡◌, ◌⊎◌, ℕ, Bool, List, Option, Some, None, MatchOption, unwrap_or}
use Rattle.cat_command_line.specs.declared.options.CatalogueOptions.{CatalogueOptions}
use Rattle.cat_command_line.specs.declared.words.Command.{Command}
use Rattle.cat_command_line.specs.declared.words.Command.TheVariants.{Session, Wire, Serve, Mirror, Sample}
use Rattle.cat_connection.specs.Status.{EndsAsUsage}
use Rattle.cat_connection.specs.declared.command.Status.{Status}
use Rattle.cat_connection.specs.declared.command.Status.TheVariants.{NoMemory}
use Rattle.cat_in_memory.specs.Ends.{EndsAsConnection, EndsAsMirror, EndsAsSample, EndsAsSession}
use Rattle.cat_io.specs.Causes.{Rose}
use Rattle.cat_keeper.specs.Store.{Rows}
use Rattle.cat_keeper.specs.declared.keeper.Place.{Place}
use Rattle.cat_model.specs.declared.types.OrphanRule.{OrphanRule}
use Rattle.cat_model.specs.declared.types.OrphanRule.TheVariants.{Keep}
use Rattle.cat_server.specs.Ended.{EndsAsServing}
use Rattle.cat_stored_session.specs.Stores.{EndsAsStoredConnection, EndsAsStoredSession}

-- ---- a session and a connection, which have no doors

module _ {S O K : Type 0} (left : S → Option (List ℕ)) (read_faults : S → ℕ) (written : O → Option (List ℕ)) (write_faults : O → ℕ) (tables : Place → K → Option Rows) (keeper_faults : K → ℕ)
    (status : Status) (source source' : S) (sink sink' : O) (keeper : K) (kept : Option K) where
  -- Lines were answered over the catalogue at a place, if one is named; or else over an empty one, which keeps orphans unless an option says otherwise, and the
  -- keeper is as it was.
  abbrev pub AnswersLines : CatalogueOptions → Type 0
  AnswersLines options =
      MatchOption options.place ((kept ≡ Some keeper) × EndsAsSession left read_faults written write_faults (unwrap_or options.orphans Keep) status source source' sink sink')
      (λ place. (back : K) × (kept ≡ Some back) × EndsAsStoredSession left read_faults written write_faults tables keeper_faults place options.orphans status source source' sink sink' keeper back)

  -- the same of messages
  abbrev pub AnswersMessages : CatalogueOptions → Type 0
  AnswersMessages options =
      MatchOption options.place ((kept ≡ Some keeper) × EndsAsConnection left read_faults written write_faults (unwrap_or options.orphans Keep) status source source' sink sink')
      (λ place. (back : K) × (kept ≡ Some back) × EndsAsStoredConnection left read_faults written write_faults tables keeper_faults place options.orphans status source source' sink sink' keeper back)

-- ---- all

module _ {S O D K : Type 0} (left : S → Option (List ℕ)) (read_faults : S → ℕ) (written : O → Option (List ℕ)) (write_faults : O → ℕ) (closed : D → Option Bool) (door_faults : D → ℕ) (tables : Place → K → Option Rows) (keeper_faults : K → ℕ)
    (status : Status) (source source' : S) (sink sink' : O) (doors doors' : D) (keeper : K) (kept : Option K) where
  -- How a command ends, and what it leaves. A session, a connection and a mirror have a source and a sink, a server has doors, and a sample a sink; what a command
  -- doesn't have is as it was.
  abbrev pub EndsAs : Command → Type 0
  EndsAs (Session options) = (doors' ≡ doors) × AnswersLines left read_faults written write_faults tables keeper_faults status source source' sink sink' keeper kept options
  EndsAs (Wire options) = (doors' ≡ doors) × AnswersMessages left read_faults written write_faults tables keeper_faults status source source' sink sink' keeper kept options
  EndsAs (Serve serving) = (source' ≡ source) × EndsAsServing written write_faults closed door_faults tables keeper_faults serving.catalogue.place status sink sink' doors doors' keeper kept
  EndsAs Mirror = (doors' ≡ doors) × (kept ≡ Some keeper) × EndsAsMirror left read_faults written write_faults status source source' sink sink'
  EndsAs (Sample sample) = (source' ≡ source) × (doors' ≡ doors) × (kept ≡ Some keeper) × EndsAsSample written write_faults sample.seed sample.count status sink sink'

  -- words that are no command: the usage line is written, and all else is as it was
  abbrev pub EndsAsNone : Type 0
  EndsAsNone = (source' ≡ source) × (doors' ≡ doors) × (kept ≡ Some keeper) × EndsAsUsage written write_faults status sink sink'

  -- memory was wanted for the words, and all is as it was
  abbrev pub IsUnread : Type 0
  IsUnread = (status ≡ NoMemory) × (source' ≡ source) × (sink' ≡ sink) × (doors' ≡ doors) × (kept ≡ Some keeper)

  -- how the program ends, by the command that its words are
  abbrev pub Ends : Option Command → Type 0
  Ends command = IsUnread ⊎ MatchOption command EndsAsNone EndsAs

-- ---- where nothing failed

-- the faults that the keeper has counted, where it is given back
abbrev pub faults_left : {K : Type 0} → (K → ℕ) → Option K → ℕ
faults_left faults None = 0
faults_left faults (Some keeper) = faults keeper

-- No end counted a fault: not the source, the sink, the doors or the keeper.
pub record HasNoFault {S O D K : Type 0} (read_faults : S → ℕ) (write_faults : O → ℕ) (door_faults : D → ℕ) (keeper_faults : K → ℕ) (source source' : S) (sink sink' : O) (doors doors' : D) (keeper : K) (kept : Option K) : Type 0 where
  pub read : Rose (read_faults source) (read_faults source') → ⊥
  pub written : Rose (write_faults sink) (write_faults sink') → ⊥
  pub listened : Rose (door_faults doors) (door_faults doors') → ⊥
  pub kept_rows : Rose (keeper_faults keeper) (faults_left keeper_faults kept) → ⊥
