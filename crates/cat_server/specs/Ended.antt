-- How a server ends, and what it leaves of its doors, of the sink, and of the keeper that it was given.
use Rattle.std.specs.Prelude.{◌≡◌, ◌≤◌, ◌⊎◌, ℕ, Bool, List, [], ◌∷◌, MatchOption}
use Rattle.std.specs.declared.option.Option.{Option}
use Rattle.std.specs.declared.option.Option.TheVariants.{None, Some}
use Rattle.cat_connection.specs.Status.{IsOneOf}
use Rattle.cat_connection.specs.declared.command.Status.{Status}
use Rattle.cat_connection.specs.declared.command.Status.TheVariants.{Whole, DoorsFault, NoMemory}
use Rattle.cat_io.specs.Causes.{Rose}
use Rattle.cat_keeper.specs.Store.{Rows}
use Rattle.cat_keeper.specs.declared.keeper.Place.{Place}
use Rattle.cat_listener.specs.Doors.{HaveClosed, StayClosed}
use Rattle.cat_open_errors.specs.Unopened.{IsShut}

-- A server listened, by its doors: it ends well only where they have closed, tells their fault only where they counted one, and wants memory only before a
-- connection was let in, so that doors which had closed still have. No count of faults falls.
pub record HasListened {D : Type 0} (closed : D → Option Bool) (door_faults : D → ℕ) (status : Status) (doors doors' : D) : Type 0 where
  pub well : status ≡ Whole → HaveClosed (closed doors')
  pub doors_fault : status ≡ DoorsFault → Rose (door_faults doors) (door_faults doors')
  pub memory : status ≡ NoMemory → StayClosed (closed doors) (closed doors')
  pub later : door_faults doors ≤ door_faults doors'
  pub statuses : IsOneOf status (Whole ∷ DoorsFault ∷ NoMemory ∷ [])

-- A server over an empty catalogue: it listened, and left the sink and the keeper alone.
abbrev pub EndsAsServer : {O D K : Type 0} → (D → Option Bool) → (D → ℕ) → Status → O → O → D → D → K → Option K → Type 0
EndsAsServer closed door_faults status sink sink' doors doors' keeper kept =
    (kept ≡ Some keeper) × (sink' ≡ sink) × HasListened closed door_faults status doors doors'

-- A server over the store at a place: the store was opened, and the server listened, and has the keeper to the end; or it wasn't, and no address was listened
-- at.
abbrev pub EndsAsStoredServer : {O D K : Type 0} → (O → Option (List ℕ)) → (O → ℕ) → (D → Option Bool) → (D → ℕ) → (Place → K → Option Rows) → (K → ℕ) → Place → Status → O → O → D → D → K → Option K → Type 0
EndsAsStoredServer {K = K} written write_faults closed door_faults tables keeper_faults place status sink sink' doors doors' keeper kept =
    ((kept ≡ None) × (sink' ≡ sink) × HasListened closed door_faults status doors doors')
    ⊎ ((back : K) × (kept ≡ Some back) × (doors' ≡ doors) × IsShut written write_faults (tables place) keeper_faults status sink sink' keeper back)

-- a server over the store at a place, if one is named, or else over an empty catalogue
abbrev pub EndsAsServing : {O D K : Type 0} → (O → Option (List ℕ)) → (O → ℕ) → (D → Option Bool) → (D → ℕ) → (Place → K → Option Rows) → (K → ℕ) → Option Place → Status → O → O → D → D → K → Option K → Type 0
EndsAsServing written write_faults closed door_faults tables keeper_faults place status sink sink' doors doors' keeper kept =
    MatchOption place (EndsAsServer closed door_faults status sink sink' doors doors' keeper kept)
    (λ at. EndsAsStoredServer written write_faults closed door_faults tables keeper_faults at status sink sink' doors doors' keeper kept)
