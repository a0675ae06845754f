-- What sessions over one store, one after the other, have done.
use Rattle.std.specs.Prelude.{◌≡◌, ◌≢◌, ℕ, List, [], ◌∷◌, Option, Some, ◌⊎◌}
use Rattle.cat_io.specs.Causes.{Rose}
use Rattle.cat_keeper.specs.Answers.{Stays}
use Rattle.cat_keeper.specs.Store.{Rows}
use Rattle.cat_keeper.specs.declared.keeper.Place.{Place}
use Rattle.cat_model.specs.declared.types.OrphanRule.{OrphanRule}
use Rattle.cat_connection.specs.declared.command.Status.{Status}
use Rattle.cat_connection.specs.declared.command.Status.TheVariants.{Whole, WriteFault, StoreFault, BadRow, NoMemory}
use Rattle.cat_stored_session.specs.Stores.{HasKept}
use Rattle.cat_open_errors.specs.Unopened.{IsRefused, IsUnopenable}

-- What stands outside of sessions: what the keeper tells of the place, the faults that it counted, what stands written, and the faults that the sink counted.
pub record Outside : Type 0 where
  pub rows : Option Rows
  pub faults : ℕ
  pub written : Option (List ℕ)
  pub sink_faults : ℕ

-- A session wasn't opened, and its status has its cause: the keeper counted a fault, the rows are those of no state that opens and a line names one, or memory
-- lacked and nothing is written.
abbrev pub IsUnopened : Outside → Status → Outside → Type 0
IsUnopened old status new =
    ((status ≡ StoreFault) × Rose old.faults new.faults)
    ⊎ (((status ≡ BadRow) × IsUnopenable old.rows × IsRefused old.rows old.written new.written old.sink_faults new.sink_faults)
    ⊎ ((status ≡ NoMemory) × (new.written ≡ old.written)))

-- A session over the input ended with this status: it wasn't opened, and the keeper tells what it told; or it ran from what the keeper told, and at its end
-- the keeper tells the rows of its state. Where it broke off in writing, the sink counted a fault.
abbrev pub HasSat : Place → Option OrphanRule → List ℕ → Outside → Status → Outside → Type 0
HasSat place rule input old status new =
    (Stays old.rows new.rows × IsUnopened old status new)
    ⊎ ((left : Option (List ℕ)) × (tables : Place → Option Rows) × (new.rows ≡ tables place) × (status ≡ WriteFault → Rose old.sink_faults new.sink_faults)
    × HasKept place rule old.rows status (Some input) left old.written new.written tables new.faults)

-- Sessions over the inputs ended with this status: each over what the one before left, all of them whole, or up to the first that wasn't.
abbrev pub HaveSat : Place → Option OrphanRule → List (List ℕ) → Outside → Status → Outside → Type 0
HaveSat place rule [] old status new = (status ≡ Whole) × (new ≡ old)
HaveSat place rule (input ∷ inputs) old status new =
    ((status ≢ Whole) × HasSat place rule input old status new)
    ⊎ ((between : Outside) × HasSat place rule input old Whole between × HaveSat place rule inputs between status new)
