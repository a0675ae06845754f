-- What is told of a store that can't be opened.
use Rattle.std.specs.Prelude.{◌≡◌, ℕ, List, [], ◌∷◌, ◌++◌, Option, IfSome, ◌⊎◌, codes}
use Rattle.std.specs.Io.KnownBytes.{Appends}
use Rattle.cat_io.specs.Causes.{Rose}
use Rattle.cat_io.specs.Sink.{AppendsFront}
use Rattle.cat_connection.specs.declared.command.Status.{Status}
use Rattle.cat_connection.specs.declared.command.Status.TheVariants.{StoreFault, BadRow, NoMemory}
use Rattle.cat_keeper.specs.Answers.{Stays}
use Rattle.cat_keeper.specs.Store.{Rows}
use Rattle.cat_keeper.specs.Tables.{table_name}
use Rattle.cat_keeper.specs.declared.table.Table.{Table}
use Rattle.cat_layers.specs.Layered.{layered}
use Rattle.cat_model.specs.declared.types.OrphanRule.TheVariants.{Keep}
use Rattle.cat_row_updates.specs.Right.{AreOfNone}
use Rattle.cat_store.specs.Refused.{IsNamed}
use Rattle.cat_store.specs.declared.open.OpenFault.TheVariants.{Row}
use Rattle.cat_collections.specs.Table.{Text}
use Rattle.cat_session_model.specs.Program.{program_settings}

-- the line that names the first row of a store which has no reading or breaks a rule, its LF at the end
abbrev pub refused_store : Table → Text → List ℕ
refused_store table key = codes "refused store " ++ (table_name table ++ (32 ∷ (key ++ 10 ∷ [])))

-- the line that names a row was written whole, or the sink failed in it
abbrev pub IsLineOf : Table → Text → Option (List ℕ) → Option (List ℕ) → ℕ → ℕ → Type 0
IsLineOf table key written written' faults faults' =
    Appends written written' (refused_store table key)
    ⊎ (AppendsFront written written' (refused_store table key) × Rose faults faults')

-- A store was refused of which a keeper told these rows, if it told any: the line that names a row was written whole, or the sink failed in it, and the row is
-- the first at fault among the rows; where none is, the first by which they differ from the rows of the state that they stand for.
abbrev pub IsRefused : Option Rows → Option (List ℕ) → Option (List ℕ) → ℕ → ℕ → Type 0
IsRefused told written written' faults faults' =
    (table : Table) × (key : Text) × IfSome told (λ rows. IsNamed (program_settings Keep).input_limit rows (Row table key))
    × IsLineOf table key written written' faults faults'

-- The rows that a keeper told, if it told any, are those of no state that opens: of none that is sound, in its bounds and forms, and within the program's
-- limit, in either version.
abbrev pub IsUnopenable : Option Rows → Type 0
IsUnopenable told = IfSome told (λ rows. AreOfNone layered (program_settings Keep).input_limit rows)

-- A store wasn't opened, and the status has its cause: the keeper counted a fault; or the rows that it told are those of no state that opens, and a line names one;
-- or memory was wanted. But for that line nothing was written, and what the keeper tells of the place is as before.
pub record IsShut {O K : Type 0} (written : O → Option (List ℕ)) (write_faults : O → ℕ) (tables : K → Option Rows) (keeper_faults : K → ℕ) (status : Status) (sink sink' : O) (keeper keeper' : K) : Type 0 where
  pub same : Stays (tables keeper) (tables keeper')
  pub cause : ((status ≡ StoreFault) × (sink' ≡ sink) × Rose (keeper_faults keeper) (keeper_faults keeper'))
      ⊎ (((status ≡ BadRow) × IsUnopenable (tables keeper) × IsRefused (tables keeper) (written sink) (written sink') (write_faults sink) (write_faults sink'))
      ⊎ ((status ≡ NoMemory) × (sink' ≡ sink)))
