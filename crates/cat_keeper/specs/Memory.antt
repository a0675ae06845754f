-- What the keeper in memory does.
use Rattle.std.specs.Prelude.{◌≡◌}
use Rattle.cat_io.specs.Calls.{Calls, FailsNext}
use Rattle.cat_keeper.specs.Store.{Rows, Changes, applied}
use Rattle.cat_keeper.specs.declared.keeper.Loaded.{Loaded}
use Rattle.cat_keeper.specs.declared.keeper.Loaded.TheVariants.{Rows as Given, Failed, NoMemory}
use Rattle.cat_keeper.specs.declared.keeper.Committed.{Committed}
use Rattle.cat_keeper.specs.declared.keeper.Committed.TheVariants.{Kept, Failed as NotKept, NoMemory as NoRoom}

-- the rows that are kept, and which calls fail
pub record KeeperState : Type 0 where
  pub rows : Rows
  pub calls : Calls

-- Just the calls of the list fail. Another gives the rows, or lacks memory.
abbrev pub LoadsAsTold : KeeperState → KeeperState → Loaded → Type 0
LoadsAsTold old new (Given rows) = (FailsNext old.calls → ⊥) × (rows ≡ old.rows) × (new.rows ≡ old.rows)
LoadsAsTold old new Failed = FailsNext old.calls × (new.rows ≡ old.rows)
LoadsAsTold old new NoMemory = (FailsNext old.calls → ⊥) × (new.rows ≡ old.rows)

-- Just the calls of the list fail. Another makes the changes of the batch, or lacks memory and makes none.
abbrev pub CommitsAsTold : KeeperState → KeeperState → Committed → Changes → Type 0
CommitsAsTold old new Kept batch = (FailsNext old.calls → ⊥) × (new.rows ≡ applied batch old.rows)
CommitsAsTold old new NotKept batch = FailsNext old.calls × (new.rows ≡ old.rows)
CommitsAsTold old new NoRoom batch = (FailsNext old.calls → ⊥) × (new.rows ≡ old.rows)
