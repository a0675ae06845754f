-- What the answers of a keeper say of its tables and of its count of faults.
use Rattle.std.specs.Prelude.{◌≡◌, ℕ, ⊤, option_map}
use Rattle.std.specs.declared.option.Option.{Option}
use Rattle.std.specs.declared.option.Option.TheVariants.{None, Some}
use Rattle.cat_io.specs.Causes.{CountsFault}
use Rattle.cat_keeper.specs.Store.{Rows, Changes, applied}
use Rattle.cat_keeper.specs.declared.keeper.Loaded.{Loaded}
use Rattle.cat_keeper.specs.declared.keeper.Loaded.TheVariants.{Rows as Given, Failed, NoMemory}
use Rattle.cat_keeper.specs.declared.keeper.Committed.{Committed}
use Rattle.cat_keeper.specs.declared.keeper.Committed.TheVariants.{Kept, Failed as NotKept, NoMemory as NoRoom}

-- Tables that are told stay as they are.
abbrev pub Stays : Option Rows → Option Rows → Type 0
Stays None new = ⊤
Stays (Some rows) new = new ≡ Some rows

-- tables that are told are these rows
abbrev pub Are : Option Rows → Rows → Type 0
Are None rows = ⊤
Are (Some told) rows = told ≡ rows

-- A load gives the tables, where they are told before it or after it, and leaves them as they are.
abbrev pub Loads : Option Rows → Option Rows → Loaded → Type 0
Loads old new (Given rows) = Stays old new × Are old rows × Are new rows
Loads old new Failed = Stays old new
Loads old new NoMemory = Stays old new

-- A commit that keeps a batch makes its changes to the tables, and another one none. What wasn't told before isn't told after.
abbrev pub Commits : Option Rows → Option Rows → Committed → Changes → Type 0
Commits old new Kept batch = new ≡ option_map (applied batch) old
Commits old new NotKept batch = new ≡ old
Commits old new NoRoom batch = new ≡ old

-- A load that failed counted one fault, and another counted none.
abbrev pub CountsLoad : Loaded → ℕ → ℕ → Type 0
CountsLoad (Given rows) before now = now ≡ before
CountsLoad Failed before now = CountsFault before now
CountsLoad NoMemory before now = now ≡ before

-- A commit that failed counted one fault, and another counted none.
abbrev pub CountsCommit : Committed → ℕ → ℕ → Type 0
CountsCommit Kept before now = now ≡ before
CountsCommit NotKept before now = CountsFault before now
CountsCommit NoRoom before now = now ≡ before
