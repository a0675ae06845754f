-- Lists of loads and commits over a journal, and what a crash at any moment of them leaves.
use Rattle.std.specs.Prelude.{◌≡◌, ◌⊎◌, ℕ, List, [], ◌∷◌, ◌++◌, map}
use Rattle.cat_keeper.specs.Store.{Changes, Rows, applied}
use Rattle.cat_keeper.specs.declared.keeper.Committed.TheVariants.{Kept, Failed, NoMemory}
use Rattle.cat_journal.specs.Left.{IsLeft, LeavesOnly}
use Rattle.cat_journal.specs.Writes.{Seen}
use Rattle.cat_journal.specs.Keeps.{JournalState}
use Rattle.cat_journal.specs.Stands.{Stands, IsSafeLoaded, IsSafeCommit}
use Rattle.cat_journal.specs.declared.call.Order.{Order}
use Rattle.cat_journal.specs.declared.call.Order.TheVariants.{Load as ToLoad, Commit as ToCommit}
use Rattle.cat_journal.specs.declared.call.Call.{Call}
use Rattle.cat_journal.specs.declared.call.Call.TheVariants.{Load, Commit}

-- the disk of a keeper
abbrev pub disk_of : JournalState → Seen
disk_of k = record { moments = k.moments; content = k.content }

-- what the contract of a call says of it
abbrev pub Makes : Call → JournalState → JournalState → Type 0
Makes (Load result) old new = (base : Rows) (more : List Changes) → Stands base more old.known (disk_of old) → IsSafeLoaded base more (disk_of old) (disk_of new) new.known result
Makes (Commit batch result) old new = (base : Rows) (more : List Changes) → Stands base more old.known (disk_of old) → IsSafeCommit base more batch (disk_of old) (disk_of new) new.known result

-- one call after the other
abbrev pub Runs : List Call → JournalState → JournalState → Type 0
Runs [] old new = new ≡ old
Runs (call ∷ calls) old new = (mid : JournalState) × Makes call old mid × Runs calls mid new

-- the rows after a call: a commit that was kept makes its batch
abbrev pub rows_then : Call → Rows → Rows
rows_then (Load result) base = base
rows_then (Commit batch Kept) base = applied batch base
rows_then (Commit batch Failed) base = base
rows_then (Commit batch NoMemory) base = base

-- the batches that may be made beside those that were kept: those that failed since one was
abbrev pub more_then : Call → List Changes → List Changes
more_then (Load result) more = more
more_then (Commit batch Kept) more = []
more_then (Commit batch Failed) more = batch ∷ more
more_then (Commit batch NoMemory) more = more

-- the same while the call is under way
abbrev pub more_during : Call → List Changes → List Changes
more_during (Load result) more = more
more_during (Commit batch result) more = batch ∷ more

-- after all calls
abbrev pub rows_after_all : List Call → Rows → Rows
rows_after_all [] base = base
rows_after_all (call ∷ calls) base = rows_after_all calls (rows_then call base)

abbrev pub more_after_all : List Call → List Changes → List Changes
more_after_all [] more = more
more_after_all (call ∷ calls) more = more_after_all calls (more_then call more)

-- content that a crash in one of the calls may leave: a journal whose rows are those after the batches that were kept before the call,
-- and after them at most one batch more
abbrev pub IsLeftIn : List Call → Rows → List Changes → List ℕ → Type 0
IsLeftIn [] base more c = ⊥
IsLeftIn (call ∷ calls) base more c = IsLeft base (more_during call more) c ⊎ IsLeftIn calls (rows_then call base) (more_then call more) c

-- Where the rows stand before these calls, a crash at any moment of them leaves only such content, and the rows stand after them.
abbrev pub AreSafe : List Call → JournalState → JournalState → Type 0
AreSafe calls old new =
    (base : Rows) (more : List Changes) → Stands base more old.known (disk_of old)
    → LeavesOnly old.moments new.moments (IsLeftIn calls base more) × Stands (rows_after_all calls base) (more_after_all calls more) new.known (disk_of new)

-- what a call was asked for
abbrev pub order_of : Call → Order
order_of (Load result) = ToLoad
order_of (Commit batch result) = ToCommit batch

abbrev pub orders_of : List Call → List Order
orders_of calls = map order_of calls

-- these calls were asked for by the first of these orders
abbrev pub AreFirst : List Call → List Order → Type 0
AreFirst calls orders = (rest : List Order) × (orders_of calls ++ rest ≡ orders)
