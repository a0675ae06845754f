-- The rows of a journal on its disk, and what each call makes of them whatever crash comes in it.
use Rattle.std.specs.Prelude.{◌≡◌, ◌⊎◌, ℕ, List, [], ◌∷◌, Some, ⊤}
use Rattle.cat_disk.specs.declared.disk.DiskDone.{DiskDone}
use Rattle.cat_disk.specs.declared.disk.DiskDone.TheVariants.{Done, Failed as NotDone}
use Rattle.cat_keeper.specs.Store.{Changes, Rows, applied}
use Rattle.cat_keeper.specs.declared.keeper.Loaded.{Loaded}
use Rattle.cat_keeper.specs.declared.keeper.Loaded.TheVariants.{Rows as Given, Failed as NotLoaded, NoMemory as NoRoom}
use Rattle.cat_keeper.specs.declared.keeper.Committed.{Committed}
use Rattle.cat_keeper.specs.declared.keeper.Committed.TheVariants.{Kept as IsKept, Failed as NotKept, NoMemory as NoSpace}
use Rattle.cat_journal.specs.Parsed.{batch_of}
use Rattle.cat_journal.specs.Records.{rows_of}
use Rattle.cat_journal.specs.Left.{Now, IsOpen, IsShort, IsOneOf, LeavesOnly, IsLeft}
use Rattle.cat_journal.specs.Writes.{Seen}
use Rattle.cat_journal.specs.Loads.{IsKnown, IsWhole, Fits, IsClosedBy}
use Rattle.cat_journal.specs.declared.gate.Put.{Put}
use Rattle.cat_journal.specs.declared.gate.Put.TheVariants.{Kept, Behind, AtGate}
use Rattle.cat_journal.specs.declared.load.Known.{Known}
use Rattle.cat_journal.specs.declared.load.Known.TheVariants.{Nothing, Closed, Doubtful}
use Rattle.cat_journal.specs.declared.load.Loading.{Loading}
use Rattle.cat_journal.specs.declared.load.Loading.TheVariants.{Found, Damaged, Failed, NoMemory}

-- all is on the disk: a journal with these rows, whose open record, where it has one, is that of one of these batches
abbrev pub IsAtRest : Rows → List Changes → Seen → Type 0
IsAtRest base more s =
    Now s.moments s.content IsWhole
    × ((bodies : List (List ℕ)) × (gate : ℕ) × Fits bodies s.content gate × IsClosedBy more s.content gate × (rows_of bodies ≡ base))

-- The rows are these. A crash may leave one of these batches made too, by a record that is on the disk behind a gate byte in doubt.
abbrev pub Stands : Rows → List Changes → Known → Seen → Type 0
Stands base more Nothing s = IsAtRest base more s ⊎ (Now s.moments s.content IsShort × (base ≡ []))
Stands base more (Closed gate) s = (bodies : List (List ℕ)) × Now s.moments s.content (IsKnown (Closed gate) bodies) × (rows_of bodies ≡ base)
Stands base more (Doubtful gate) s =
    (bodies : List (List ℕ)) × (body : List ℕ) × (batch : Changes) × Now s.moments s.content (IsOpen bodies body gate) × (batch_of body ≡ Some batch) × IsOneOf batch more × (rows_of bodies ≡ base)

-- the rows once all is on the disk, with what is known then
abbrev pub IsSettled : Rows → List Changes → Known → Seen → Type 0
IsSettled base more known s =
    (bodies : List (List ℕ)) × (gate : ℕ) × Now s.moments s.content (λ m. IsKnown known bodies m × IsWhole m) × Fits bodies s.content gate × IsClosedBy more s.content gate × (rows_of bodies ≡ base)

-- a crash meanwhile leaves the rows as they stood, and they stand once the disk answered
abbrev pub SettlesSafely : Rows → List Changes → Seen → Seen → Known → DiskDone → Type 0
SettlesSafely base more old new after Done = LeavesOnly old.moments new.moments (IsLeft base more) × IsSettled base more after new
SettlesSafely base more old new after NotDone = LeavesOnly old.moments new.moments (IsLeft base more) × Stands base more after new

-- A gate byte that couldn't be made ready leaves the rows as they stood.
abbrev pub TakesStill : Known → ℕ → Seen → Seen → Known → DiskDone → Type 0
TakesStill known gate old new after Done = ⊤
TakesStill known gate old new after NotDone =
    (bodies : List (List ℕ)) (more : List Changes) → Now old.moments old.content (λ m. IsKnown known bodies m × IsWhole m) → Fits bodies old.content gate → IsClosedBy more old.content gate
    → Stands (rows_of bodies) more after new

-- a disk that failed leaves the rows as they stood
abbrev pub LoadsStill : Known → Seen → Seen → Known → Loading → Type 0
LoadsStill known old new after (Found rows) = ⊤
LoadsStill known old new after (Damaged place) = ⊤
LoadsStill known old new after Failed =
    (bodies : List (List ℕ)) (more : List Changes) (gate : ℕ) → Now old.moments old.content (λ m. IsKnown known bodies m × IsWhole m) → Fits bodies old.content gate → IsClosedBy more old.content gate
    → Stands (rows_of bodies) more after new
LoadsStill known old new after NoMemory = ⊤

-- the rows that are given are these
abbrev pub Gives : Rows → Loading → Type 0
Gives base (Found rows) = rows ≡ base
Gives base (Damaged place) = ⊥
Gives base Failed = ⊤
Gives base NoMemory = ⊤

-- What a load does to the rows of a journal: a crash at any moment of it leaves them, or them after one of the batches that may be
-- made; they stand after it; and they are what it gives, and never damage.
pub record IsSafeLoad (base : Rows) (more : List Changes) (old new : Seen) (after : Known) (outcome : Loading) : Type 0 where
  pub left : LeavesOnly old.moments new.moments (IsLeft base more)
  pub stands : Stands base more after new
  pub gives : Gives base outcome

-- the rows after a commit
abbrev pub AfterPut : Rows → List Changes → Changes → Known → Seen → Put → Type 0
AfterPut base more batch after new Kept = Stands (applied batch base) [] after new
AfterPut base more batch after new Behind = Stands base (batch ∷ more) after new
AfterPut base more batch after new AtGate = Stands base (batch ∷ more) after new

-- What a commit does to the rows of a journal: a crash at any moment of it leaves them, or them after this batch or another that may
-- be made; where it is kept they stand with it, and no other batch may be made; else they stand as before, and it may.
pub record IsSafePut (base : Rows) (more : List Changes) (batch : Changes) (old new : Seen) (after : Known) (outcome : Put) : Type 0 where
  pub left : LeavesOnly old.moments new.moments (IsLeft base (batch ∷ more))
  pub stands : AfterPut base more batch after new outcome

-- the rows that a keeper gives are these
abbrev pub GivesRows : Rows → Loaded → Type 0
GivesRows base (Given rows) = rows ≡ base
GivesRows base NotLoaded = ⊤
GivesRows base NoRoom = ⊤

-- what a keeper's load does to the rows of a journal, as a load of the journal does
pub record IsSafeLoaded (base : Rows) (more : List Changes) (old new : Seen) (after : Known) (result : Loaded) : Type 0 where
  pub left : LeavesOnly old.moments new.moments (IsLeft base more)
  pub stands : Stands base more after new
  pub gives : GivesRows base result

-- the rows after a keeper's commit
abbrev pub AfterCommit : Rows → List Changes → Changes → Known → Seen → Committed → Type 0
AfterCommit base more batch after new IsKept = Stands (applied batch base) [] after new
AfterCommit base more batch after new NotKept = Stands base (batch ∷ more) after new
AfterCommit base more batch after new NoSpace = Stands base more after new

-- What a keeper's commit does to the rows of a journal: a crash at any moment of it leaves them, or them after this batch or another
-- that may be made. Where it is kept they stand with it, and no other batch may be made; where it failed they stand as before, and it
-- may be made.
pub record IsSafeCommit (base : Rows) (more : List Changes) (batch : Changes) (old new : Seen) (after : Known) (result : Committed) : Type 0 where
  pub left : LeavesOnly old.moments new.moments (IsLeft base (batch ∷ more))
  pub stands : AfterCommit base more batch after new result
