-- What loads and commits do to what is known of a journal.
use Rattle.std.specs.Prelude.{◌≡◌, ◌≢◌, ◌⊎◌, ℕ, ◌-◌, ◌^◌, ◌<◌, ◌≤◌, List, [], Some, length, get_or, ⊤}
use Rattle.cat_disk.specs.declared.disk.DiskDone.{DiskDone}
use Rattle.cat_disk.specs.declared.disk.DiskDone.TheVariants.{Done, Failed as NotDone}
use Rattle.cat_disk.specs.Moments.{Moment}
use Rattle.cat_keeper.specs.Store.{Changes, Rows}
use Rattle.cat_journal.specs.Parsed.{batch_of}
use Rattle.cat_journal.specs.Records.{HasRecords, gate_of, rows_of, Scans}
use Rattle.cat_journal.specs.Left.{Now, HasNext, IsShut, IsHeld, IsShort, IsOneOf, LeavesOnly, IsLeft}
use Rattle.cat_journal.specs.Writes.{Seen}
use Rattle.cat_journal.specs.declared.load.Known.{Known}
use Rattle.cat_journal.specs.declared.load.Known.TheVariants.{Nothing, Closed, Doubtful}
use Rattle.cat_journal.specs.declared.load.Loading.{Loading}
use Rattle.cat_journal.specs.declared.load.Loading.TheVariants.{Found as Loaded, Damaged as Harmed, Failed, NoMemory}
use Rattle.cat_journal.specs.declared.records.Gate.TheVariants.{Shut}
use Rattle.cat_journal.specs.declared.records.Scanned.TheVariants.{Found, Damaged}

-- What holds of the last moment where this is known and the records have these bodies. A gate byte that was found at 8 may be
-- torn since, with the header, while the file has at most 9 bytes.
abbrev pub IsKnown : Known → List (List ℕ) → Moment → Type 0
IsKnown Nothing bodies m = ⊤
IsKnown (Closed gate) bodies m = IsShut bodies gate m ⊎ ((gate ≡ 8) × (bodies ≡ []) × IsShort m)
IsKnown (Doubtful gate) bodies m = IsHeld bodies gate m

-- all is on the disk
abbrev pub IsWhole : Moment → Type 0
IsWhole m = m.pending ≡ []

-- nothing is told, or what is known holds of some records
abbrev pub Holds : Known → Seen → Type 0
Holds known s = (s.moments ≡ []) ⊎ ((bodies : List (List ℕ)) × Now s.moments s.content (IsKnown known bodies))

-- the gate byte has a place in a file
abbrev pub IsPlaced : Known → Type 0
IsPlaced Nothing = ⊤
IsPlaced (Closed gate) = gate < 2 ^ 64 - 1
IsPlaced (Doubtful gate) = gate < 2 ^ 64 - 1

-- What is known holds, and the gate byte has a place in a file.
abbrev pub IsSafe : Known → Seen → Type 0
IsSafe Nothing s = ⊤
IsSafe (Closed gate) s = (gate < 2 ^ 64 - 1) × Holds (Closed gate) s
IsSafe (Doubtful gate) s = (gate < 2 ^ 64 - 1) × Holds (Doubtful gate) s

-- a gate byte was found
abbrev pub IsFound : Known → Type 0
IsFound Nothing = ⊥
IsFound (Closed gate) = ⊤
IsFound (Doubtful gate) = ⊤

-- a load that gives rows found a gate byte
abbrev pub Finds : Loading → Known → Type 0
Finds (Loaded rows) known = IsFound known
Finds (Harmed place) known = ⊤
Finds Failed known = ⊤
Finds NoMemory known = ⊤

-- the gate byte isn't in doubt
abbrev pub IsDecided : Known → Type 0
IsDecided Nothing = ⊤
IsDecided (Closed gate) = ⊤
IsDecided (Doubtful gate) = ⊥

-- A gate byte that was in doubt isn't from then on.
abbrev pub decided : Known → Known
decided Nothing = Nothing
decided (Closed gate) = Closed gate
decided (Doubtful gate) = Closed gate

-- what is known once the disk answered
abbrev pub Settles : Known → Seen → Seen → Known → DiskDone → Type 0
Settles known old new after Done =
    (after ≡ decided known) × (old.moments ≢ [] → Now new.moments new.content IsWhole)
    × ((bodies : List (List ℕ)) → Now old.moments old.content (IsKnown known bodies) → Now new.moments new.content (λ m. IsKnown after bodies m × IsWhole m))
Settles known old new after NotDone =
    (after ≡ known) × ((bodies : List (List ℕ)) → Now old.moments old.content (IsKnown known bodies) → Now new.moments new.content (IsKnown known bodies))

-- the records with these bodies end at a gate byte, or the content has at most 9 bytes
abbrev pub Fits : List (List ℕ) → List ℕ → ℕ → Type 0
Fits bodies c gate = ((length c ≤ 9) × (bodies ≡ [])) ⊎ ((9 < length c) × HasRecords c bodies gate × (gate_of c gate ≡ Shut))

-- where a gate byte was made ready
abbrev pub TakesUp : Known → ℕ → Seen → Seen → Known → DiskDone → Type 0
TakesUp known gate old new after Done =
    (bodies : List (List ℕ)) → Now old.moments old.content (λ m. IsKnown known bodies m × IsWhole m) → Fits bodies old.content gate
    → (place : ℕ) × (after ≡ Closed place) × Now new.moments new.content (IsShut bodies place)
TakesUp known gate old new after NotDone =
    (bodies : List (List ℕ)) → Now old.moments old.content (λ m. IsKnown known bodies m × IsWhole m) → Fits bodies old.content gate
    → Now new.moments new.content (IsKnown after bodies)

-- the gate byte is 0, or the record behind it is that of one of these batches
abbrev pub IsClosedBy : List Changes → List ℕ → ℕ → Type 0
IsClosedBy more c gate =
    (length c ≤ 9) ⊎ ((get_or c gate 0 ≡ 0) ⊎ ((body : List ℕ) × (batch : Changes) × HasNext c gate body × (batch_of body ≡ Some batch) × IsOneOf batch more))

-- A crash meanwhile leaves the rows of these records, or those after one of the batches.
abbrev pub TakesUpSafely : ℕ → Seen → Seen → Type 0
TakesUpSafely gate old new =
    (bodies : List (List ℕ)) (more : List Changes) → Now old.moments old.content IsWhole → Fits bodies old.content gate → IsClosedBy more old.content gate
    → LeavesOnly old.moments new.moments (IsLeft (rows_of bodies) more)

-- content that has the records with these bodies, or at most 9 bytes
abbrev pub FitsSome : List (List ℕ) → List ℕ → Type 0
FitsSome bodies c = ((length c ≤ 9) × (bodies ≡ [])) ⊎ ((9 < length c) × (gate : ℕ) × HasRecords c bodies gate × (gate_of c gate ≡ Shut))

-- What a load gives once all is on the disk: the rows of the records, the disk's refusal, or no memory; and damage only where there
-- are no records and no short file, which stays as it is.
abbrev pub Takes : Known → Seen → Seen → Known → Loading → Type 0
Takes known old new after (Loaded rows) =
    (bodies : List (List ℕ)) → Now old.moments old.content (λ m. IsKnown known bodies m × IsWhole m) → FitsSome bodies old.content
    → (rows ≡ rows_of bodies) × ((place : ℕ) × (after ≡ Closed place) × Now new.moments new.content (IsShut bodies place))
Takes known old new after (Harmed place) =
    (after ≡ known) × (new ≡ old) × ((bodies : List (List ℕ)) → Now old.moments old.content (λ m. IsKnown known bodies m × IsWhole m) → FitsSome bodies old.content → ⊥)
Takes known old new after Failed =
    (bodies : List (List ℕ)) → Now old.moments old.content (λ m. IsKnown known bodies m × IsWhole m) → FitsSome bodies old.content
    → Now new.moments new.content (IsKnown after bodies)
Takes known old new after NoMemory = (after ≡ known) × (new ≡ old)

-- A crash meanwhile leaves the rows of these records, or those after one of the batches.
abbrev pub TakesSafely : Seen → Seen → Type 0
TakesSafely old new =
    (bodies : List (List ℕ)) (more : List Changes) (gate : ℕ) → Now old.moments old.content IsWhole → Fits bodies old.content gate → IsClosedBy more old.content gate
    → LeavesOnly old.moments new.moments (IsLeft (rows_of bodies) more)

-- What the bytes that were read give: the rows that a load gives, or the place where they are damaged. A disk that failed once they
-- were read failed at their gate byte.
abbrev pub Reads : Known → List ℕ → Known → Loading → Type 0
Reads known c after (Loaded rows) = (gate : ℕ) × Scans c (Found rows gate)
Reads known c after (Harmed place) = Scans c (Damaged place)
Reads known c after Failed = (after ≡ known) ⊎ ((rows : Rows) × (gate : ℕ) × Scans c (Found rows gate))
Reads known c after NoMemory = ⊤

-- Where a gate byte was found, a load gives the rows before it, and what is known holds after it. Such a journal isn't damaged.
abbrev pub LoadsAgain : Known → Seen → Seen → Known → Loading → Type 0
LoadsAgain known old new after (Loaded rows) =
    IsFound known → (bodies : List (List ℕ)) → Now old.moments old.content (IsKnown known bodies)
    → (rows ≡ rows_of bodies) × ((place : ℕ) × (after ≡ Closed place) × Now new.moments new.content (IsShut bodies place))
LoadsAgain known old new after (Harmed place) = IsFound known → (bodies : List (List ℕ)) → Now old.moments old.content (IsKnown known bodies) → ⊥
LoadsAgain known old new after Failed =
    IsFound known → (bodies : List (List ℕ)) → Now old.moments old.content (IsKnown known bodies) → Now new.moments new.content (IsKnown after bodies) × IsFound after
LoadsAgain known old new after NoMemory =
    IsFound known → (bodies : List (List ℕ)) → Now old.moments old.content (IsKnown known bodies) → Now new.moments new.content (IsKnown after bodies) × IsFound after

-- A load that gives rows found the gate byte at which their records end, and damage leaves nothing known that wasn't.
abbrev pub LoadsFirst : Known → Seen → Seen → Known → Loading → Type 0
LoadsFirst known old new after (Loaded rows) =
    old.moments ≢ [] → (bodies : List (List ℕ)) × (rows ≡ rows_of bodies) × (place : ℕ) × (after ≡ Closed place) × Now new.moments new.content (IsShut bodies place)
LoadsFirst known old new after (Harmed place) = after ≡ decided known
LoadsFirst known old new after Failed = ⊤
LoadsFirst known old new after NoMemory = after ≡ decided known
