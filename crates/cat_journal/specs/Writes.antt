-- What the writes of a journal do to its disk.
use Rattle.std.specs.Prelude.{◌≡◌, ℕ, ◌+◌, List, [], ◌∷◌, ◌++◌, IsSome, Some, length}
use Rattle.cat_disk.specs.declared.disk.DiskDone.{DiskDone}
use Rattle.cat_disk.specs.declared.disk.DiskDone.TheVariants.{Done, Failed}
use Rattle.cat_disk.specs.Moments.{Moment}
use Rattle.cat_keeper.specs.Store.{Changes}
use Rattle.cat_journal.specs.Parsed.{batch_of}
use Rattle.cat_journal.specs.Records.{closed_record, rows_of}
use Rattle.cat_journal.specs.Left.{Now, IsShut, IsHeld, IsOpen, IsShort, IsBare, IsOneOf, LeavesOnly, IsLeft}
use Rattle.cat_journal.specs.declared.gate.Put.{Put}
use Rattle.cat_journal.specs.declared.gate.Put.TheVariants.{Kept, Behind, AtGate}

-- a disk, by its moments and its content
pub record Seen : Type 0 where
  pub moments : List Moment
  pub content : List ℕ

-- A gate byte that was pending is 0 on the disk, or still pending.
abbrev pub Shuts : ℕ → Seen → Seen → DiskDone → Type 0
Shuts gate old new Done = (bodies : List (List ℕ)) → Now old.moments old.content (IsHeld bodies gate) → Now new.moments new.content (λ m. IsShut bodies gate m × (m.pending ≡ []))
Shuts gate old new Failed = (bodies : List (List ℕ)) → Now old.moments old.content (IsHeld bodies gate) → Now new.moments new.content (IsHeld bodies gate)

-- Where it is still pending, the record behind it stands.
abbrev pub KeepsNext : ℕ → Seen → Seen → DiskDone → Type 0
KeepsNext gate old new Done = Unit {0}
KeepsNext gate old new Failed = (bodies : List (List ℕ)) (body : List ℕ) → Now old.moments old.content (IsOpen bodies body gate) → Now new.moments new.content (IsOpen bodies body gate)

-- A crash meanwhile leaves the rows before the gate byte, or those after the record behind it.
abbrev pub ShutsSafely : ℕ → Seen → Seen → Type 0
ShutsSafely gate old new =
    (bodies : List (List ℕ)) (body : List ℕ) (batch : Changes) (more : List Changes) → batch_of body ≡ Some batch → IsOneOf batch more
    → Now old.moments old.content (IsOpen bodies body gate) → LeavesOnly old.moments new.moments (IsLeft (rows_of bodies) more)

-- A record stands before the gate byte, or behind it with the gate byte 0, or with the gate byte pending.
abbrev pub Puts : ℕ → List ℕ → Seen → Seen → Put → Type 0
Puts gate text old new Kept =
    (bodies : List (List ℕ)) (body : List ℕ) → text ≡ closed_record body → IsSome (batch_of body)
    → Now old.moments old.content (IsShut bodies gate) → Now new.moments new.content (IsShut (bodies ++ body ∷ []) (gate + length text))
Puts gate text old new Behind =
    (bodies : List (List ℕ)) → Now old.moments old.content (IsShut bodies gate) → Now new.moments new.content (IsShut bodies gate)
Puts gate text old new AtGate =
    (bodies : List (List ℕ)) (body : List ℕ) → text ≡ closed_record body → IsSome (batch_of body)
    → Now old.moments old.content (IsShut bodies gate) → Now new.moments new.content (IsOpen bodies body gate)

-- A crash meanwhile leaves the rows from before, or those after the record's batch.
abbrev pub PutsSafely : ℕ → List ℕ → Seen → Seen → Type 0
PutsSafely gate text old new =
    (bodies : List (List ℕ)) (body : List ℕ) (batch : Changes) (more : List Changes) → text ≡ closed_record body → batch_of body ≡ Some batch → IsOneOf batch more
    → Now old.moments old.content (IsShut bodies gate) → LeavesOnly old.moments new.moments (IsLeft (rows_of bodies) more)

-- A file of at most 9 bytes begins a journal with no record, or has at most 9 bytes still.
abbrev pub Begins : Seen → Seen → DiskDone → Type 0
Begins old new Done = Now old.moments old.content IsBare → Now new.moments new.content (IsShut [] 8)
Begins old new Failed = Now old.moments old.content IsBare → Now new.moments new.content IsShort

-- A crash meanwhile leaves no rows.
abbrev pub BeginsSafely : Seen → Seen → Type 0
BeginsSafely old new = (more : List Changes) → Now old.moments old.content IsBare → LeavesOnly old.moments new.moments (IsLeft [] more)
