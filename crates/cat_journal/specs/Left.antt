-- What a crash leaves of a journal.
use Rattle.std.specs.Prelude.{◌≡◌, ◌⊎◌, ℕ, ◌+◌, ◌<◌, ◌≤◌, List, [], ◌∷◌, ◌++◌, IsSome, length, take, get_or}
use Rattle.std.specs.List.{AllByRecursion}
use Rattle.cat_disk.specs.Moments.{Moment, Covers, IsImage, reach}
use Rattle.cat_keeper.specs.Store.{Changes, Rows, applied}
use Rattle.cat_journal.specs.Parsed.{batch_of}
use Rattle.cat_journal.specs.Records.{header, count_at, body_at, Passes, AreBatches, Scans}
use Rattle.cat_journal.specs.declared.records.Scanned.TheVariants.{Found}

-- behind a gate byte stand a whole record with this body, the text of a batch, and a gate byte 0
pub record HasNext (c : List ℕ) (gate : ℕ) (body : List ℕ) : Type 0 where
  pub count : length body ≡ count_at c gate
  pub inside : gate + 9 + length body < length c
  pub stands : body_at c gate ≡ body
  pub closed : get_or c (gate + 9 + length body) 0 ≡ 0
  pub batch : IsSome (batch_of body)

-- The gate byte at which the records end is 0, or a whole record of a batch and a gate byte 0 stand behind it.
abbrev pub IsClosed : List ℕ → ℕ → Type 0
IsClosed c gate = (get_or c gate 0 ≡ 0) ⊎ ((body : List ℕ) × HasNext c gate body)

-- content that has rows, and no trace of a batch but one that is there whole
abbrev pub IsJournal : List ℕ → Type 0
IsJournal c = (length c ≤ 9) ⊎ ((rows : Rows) × (gate : ℕ) × Scans c (Found rows gate) × IsClosed c gate)

-- one of these batches
abbrev pub IsOneOf : Changes → List Changes → Type 0
IsOneOf batch [] = ⊥
IsOneOf batch (b ∷ bs) = (batch ≡ b) ⊎ IsOneOf batch bs

-- these rows, or those after one of these batches
abbrev pub AreRows : Rows → List Changes → Rows → Type 0
AreRows base more rows = (rows ≡ base) ⊎ ((batch : Changes) × IsOneOf batch more × (rows ≡ applied batch base))

-- a journal that has these rows, or those after one of these batches
abbrev pub IsLeft : Rows → List Changes → List ℕ → Type 0
IsLeft base more c = IsJournal c × ((rows : Rows) × (gate : ℕ) × Scans c (Found rows gate) × AreRows base more rows)

-- a crash at this moment leaves only what has P
abbrev pub Leaves : (List ℕ → Type 0) → Moment → Type 0
Leaves P m = (c : List ℕ) → IsImage m c → P c

-- a crash at each moment since the old ones leaves only what has P
abbrev pub LeavesOnly : List Moment → List Moment → (List ℕ → Type 0) → Type 0
LeavesOnly old new P = (added : List Moment) × (new ≡ added ++ old) × AllByRecursion (Leaves P) added

-- ---- what is known of the last moment

-- The moment has P, and the content is one that a crash may leave then. Nothing holds where no moment is told.
abbrev pub Now : List Moment → List ℕ → (Moment → Type 0) → Type 0
Now [] content P = ⊥
Now (m ∷ past) content P = IsImage m content × P m

-- The records with these bodies end at a gate byte 0 that is on the disk, and what is pending is behind it.
pub record IsShut (bodies : List (List ℕ)) (gate : ℕ) (m : Moment) : Type 0 where
  pub headed : take 8 m.durable ≡ header
  pub passes : Passes bodies m.durable 8 gate
  pub batches : AreBatches bodies
  pub inside : gate < length m.durable
  pub closed : get_or m.durable gate 0 ≡ 0
  pub free : (i : ℕ) → i ≤ gate → Covers m.pending i → ⊥

-- The records with these bodies end at a gate byte, and nothing but that is pending.
pub record IsHeld (bodies : List (List ℕ)) (gate : ℕ) (m : Moment) : Type 0 where
  pub headed : take 8 m.durable ≡ header
  pub passes : Passes bodies m.durable 8 gate
  pub batches : AreBatches bodies
  pub inside : gate < length m.durable
  pub alone : (i : ℕ) → Covers m.pending i → i ≡ gate

-- the same, and behind that gate byte stand a whole record and a gate byte 0
abbrev pub IsOpen : List (List ℕ) → List ℕ → ℕ → Moment → Type 0
IsOpen bodies body gate m = IsHeld bodies gate m × HasNext m.durable gate body

-- no crash leaves more than 9 bytes
abbrev pub IsShort : Moment → Type 0
IsShort m = reach (length m.durable) m.pending ≤ 9

-- all is on the disk, and that is at most 9 bytes
abbrev pub IsBare : Moment → Type 0
IsBare m = (m.pending ≡ []) × (length m.durable ≤ 9)
