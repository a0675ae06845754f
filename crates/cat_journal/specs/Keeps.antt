-- What a keeper over a journal tells, and what its commits do.
use Rattle.std.specs.Prelude.{◌≡◌, ◌⊎◌, ℕ, List, [], ◌∷◌, ◌++◌, ⊤, Bool, true, Option, None, Some, IsSome, codes, decimal}
use Rattle.cat_disk.specs.Moments.{Moment}
use Rattle.cat_keeper.specs.Store.{Rows}
use Rattle.cat_keeper.specs.declared.keeper.Loaded.{Loaded}
use Rattle.cat_keeper.specs.declared.keeper.Loaded.TheVariants.{Rows as Given, Failed, NoMemory}
use Rattle.cat_keeper.specs.declared.table.Table.TheVariants.{Counters}
use Rattle.cat_journal.specs.Parsed.{batch_of}
use Rattle.cat_journal.specs.Records.{rows_of, bodies_to, closed_record}
use Rattle.cat_journal.specs.Left.{Now, IsShut, IsHeld}
use Rattle.cat_journal.specs.Writes.{Seen}
use Rattle.cat_journal.specs.Loads.{IsSafe}
use Rattle.cat_journal.specs.declared.gate.Put.{Put}
use Rattle.cat_journal.specs.declared.gate.Put.TheVariants.{Kept, Behind, AtGate}
use Rattle.cat_journal.specs.declared.load.Known.{Known}
use Rattle.cat_journal.specs.declared.load.Known.TheVariants.{Nothing, Closed, Doubtful}

-- a keeper over a journal: its disk, what it knows of the gate byte, whether its last load was good, and its count of faults
pub record JournalState : Type 0 where
  pub moments : List Moment
  pub content : List ℕ
  pub known : Known
  pub ready : Bool
  pub faults : ℕ

-- The rows of the records before the gate byte that was found, where the disk tells its content.
abbrev pub told : Known → List Moment → List ℕ → Option Rows
told Nothing moments content = None
told (Closed gate) [] content = None
told (Closed gate) (m ∷ past) content = Some (rows_of (bodies_to gate content 8 gate))
told (Doubtful gate) [] content = None
told (Doubtful gate) (m ∷ past) content = Some (rows_of (bodies_to gate content 8 gate))

-- a record can be put behind the gate byte, once it isn't in doubt
abbrev pub IsUsable : Known → List (List ℕ) → Moment → Type 0
IsUsable Nothing bodies m = ⊥
IsUsable (Closed gate) bodies m = IsShut bodies gate m
IsUsable (Doubtful gate) bodies m = IsHeld bodies gate m

-- a gate byte was found, and a record can be put behind it
abbrev pub IsReady : Known → Seen → Type 0
IsReady Nothing s = ⊥
IsReady (Closed gate) s = (s.moments ≡ []) ⊎ ((bodies : List (List ℕ)) × Now s.moments s.content (IsShut bodies gate))
IsReady (Doubtful gate) s = (s.moments ≡ []) ⊎ ((bodies : List (List ℕ)) × Now s.moments s.content (IsHeld bodies gate))

-- What is known holds, and after a good load a record can be put.
abbrev pub IsKept : Known → Bool → Seen → Type 0
IsKept known ready s = IsSafe known s × (ready ≡ true → IsReady known s)

-- The records stand as before, with the new one where it was kept.
abbrev pub PutsKnown : Known → List ℕ → Seen → Seen → Known → Put → Type 0
PutsKnown known text old new after Kept =
    (bodies : List (List ℕ)) (body : List ℕ) → text ≡ closed_record body → IsSome (batch_of body)
    → Now old.moments old.content (IsUsable known bodies) → Now new.moments new.content (IsUsable after (bodies ++ body ∷ []))
PutsKnown known text old new after Behind =
    (bodies : List (List ℕ)) (body : List ℕ) → text ≡ closed_record body → IsSome (batch_of body)
    → Now old.moments old.content (IsUsable known bodies) → Now new.moments new.content (IsUsable after bodies)
PutsKnown known text old new after AtGate =
    (bodies : List (List ℕ)) (body : List ℕ) → text ≡ closed_record body → IsSome (batch_of body)
    → Now old.moments old.content (IsUsable known bodies) → Now new.moments new.content (IsUsable after bodies)

-- The two rows by which damage is handed up: the place of the damage is in the key of the second.
abbrev pub damage_rows : ℕ → Rows
damage_rows place = ((Counters, codes "arrival"), codes "1") ∷ ((Counters, codes "journal " ++ decimal place), []) ∷ []

-- damage at a place is handed up, or there is no memory for it
abbrev pub IsDamage : ℕ → Loaded → Type 0
IsDamage place (Given rows) = rows ≡ damage_rows place
IsDamage place Failed = ⊥
IsDamage place NoMemory = ⊤
