-- The records of a journal, as bytes.
use Rattle.std.specs.Prelude.{◌≡◌, ◌≢◌, ◌⊎◌, ℕ, zero, suc, ◌+◌, ◌<◌, ◌≤◌, List, [], ◌∷◌, ◌++◌, Bool, true, false, Option, None, Some, IsSome, length, take, drop, get_or, if◌then◌else◌, ◌==◌, nat_lt, ⊤}
use Rattle.std.specs.Int.{from_be_bytes, to_be_bytes, w64}
use Rattle.cat_keeper.specs.Store.{Changes, Rows, applied}
use Rattle.cat_journal.specs.Parsed.{batch_of}
use Rattle.cat_journal.specs.declared.records.Gate.{Gate}
use Rattle.cat_journal.specs.declared.records.Gate.TheVariants.{Shut, Open, Broken}
use Rattle.cat_journal.specs.declared.records.Scanned.{Scanned}
use Rattle.cat_journal.specs.declared.records.Scanned.TheVariants.{Found, Damaged}

-- CATJRNL1
abbrev pub header : List ℕ
header = 67 ∷ 65 ∷ 84 ∷ 74 ∷ 82 ∷ 78 ∷ 76 ∷ 49 ∷ []

-- the count that stands behind a gate byte
abbrev pub count_at : List ℕ → ℕ → ℕ
count_at content at = from_be_bytes w64 (take 8 (drop (at + 1) content))

-- what stands at a gate byte
abbrev pub gate_of : List ℕ → ℕ → Gate
gate_of content at = if get_or content at 0 == 1 then (if nat_lt (at + 9 + count_at content at) (length content) then Open (count_at content at) else Broken) else Shut

-- the body of the record that stands there
abbrev pub body_at : List ℕ → ℕ → List ℕ
body_at content at = take (count_at content at) (drop (at + 9) content)

-- From one gate byte to another stand whole records with these bodies.
abbrev pub Passes : List (List ℕ) → List ℕ → ℕ → ℕ → Type 0
Passes [] content at end = at ≡ end
Passes (body ∷ bodies) content at end = (gate_of content at ≡ Open (length body)) × (body_at content at ≡ body) × Passes bodies content (at + 9 + length body) end

-- each body is the text of a batch
abbrev pub AreBatches : List (List ℕ) → Type 0
AreBatches [] = ⊤
AreBatches (body ∷ bodies) = IsSome (batch_of body) × AreBatches bodies

-- the rows after a batch, if there is one
abbrev pub after_batch : Option Changes → Rows → Rows
after_batch None rows = rows
after_batch (Some batch) rows = applied batch rows

-- the rows after the batches of these bodies
abbrev pub rows_after : List (List ℕ) → Rows → Rows
rows_after [] rows = rows
rows_after (body ∷ bodies) rows = rows_after bodies (after_batch (batch_of body) rows)

-- the rows of a journal whose records have these bodies
abbrev pub rows_of : List (List ℕ) → Rows
rows_of bodies = rows_after bodies []

-- behind a header stand whole records with these bodies, each a batch, up to a gate byte
pub record HasRecords (content : List ℕ) (bodies : List (List ℕ)) (gate : ℕ) : Type 0 where
  pub headed : take 8 content ≡ header
  pub passes : Passes bodies content 8 gate
  pub batches : AreBatches bodies

-- The gate byte is 1, and no whole record of a batch and gate byte stand behind it.
abbrev pub IsRefusedAt : List ℕ → ℕ → Type 0
IsRefusedAt content at = (gate_of content at ≡ Broken) ⊎ ((n : ℕ) × (gate_of content at ≡ Open n) × (batch_of (body_at content at) ≡ None))

-- The rows of a journal, and the gate byte at which its records end. Content of at most 9 bytes has none, and its gate byte is
-- to stand at 8. Other content is damaged where its header is another, or at a gate byte 1 with no record behind it.
abbrev pub Scans : List ℕ → Scanned → Type 0
Scans content (Found rows gate) =
    ((length content ≤ 9) × (rows ≡ []) × (gate ≡ 8))
    ⊎ ((9 < length content) × (bodies : List (List ℕ)) × HasRecords content bodies gate × (gate_of content gate ≡ Shut) × (rows ≡ rows_of bodies))
Scans content (Damaged at) =
    (9 < length content) × (((take 8 content ≢ header) × (at ≡ 0)) ⊎ ((bodies : List (List ℕ)) × HasRecords content bodies at × IsRefusedAt content at))

-- the changes of a body were made, or it is no batch
abbrev pub AppliesBody : Option Changes → Rows → Rows → Bool → Type 0
AppliesBody batch old new true = IsSome batch × (new ≡ after_batch batch old)
AppliesBody batch old new false = batch ≡ None

-- what stands at a gate byte, and what becomes of the rows there
abbrev pub Steps : List ℕ → ℕ → Rows → Rows → Gate → Type 0
Steps content at old new Shut = (gate_of content at ≡ Shut) × (new ≡ old)
Steps content at old new Broken = IsRefusedAt content at
Steps content at old new (Open n) = (gate_of content at ≡ Open n) × IsSome (batch_of (body_at content at)) × (new ≡ after_batch (batch_of (body_at content at)) old)

-- what is written behind a gate byte for a record
abbrev pub closed_record : List ℕ → List ℕ
closed_record body = to_be_bytes w64 (length body) ++ body ++ 0 ∷ []

-- the bodies of the records from one gate byte to another, of which no more than a number are looked at
abbrev pub bodies_to : ℕ → List ℕ → ℕ → ℕ → List (List ℕ)
bodies_to zero content at end = []
bodies_to (suc most) content at end = if at == end then [] else body_at content at ∷ bodies_to most content (at + 9 + count_at content at) end
