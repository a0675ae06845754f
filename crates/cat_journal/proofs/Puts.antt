-- The writes of a journal, call by call.
use Rattle.std.proofs.Common.{◌≡◌, inl, inr, ℕ, ◌+◌, ◌^◌, ◌<◌, ◌≤◌, List, [], ◌∷◌, ◌++◌, Some, length, take, get_or, refl, sym, ◌∙◌, ap, subst, arith}
use Rattle.std.specs.Prelude.{IsSome, is_some}
use Rattle.std.proofs.lemmas.List.{drop_all}
use Rattle.cat_disk.specs.declared.disk.DiskDone.{DiskDone}
use Rattle.cat_disk.specs.declared.disk.DiskDone.TheVariants.{Done, Failed}
use Rattle.cat_disk.specs.Moments.{Moment, Covers, Extent, IsImage, reach, overwritten, synced, AddsWrite, AddsSync}
use Rattle.cat_disk.specs.Disk.{StartsWithin, Writes, Syncs}
use Rattle.cat_disk.proofs.Images.{within, longer}
use Rattle.cat_keeper.specs.Store.{Changes}
use Rattle.cat_journal.specs.Parsed.{batch_of}
use Rattle.cat_journal.specs.Records.{rows_of, closed_record}
use Rattle.cat_journal.specs.Left.{Now, HasNext, IsShut, IsHeld, IsOpen, IsShort, IsBare, IsOneOf, Leaves, LeavesOnly, IsLeft}
use Rattle.cat_journal.specs.Writes.{Seen, Shuts, KeepsNext, ShutsSafely, Puts, PutsSafely, Begins, BeginsSafely}
use Rattle.cat_journal.specs.declared.gate.Put.TheVariants.{Behind}
use Rattle.cat_journal.proofs.Journals.{settled, short_left, shut_left, open_left, more_rows, shut_settled, held_settled, open_settled, text_size, record_stands}
use Rattle.cat_journal.proofs.Steps.{pend, write_now, write_content, torn_now, sync_now, unsynced_now, write_leaves, sync_leaves, no_moment, starts_silent}

abbrev seen : List Moment → List ℕ → Seen
seen ms c = record { moments = ms; content = c }

pub start_of : (ms : List Moment) (c : List ℕ) (at : ℕ) (P : Moment → Type 0) → StartsWithin ms c at → Now ms c P → at ≤ length c
start_of [] c at P start now = absurd now
start_of (m ∷ past) c at P start now = start

-- the byte that was written stands there
byte_stands : (ms ms1 : List Moment) (c c1 : List ℕ) (at byte : ℕ) (P : Moment → Type 0) → AddsWrite at 1 ms ms1 Done → Writes ms1 c c1 at (byte ∷ []) Done → StartsWithin ms c at → Now ms c P → get_or c1 at 0 ≡ byte
byte_stands ms ms1 c c1 at byte P adds writes start now =
    ap (λ (l : List ℕ). get_or l at 0) (write_content ms ms1 c c1 at (byte ∷ []) P adds writes now)
    ∙ ap (λ (k : ℕ). get_or (overwritten at (byte ∷ []) c) k 0) (omega arith)
    ∙ within at (byte ∷ []) c 0 (start_of ms c at P start now) (omega arith)

-- ---- 0 over a gate byte

pend_held : (bodies : List (List ℕ)) (g : ℕ) (m : Moment) → IsHeld bodies g m → IsHeld bodies g (pend g 1 m)
pend_held bodies g m h = record { headed = h.headed; passes = h.passes; batches = h.batches; inside = h.inside; alone = alone }
  where
    alone : (i : ℕ) → Covers (pend g 1 m).pending i → i ≡ g
    alone i (inl covered) = omega (arith, covered.0, covered.1)
    alone i (inr covered) = h.alone i covered

pend_open : (bodies : List (List ℕ)) (body : List ℕ) (g : ℕ) (m : Moment) → IsOpen bodies body g m → IsOpen bodies body g (pend g 1 m)
pend_open bodies body g m o = (pend_held bodies g m o.0, o.1)

pub shut_torn : (g : ℕ) (ms ms1 : List Moment) (c c1 : List ℕ) → AddsWrite g 1 ms ms1 Failed → Writes ms1 c c1 g (0 ∷ []) Failed → Shuts g (seen ms c) (seen ms1 c1) Failed
shut_torn g ms ms1 c c1 adds writes bodies now = torn_now ms ms1 c c1 g 1 (0 ∷ []) (IsHeld bodies g) (IsHeld bodies g) adds writes (pend_held bodies g) (λ m h. h) now

pub open_torn : (g : ℕ) (ms ms1 : List Moment) (c c1 : List ℕ) → AddsWrite g 1 ms ms1 Failed → Writes ms1 c c1 g (0 ∷ []) Failed → KeepsNext g (seen ms c) (seen ms1 c1) Failed
open_torn g ms ms1 c c1 adds writes bodies body now = torn_now ms ms1 c c1 g 1 (0 ∷ []) (IsOpen bodies body g) (IsOpen bodies body g) adds writes (pend_open bodies body g) (λ m o. o) now

pub safe_torn : (g : ℕ) (ms ms1 : List Moment) (c c1 : List ℕ) → AddsWrite g 1 ms ms1 Failed → ShutsSafely g (seen ms c) (seen ms1 c1)
safe_torn g ms ms1 c c1 adds bodies body batch more is among now =
    write_leaves ms ms ms1 c g 1 Failed (IsOpen bodies body g) (IsLeft (rows_of bodies) more) adds (λ m o. open_left bodies body g (pend g 1 m) batch more is among (pend_open bodies body g m o)) now (no_moment ms ms (IsLeft (rows_of bodies) more) refl)

module _ (g : ℕ) (ms ms1 ms2 : List Moment) (c c1 c2 : List ℕ) (start : StartsWithin ms c g) (a1 : AddsWrite g 1 ms ms1 Done) (w1 : Writes ms1 c c1 g (0 ∷ []) Done) where
  held1 : (bodies : List (List ℕ)) → Now ms c (IsHeld bodies g) → Now ms1 c1 (IsHeld bodies g)
  held1 bodies now = write_now ms ms1 c c1 g (0 ∷ []) (IsHeld bodies g) (IsHeld bodies g) a1 w1 start (λ m is h. pend_held bodies g m h) now

  open1 : (bodies : List (List ℕ)) (body : List ℕ) → Now ms c (IsOpen bodies body g) → Now ms1 c1 (IsOpen bodies body g)
  open1 bodies body now = write_now ms ms1 c c1 g (0 ∷ []) (IsOpen bodies body g) (IsOpen bodies body g) a1 w1 start (λ m is o. pend_open bodies body g m o) now

  pub shut_synced : (r : DiskDone) → AddsSync c1 ms1 ms2 r → Syncs ms1 c1 c2 r → Shuts g (seen ms c) (seen ms2 c2) r
  shut_synced Done a2 s2 = λ bodies now.
      let zero = byte_stands ms ms1 c c1 g 0 (IsHeld bodies g) a1 w1 start now in
      sync_now ms1 ms2 c1 c2 (IsHeld bodies g) (λ m. IsShut bodies g m × (m.pending ≡ [])) a2 s2 (λ m is h all. (held_settled bodies g m c1 h is zero, refl)) (held1 bodies now)
  shut_synced Failed a2 s2 = λ bodies now. unsynced_now ms1 ms2 c1 c2 (IsHeld bodies g) a2 s2 (held1 bodies now)

  pub open_synced : (r : DiskDone) → AddsSync c1 ms1 ms2 r → Syncs ms1 c1 c2 r → KeepsNext g (seen ms c) (seen ms2 c2) r
  open_synced Done a2 s2 = tt
  open_synced Failed a2 s2 = λ bodies body now. unsynced_now ms1 ms2 c1 c2 (IsOpen bodies body g) a2 s2 (open1 bodies body now)

  pub safe_synced : (r : DiskDone) → AddsSync c1 ms1 ms2 r → ShutsSafely g (seen ms c) (seen ms2 c2)
  safe_synced r a2 bodies body batch more is among now =
      let L = IsLeft (rows_of bodies) more in
      let zero = byte_stands ms ms1 c c1 g 0 (IsOpen bodies body g) a1 w1 start now in
      sync_leaves ms ms1 ms2 c1 r (IsOpen bodies body g) L a2 (λ m image o. shut_left bodies g (settled c1) (rows_of bodies) more (held_settled bodies g m c1 o.0 image zero) (inl refl)) (open1 bodies body now)
      (write_leaves ms ms ms1 c g 1 Done (IsOpen bodies body g) L a1 (λ m o. open_left bodies body g (pend g 1 m) batch more is among (pend_open bodies body g m o)) now (no_moment ms ms L refl))

-- ---- a beginning

abbrev pub beginning : List ℕ
beginning = 67 ∷ 65 ∷ 84 ∷ 74 ∷ 82 ∷ 78 ∷ 76 ∷ 49 ∷ 0 ∷ []

bare_reach : (m : Moment) → IsBare m → reach (length m.durable) m.pending ≡ length m.durable
bare_reach m b = ap (reach (length m.durable)) b.0

bare_short : (m : Moment) → IsBare m → IsShort m
bare_short m b = omega (arith, bare_reach m b, b.1)

pend_short : (m : Moment) → IsBare m → IsShort (pend 0 9 m)
pend_short m b = omega (arith, bare_reach m b, b.1)

short_leaves : (m : Moment) (more : List Changes) → IsShort m → Leaves (IsLeft [] more) m
short_leaves m more short c is = short_left c more (omega (arith, is.no_longer, short))

over_all : (c : List ℕ) → length c ≤ 9 → overwritten 0 beginning c ≡ beginning
over_all c short = ap (λ (l : List ℕ). (take 0 c ++ beginning) ++ l) (drop_all 9 c short)

short_content : (ms : List Moment) (c : List ℕ) → Now ms c IsBare → length c ≤ 9
short_content [] c now = absurd now
short_content (m ∷ past) c now = omega (arith, now.0.no_longer, bare_reach m now.1, now.1.1)

begun : (c : List ℕ) → c ≡ beginning → IsShut [] 8 (settled c)
begun c is = subst (λ (l : List ℕ). IsShut [] 8 (settled l)) (sym is)
    (record { headed = refl; passes = refl; batches = tt; inside = omega arith; closed = refl; free = λ i le covered. covered })

pub begin_torn : (ms ms1 : List Moment) (c c1 : List ℕ) → AddsWrite 0 9 ms ms1 Failed → Writes ms1 c c1 0 beginning Failed → Begins (seen ms c) (seen ms1 c1) Failed
begin_torn ms ms1 c c1 adds writes now = torn_now ms ms1 c c1 0 9 beginning IsBare IsShort adds writes pend_short bare_short now

pub begin_safe_torn : (ms ms1 : List Moment) (c c1 : List ℕ) → AddsWrite 0 9 ms ms1 Failed → BeginsSafely (seen ms c) (seen ms1 c1)
begin_safe_torn ms ms1 c c1 adds more now =
    write_leaves ms ms ms1 c 0 9 Failed IsBare (IsLeft [] more) adds (λ m b. short_leaves (pend 0 9 m) more (pend_short m b)) now (no_moment ms ms (IsLeft [] more) refl)

module _ (ms ms1 ms2 : List Moment) (c c1 c2 : List ℕ) (start : StartsWithin ms c 0) (a1 : AddsWrite 0 9 ms ms1 Done) (w1 : Writes ms1 c c1 0 beginning Done) where
  short1 : Now ms c IsBare → Now ms1 c1 IsShort
  short1 now = write_now ms ms1 c c1 0 beginning IsBare IsShort a1 w1 start (λ m is b. pend_short m b) now

  all_of_it : Now ms c IsBare → c1 ≡ beginning
  all_of_it now = write_content ms ms1 c c1 0 beginning IsBare a1 w1 now ∙ over_all c (short_content ms c now)

  pub begin_synced : (r : DiskDone) → AddsSync c1 ms1 ms2 r → Syncs ms1 c1 c2 r → Begins (seen ms c) (seen ms2 c2) r
  begin_synced Done a2 s2 = λ now. sync_now ms1 ms2 c1 c2 IsShort (IsShut [] 8) a2 s2 (λ m is s all. begun c1 (all_of_it now)) (short1 now)
  begin_synced Failed a2 s2 = λ now. unsynced_now ms1 ms2 c1 c2 IsShort a2 s2 (short1 now)

  pub begin_safe_synced : (r : DiskDone) → AddsSync c1 ms1 ms2 r → BeginsSafely (seen ms c) (seen ms2 c2)
  begin_safe_synced r a2 more now =
      sync_leaves ms ms1 ms2 c1 r IsShort (IsLeft [] more) a2 (λ m is s. short_leaves (settled c1) more (omega (arith, ap length (all_of_it now)))) (short1 now)
      (write_leaves ms ms ms1 c 0 9 Done IsBare (IsLeft [] more) a1 (λ m b. short_leaves (pend 0 9 m) more (pend_short m b)) now (no_moment ms ms (IsLeft [] more) refl))

-- ---- a record behind a gate byte

pend_shut : (bodies : List (List ℕ)) (g n : ℕ) (m : Moment) → IsShut bodies g m → IsShut bodies g (pend (g + 1) n m)
pend_shut bodies g n m s = record { headed = s.headed; passes = s.passes; batches = s.batches; inside = s.inside; closed = s.closed; free = free }
  where
    free : (i : ℕ) → i ≤ g → Covers (pend (g + 1) n m).pending i → ⊥
    free i le (inl covered) = omega (arith, le, covered.0)
    free i le (inr covered) = s.free i le covered

-- the record is on the disk behind a gate byte 0
abbrev IsBehind : List (List ℕ) → List ℕ → ℕ → Moment → Type 0
IsBehind bodies body g m = IsShut bodies g m × HasNext m.durable g body × (m.pending ≡ [])

behind_open : (bodies : List (List ℕ)) (body : List ℕ) (g : ℕ) (m : Moment) → IsBehind bodies body g m → IsOpen bodies body g m
behind_open bodies body g m b =
    (record { headed = b.0.headed; passes = b.0.passes; batches = b.0.batches; inside = b.0.inside; alone = λ i covered. absurd (subst (λ (es : List Extent). Covers es i) b.2 covered) }, b.1)

opening : (bodies : List (List ℕ)) (body : List ℕ) (g : ℕ) (m : Moment) → IsBehind bodies body g m → IsOpen bodies body g (pend g 1 m)
opening bodies body g m b = pend_open bodies body g m (behind_open bodies body g m b)

pub behind_torn : (g : ℕ) (text : List ℕ) (ms ms1 : List Moment) (c c1 : List ℕ) → AddsWrite (g + 1) (length text) ms ms1 Failed → Writes ms1 c c1 (g + 1) text Failed → Puts g text (seen ms c) (seen ms1 c1) Behind
behind_torn g text ms ms1 c c1 adds writes bodies now = torn_now ms ms1 c c1 (g + 1) (length text) text (IsShut bodies g) (IsShut bodies g) adds writes (pend_shut bodies g (length text)) (λ m s. s) now

pub put_safe_torn : (g : ℕ) (text : List ℕ) (ms ms1 : List Moment) (c c1 : List ℕ) → AddsWrite (g + 1) (length text) ms ms1 Failed → PutsSafely g text (seen ms c) (seen ms1 c1)
put_safe_torn g text ms ms1 c c1 adds bodies body batch more spelled is among now =
    let L = IsLeft (rows_of bodies) more in
    write_leaves ms ms ms1 c (g + 1) (length text) Failed (IsShut bodies g) L adds (λ m s. shut_left bodies g (pend (g + 1) (length text) m) (rows_of bodies) more (pend_shut bodies g (length text) m s) (inl refl)) now (no_moment ms ms L refl)

module _ (g : ℕ) (text : List ℕ) (ms ms1 ms2 : List Moment) (c c1 c2 : List ℕ) (small : length text < 2 ^ 64) (start : StartsWithin ms c (g + 1)) (a1 : AddsWrite (g + 1) (length text) ms ms1 Done) (w1 : Writes ms1 c c1 (g + 1) text Done) where
  shut1 : (bodies : List (List ℕ)) → Now ms c (IsShut bodies g) → Now ms1 c1 (IsShut bodies g)
  shut1 bodies now = write_now ms ms1 c c1 (g + 1) text (IsShut bodies g) (IsShut bodies g) a1 w1 start (λ m is s. pend_shut bodies g (length text) m s) now

  pub behind_unsynced : AddsSync c1 ms1 ms2 Failed → Syncs ms1 c1 c2 Failed → Puts g text (seen ms c) (seen ms2 c2) Behind
  behind_unsynced a2 s2 bodies now = unsynced_now ms1 ms2 c1 c2 (IsShut bodies g) a2 s2 (shut1 bodies now)

  left1 : (bodies : List (List ℕ)) (more : List Changes) → Now ms c (IsShut bodies g) → LeavesOnly ms ms1 (IsLeft (rows_of bodies) more)
  left1 bodies more now =
      let L = IsLeft (rows_of bodies) more in
      write_leaves ms ms ms1 c (g + 1) (length text) Done (IsShut bodies g) L a1 (λ m s. shut_left bodies g (pend (g + 1) (length text) m) (rows_of bodies) more (pend_shut bodies g (length text) m s) (inl refl)) now (no_moment ms ms L refl)

  left2 : (bodies : List (List ℕ)) (more : List Changes) (r : DiskDone) → AddsSync c1 ms1 ms2 r → Now ms c (IsShut bodies g) → LeavesOnly ms ms2 (IsLeft (rows_of bodies) more)
  left2 bodies more r a2 now =
      let L = IsLeft (rows_of bodies) more in
      sync_leaves ms ms1 ms2 c1 r (IsShut bodies g) L a2 (λ m image s. shut_left bodies g (settled c1) (rows_of bodies) more (shut_settled bodies g m c1 s image) (inl refl)) (shut1 bodies now) (left1 bodies more now)

  pub put_safe_unsynced : AddsSync c1 ms1 ms2 Failed → PutsSafely g text (seen ms c) (seen ms2 c2)
  put_safe_unsynced a2 bodies body batch more spelled is among now = left2 bodies more Failed a2 now

  -- where the gate byte is to be written
  pub second_start : AddsSync c1 ms1 ms2 Done → Syncs ms1 c1 c2 Done → StartsWithin ms2 c2 g
  second_start a2 s2 = second ms start a1
    where
      second : (ms0 : List Moment) → StartsWithin ms0 c (g + 1) → AddsWrite (g + 1) (length text) ms0 ms1 Done → StartsWithin ms2 c2 g
      second [] begins adds = starts_silent ms2 c2 g (a2 ∙ ap (synced c1) adds)
      second (m ∷ past) begins adds =
          let over : c1 ≡ overwritten (g + 1) text c = subst (λ (l : List Moment). Writes l c c1 (g + 1) text Done) adds w1 in
          let same : c2 ≡ c1 = subst (λ (l : List Moment). Syncs l c1 c2 Done) adds s2 in
          subst (λ (l : List Moment). StartsWithin l c2 g) (sym (a2 ∙ ap (synced c1) adds)) (omega (arith, ap length same, ap length over, longer (g + 1) text c begins))

  module _ (a2 : AddsSync c1 ms1 ms2 Done) (s2 : Syncs ms1 c1 c2 Done) (ms3 : List Moment) (c3 : List ℕ) (bodies : List (List ℕ)) (body : List ℕ) (spelled : text ≡ closed_record body) (batch : IsSome (batch_of body)) (now : Now ms c (IsShut bodies g)) where
    next1 : HasNext c1 g body
    next1 = subst (λ (l : List ℕ). HasNext l g body) (sym (write_content ms ms1 c c1 (g + 1) text (IsShut bodies g) a1 w1 now)) (record_stands c body text g spelled small (start_of ms c (g + 1) (IsShut bodies g) start now) batch)

    behind2 : Now ms2 c2 (IsBehind bodies body g)
    behind2 = sync_now ms1 ms2 c1 c2 (IsShut bodies g) (IsBehind bodies body g) a2 s2 (λ m is s all. (shut_settled bodies g m c1 s is, next1, refl)) (shut1 bodies now)

    start2 : StartsWithin ms2 c2 g
    start2 = second_start a2 s2

    pub gate_torn : AddsWrite g 1 ms2 ms3 Failed → Writes ms3 c2 c3 g (1 ∷ []) Failed → Now ms3 c3 (IsOpen bodies body g)
    gate_torn a3 w3 = torn_now ms2 ms3 c2 c3 g 1 (1 ∷ []) (IsBehind bodies body g) (IsOpen bodies body g) a3 w3 (opening bodies body g) (behind_open bodies body g) behind2

    left3 : (r : DiskDone) (b : Changes) (more : List Changes) → batch_of body ≡ Some b → IsOneOf b more → AddsWrite g 1 ms2 ms3 r → LeavesOnly ms ms3 (IsLeft (rows_of bodies) more)
    left3 r b more is among a3 =
        write_leaves ms ms2 ms3 c2 g 1 r (IsBehind bodies body g) (IsLeft (rows_of bodies) more) a3 (λ m p. open_left bodies body g (pend g 1 m) b more is among (opening bodies body g m p)) behind2 (left2 bodies more Done a2 now)

    pub put_safe_gate : (b : Changes) (more : List Changes) → batch_of body ≡ Some b → IsOneOf b more → AddsWrite g 1 ms2 ms3 Failed → LeavesOnly ms ms3 (IsLeft (rows_of bodies) more)
    put_safe_gate b more is among a3 = left3 Failed b more is among a3

    module _ (ms4 : List Moment) (c4 : List ℕ) (a3 : AddsWrite g 1 ms2 ms3 Done) (w3 : Writes ms3 c2 c3 g (1 ∷ []) Done) where
      open3 : Now ms3 c3 (IsOpen bodies body g)
      open3 = write_now ms2 ms3 c2 c3 g (1 ∷ []) (IsBehind bodies body g) (IsOpen bodies body g) a3 w3 start2 (λ m is b. opening bodies body g m b) behind2

      one3 : get_or c3 g 0 ≡ 1
      one3 = byte_stands ms2 ms3 c2 c3 g 1 (IsBehind bodies body g) a3 w3 start2 behind2

      gate_is : g + 9 + length body ≡ g + length text
      gate_is = omega (arith, text_size c body text g spelled small (start_of ms c (g + 1) (IsShut bodies g) start now))

      shut4 : (m : Moment) → IsImage m c3 → IsOpen bodies body g m → IsShut (bodies ++ body ∷ []) (g + length text) (settled c3)
      shut4 m is o = subst (λ (k : ℕ). IsShut (bodies ++ body ∷ []) k (settled c3)) gate_is (open_settled bodies body g m c3 o is one3)

      pub gate_unsynced : AddsSync c3 ms3 ms4 Failed → Syncs ms3 c3 c4 Failed → Now ms4 c4 (IsOpen bodies body g)
      gate_unsynced a4 s4 = unsynced_now ms3 ms4 c3 c4 (IsOpen bodies body g) a4 s4 open3

      pub put_kept : AddsSync c3 ms3 ms4 Done → Syncs ms3 c3 c4 Done → Now ms4 c4 (IsShut (bodies ++ body ∷ []) (g + length text))
      put_kept a4 s4 = sync_now ms3 ms4 c3 c4 (IsOpen bodies body g) (IsShut (bodies ++ body ∷ []) (g + length text)) a4 s4 (λ m is o all. shut4 m is o) open3

      pub put_safe_synced : (r : DiskDone) (b : Changes) (more : List Changes) → batch_of body ≡ Some b → IsOneOf b more → AddsSync c3 ms3 ms4 r → LeavesOnly ms ms4 (IsLeft (rows_of bodies) more)
      put_safe_synced r b more is among a4 =
          sync_leaves ms ms3 ms4 c3 r (IsOpen bodies body g) (IsLeft (rows_of bodies) more) a4 (λ m image o. shut_left (bodies ++ body ∷ []) (g + length text) (settled c3) (rows_of bodies) more (shut4 m image o) (more_rows bodies body b more is among)) open3 (left3 Done b more is among a3)

pub some_batch : (body : List ℕ) (batch : Changes) → batch_of body ≡ Some batch → IsSome (batch_of body)
some_batch body batch is = ap is_some is
