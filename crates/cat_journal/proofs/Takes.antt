-- A load, call by call.
use Rattle.std.proofs.Common.{◌≡◌, ◌≢◌, ◌⊎◌, inl, inr, ℕ, ◌<◌, ◌≤◌, List, [], ◌∷◌, length, get_or, refl, sym, ◌∙◌, ap, subst, arith}
use Rattle.std.proofs.lemmas.List.{ext_get_or}
use Rattle.cat_disk.specs.declared.disk.DiskDone.{DiskDone}
use Rattle.cat_disk.specs.declared.disk.DiskDone.TheVariants.{Done, Failed}
use Rattle.cat_disk.specs.Moments.{Moment, Covers, Extent, IsImage, reach, AddsSync}
use Rattle.cat_disk.specs.Disk.{StartsWithin, Syncs}
use Rattle.cat_journal.specs.Records.{HasRecords, rows_of}
use Rattle.cat_journal.specs.Left.{Now, HasNext, IsShut, IsHeld, IsOpen, IsShort, IsBare, LeavesOnly, IsLeft}
use Rattle.cat_journal.specs.Writes.{Seen, Shuts, ShutsSafely, Begins, BeginsSafely}
use Rattle.cat_journal.specs.Loads.{IsKnown, IsWhole, Holds, IsSafe, IsDecided, Settles, Fits, TakesUp, IsClosedBy, TakesUpSafely}
use Rattle.cat_journal.specs.declared.load.Known.{Known}
use Rattle.cat_journal.specs.declared.load.Known.TheVariants.{Nothing, Closed, Doubtful}
use Rattle.cat_journal.proofs.Passing.{passes_ahead}
use Rattle.cat_journal.proofs.Journals.{settled, shut_settled}
use Rattle.cat_journal.proofs.Steps.{weaker, sync_now, unsynced_now}

abbrev pub seen : List Moment → List ℕ → Seen
seen ms c = record { moments = ms; content = c }

pub silent_now : (ms : List Moment) (c : List ℕ) (P : Moment → Type 0) → ms ≡ [] → Now ms c P → ⊥
silent_now ms c P is now = subst (λ (l : List Moment). Now l c P) is now

-- what was read is the content
pub told_reads : (ms : List Moment) (c content : List ℕ) (P : Moment → Type 0) → (ms ≡ []) ⊎ (content ≡ c) → Now ms c P → content ≡ c
told_reads ms c content P (inl none) now = absurd (silent_now ms c P none now)
told_reads ms c content P (inr same) now = same

pub starts_reads : (ms : List Moment) (c content : List ℕ) (at : ℕ) → (ms ≡ []) ⊎ (content ≡ c) → at < length content → StartsWithin ms c at
starts_reads [] c content at reads inside = tt
starts_reads (m ∷ past) c content at (inl none) inside = absurd (cc)
starts_reads (m ∷ past) c content at (inr same) inside = omega (arith, inside, ap length same)

-- where all is on the disk, that is what reads
pub only : (m : Moment) (c : List ℕ) → IsImage m c → m.pending ≡ [] → c ≡ m.durable
only m c is whole =
    let most : length c ≤ length m.durable = subst (λ (es : List Extent). length c ≤ reach (length m.durable) es) whole is.no_longer in
    ext_get_or 0 c m.durable (omega (arith, most, is.no_shorter)) (λ i inside. is.same i (omega (arith, inside, most)) (λ covered. subst (λ (es : List Extent). Covers es i) whole covered))

-- ---- what was written is made durable

whole_after : (ms ms1 : List Moment) (c c1 : List ℕ) → AddsSync c ms ms1 Done → Syncs ms c c1 Done → ms ≢ [] → Now ms1 c1 IsWhole
whole_after [] ms1 c c1 adds syncs told = absurd (told refl)
whole_after (m ∷ past) ms1 c c1 adds syncs told =
    let all : IsImage (settled c) c = record { no_shorter = omega arith; no_longer = omega arith; same = λ i inside free. refl } in
    subst (λ (l : List Moment). Now l c1 IsWhole) (sym adds) (subst (λ (d : List ℕ). IsImage (settled c) d) (sym syncs) all, refl)

pub closed_settled : (bodies : List (List ℕ)) (gate : ℕ) (m : Moment) (c : List ℕ) → IsImage m c → IsKnown (Closed gate) bodies m → IsKnown (Closed gate) bodies (settled c)
closed_settled bodies gate m c is (inl shut) = inl (shut_settled bodies gate m c shut is)
closed_settled bodies gate m c is (inr short) = inr (short.0, short.1, omega (arith, is.no_longer, short.2))

pub settle_doubt : (gate : ℕ) (ms ms1 : List Moment) (c c1 : List ℕ) → IsSafe (Doubtful gate) (seen ms c) → Shuts gate (seen ms c) (seen ms1 c1) Done → Settles (Doubtful gate) (seen ms c) (seen ms1 c1) (Closed gate) Done
settle_doubt gate ms ms1 c c1 safe shuts = (
  refl,
  λ told. whole told safe.1,
  λ bodies now. weaker ms1 c1 (λ m. IsShut bodies gate m × (m.pending ≡ [])) (λ m. IsKnown (Closed gate) bodies m × IsWhole m) (λ m is p. (inl p.0, p.1)) (shuts bodies now),
)
  where
    whole : ms ≢ [] → Holds (Doubtful gate) (seen ms c) → Now ms1 c1 IsWhole
    whole told (inl none) = absurd (told none)
    whole told (inr some) = weaker ms1 c1 (λ m. IsShut some.0 gate m × (m.pending ≡ [])) IsWhole (λ m is p. p.1) (shuts some.0 some.1)

pub settle_closed : (gate : ℕ) (ms ms1 : List Moment) (c c1 : List ℕ) (r : DiskDone) → AddsSync c ms ms1 r → Syncs ms c c1 r → Settles (Closed gate) (seen ms c) (seen ms1 c1) (Closed gate) r
settle_closed gate ms ms1 c c1 Done adds syncs = (
  refl,
  whole_after ms ms1 c c1 adds syncs,
  λ bodies now. sync_now ms ms1 c c1 (IsKnown (Closed gate) bodies) (λ m. IsKnown (Closed gate) bodies m × IsWhole m) adds syncs (λ m is k all. (closed_settled bodies gate m c is k, refl)) now,
)
settle_closed gate ms ms1 c c1 Failed adds syncs = (refl, λ bodies now. unsynced_now ms ms1 c c1 (IsKnown (Closed gate) bodies) adds syncs now)

pub settle_nothing : (ms ms1 : List Moment) (c c1 : List ℕ) (r : DiskDone) → AddsSync c ms ms1 r → Syncs ms c c1 r → Settles Nothing (seen ms c) (seen ms1 c1) Nothing r
settle_nothing ms ms1 c c1 Done adds syncs = (
  refl,
  whole_after ms ms1 c c1 adds syncs,
  λ bodies now. sync_now ms ms1 c c1 (IsKnown Nothing bodies) (λ m. IsKnown Nothing bodies m × IsWhole m) adds syncs (λ m is k all. (tt, refl)) now,
)
settle_nothing ms ms1 c c1 Failed adds syncs = (refl, λ bodies now. unsynced_now ms ms1 c c1 (IsKnown Nothing bodies) adds syncs now)

-- ---- the gate byte is made ready

abbrev Both : Known → List (List ℕ) → Moment → Type 0
Both known bodies m = IsKnown known bodies m × IsWhole m

pub short_bare : (ms : List Moment) (c : List ℕ) (P : Moment → Type 0) → ((m : Moment) → P m → IsWhole m) → length c ≤ 9 → Now ms c P → Now ms c IsBare
short_bare ms c P whole short now = weaker ms c P IsBare (λ m is p. (whole m p, omega (arith, is.no_shorter, short))) now

pub short_bodies : (bodies : List (List ℕ)) (c : List ℕ) (gate : ℕ) → length c ≤ 9 → Fits bodies c gate → bodies ≡ []
short_bodies bodies c gate short (inl p) = p.1
short_bodies bodies c gate short (inr p) = absurd (omega (arith, short, p.0))

pub long_records : (bodies : List (List ℕ)) (c : List ℕ) (gate : ℕ) → 9 < length c → Fits bodies c gate → HasRecords c bodies gate
long_records bodies c gate long (inl p) = absurd (omega (arith, long, p.0))
long_records bodies c gate long (inr p) = p.1

pub take_begun : (known : Known) (gate : ℕ) (ms ms1 : List Moment) (c c1 content : List ℕ) → (ms ≡ []) ⊎ (content ≡ c) → length content ≤ 9 → Begins (seen ms c) (seen ms1 c1) Done → TakesUp known gate (seen ms c) (seen ms1 c1) (Closed 8) Done
take_begun known gate ms ms1 c c1 content reads few begins = λ bodies now fits.
    let same = told_reads ms c content (Both known bodies) reads now in
    let short : length c ≤ 9 = omega (arith, few, ap length same) in
    let none = short_bodies bodies c gate short fits in
    (8, refl, subst (λ (bs : List (List ℕ)). Now ms1 c1 (IsShut bs 8)) (sym none) (begins (short_bare ms c (Both known bodies) (λ m p. p.1) short now)))

pub at_eight : (gate : ℕ) (bodies : List (List ℕ)) (ms : List Moment) (c : List ℕ) → length c ≤ 9 → Now ms c (Both (Closed gate) bodies) → gate ≡ 8
at_eight gate bodies [] c short now = absurd now
at_eight gate bodies (m ∷ past) c short now = place now.1.0
  where
    place : IsKnown (Closed gate) bodies m → gate ≡ 8
    place (inl shut) = omega (arith, shut.inside, now.0.no_shorter, short, passes_ahead bodies m.durable 8 gate shut.passes)
    place (inr p) = p.0

pub take_unbegun : (known : Known) (gate : ℕ) (ms ms1 : List Moment) (c c1 content : List ℕ) → IsDecided known → (ms ≡ []) ⊎ (content ≡ c) → length content ≤ 9 → Begins (seen ms c) (seen ms1 c1) Failed → TakesUp known gate (seen ms c) (seen ms1 c1) known Failed
take_unbegun Nothing gate ms ms1 c c1 content decided reads few begins = λ bodies now fits.
    let same = told_reads ms c content (Both Nothing bodies) reads now in
    weaker ms1 c1 IsShort (IsKnown Nothing bodies) (λ m is s. tt) (begins (short_bare ms c (Both Nothing bodies) (λ m p. p.1) (omega (arith, few, ap length same)) now))
take_unbegun (Closed place) gate ms ms1 c c1 content decided reads few begins = λ bodies now fits.
    let same = told_reads ms c content (Both (Closed place) bodies) reads now in
    let short : length c ≤ 9 = omega (arith, few, ap length same) in
    let none = short_bodies bodies c gate short fits in
    weaker ms1 c1 IsShort (IsKnown (Closed place) bodies) (λ m is s. inr (at_eight place bodies ms c short now, none, s)) (begins (short_bare ms c (Both (Closed place) bodies) (λ m p. p.1) short now))
take_unbegun (Doubtful place) gate ms ms1 c c1 content decided reads few begins = absurd decided

shut_here : (bodies : List (List ℕ)) (gate : ℕ) (m : Moment) (c : List ℕ) → IsImage m c → m.pending ≡ [] → HasRecords c bodies gate → gate < length c → get_or c gate 0 ≡ 0 → IsShut bodies gate m
shut_here bodies gate m c is whole has inside zero =
    let same = only m c is whole in
    let there = subst (λ (l : List ℕ). HasRecords l bodies gate) same has in
    record {
      headed = there.headed;
      passes = there.passes;
      batches = there.batches;
      inside = omega (arith, inside, ap length same);
      closed = ap (λ (l : List ℕ). get_or l gate 0) (sym same) ∙ zero;
      free = λ i le covered. subst (λ (es : List Extent). Covers es i) whole covered;
    }

pub held_here : (bodies : List (List ℕ)) (gate : ℕ) (m : Moment) (c : List ℕ) → IsImage m c → m.pending ≡ [] → HasRecords c bodies gate → gate < length c → IsHeld bodies gate m
held_here bodies gate m c is whole has inside =
    let same = only m c is whole in
    let there = subst (λ (l : List ℕ). HasRecords l bodies gate) same has in
    record {
      headed = there.headed;
      passes = there.passes;
      batches = there.batches;
      inside = omega (arith, inside, ap length same);
      alone = λ i covered. absurd (subst (λ (es : List Extent). Covers es i) whole covered);
    }

module _ (known : Known) (gate : ℕ) (ms ms1 : List Moment) (c c1 content : List ℕ) (reads : (ms ≡ []) ⊎ (content ≡ c)) (many : 9 < length content) (within : gate < length content) where
  long_now : (P : Moment → Type 0) → Now ms c P → (9 < length c) × (gate < length c)
  long_now P now = let same = told_reads ms c content P reads now in (omega (arith, many, ap length same), omega (arith, within, ap length same))

  held_now : (bodies : List (List ℕ)) (P : Moment → Type 0) → ((m : Moment) → P m → IsWhole m) → Now ms c P → Fits bodies c gate → Now ms c (IsHeld bodies gate)
  held_now bodies P whole now fits =
      let long = long_now P now in
      weaker ms c P (IsHeld bodies gate) (λ m is p. held_here bodies gate m c is (whole m p) (long_records bodies c gate long.0 fits) long.1) now

  pub take_closed : get_or content gate 0 ≡ 0 → TakesUp known gate (seen ms c) (seen ms c) (Closed gate) Done
  take_closed zero = λ bodies now fits.
      let long = long_now (Both known bodies) now in
      let same = told_reads ms c content (Both known bodies) reads now in
      (gate, refl, weaker ms c (Both known bodies) (IsShut bodies gate) (λ m is p. shut_here bodies gate m c is p.1 (long_records bodies c gate long.0 fits) long.1 (ap (λ (l : List ℕ). get_or l gate 0) (sym same) ∙ zero)) now)

  pub take_shut : Shuts gate (seen ms c) (seen ms1 c1) Done → TakesUp known gate (seen ms c) (seen ms1 c1) (Closed gate) Done
  take_shut shuts = λ bodies now fits.
      (gate, refl, weaker ms1 c1 (λ m. IsShut bodies gate m × (m.pending ≡ [])) (IsShut bodies gate) (λ m is p. p.0) (shuts bodies (held_now bodies (Both known bodies) (λ m p. p.1) now fits)))

  pub take_held : Shuts gate (seen ms c) (seen ms1 c1) Failed → TakesUp known gate (seen ms c) (seen ms1 c1) (Doubtful gate) Failed
  take_held shuts = λ bodies now fits. shuts bodies (held_now bodies (Both known bodies) (λ m p. p.1) now fits)

  pub take_safe : (get_or content gate 0 ≢ 0) → ShutsSafely gate (seen ms c) (seen ms1 c1) → TakesUpSafely gate (seen ms c) (seen ms1 c1)
  take_safe other safe bodies more now fits closed = by_case closed
    where
      long : (9 < length c) × (gate < length c)
      long = long_now IsWhole now

      same : content ≡ c
      same = told_reads ms c content IsWhole reads now

      by_case : IsClosedBy more c gate → LeavesOnly ms ms1 (IsLeft (rows_of bodies) more)
      by_case (inl short) = absurd (omega (arith, short, long.0))
      by_case (inr (inl zero)) = absurd (other (ap (λ (l : List ℕ). get_or l gate 0) same ∙ zero))
      by_case (inr (inr next)) =
          safe bodies next.0 next.1 more next.3 next.4
          (weaker ms c IsWhole (IsOpen bodies next.0 gate) (λ m is whole. (held_here bodies gate m c is whole (long_records bodies c gate long.0 fits) long.1, subst (λ (l : List ℕ). HasNext l gate next.0) (only m c is whole) next.2)) now)

pub take_safe_begun : (gate : ℕ) (ms ms1 : List Moment) (c c1 content : List ℕ) → (ms ≡ []) ⊎ (content ≡ c) → length content ≤ 9 → BeginsSafely (seen ms c) (seen ms1 c1) → TakesUpSafely gate (seen ms c) (seen ms1 c1)
take_safe_begun gate ms ms1 c c1 content reads few safe bodies more now fits closed =
    let same = told_reads ms c content IsWhole reads now in
    let short : length c ≤ 9 = omega (arith, few, ap length same) in
    subst (λ (bs : List (List ℕ)). LeavesOnly ms ms1 (IsLeft (rows_of bs) more)) (sym (short_bodies bodies c gate short fits)) (safe more (short_bare ms c IsWhole (λ m w. w) short now))

pub take_safe_closed : (gate : ℕ) (ms : List Moment) (c : List ℕ) → TakesUpSafely gate (seen ms c) (seen ms c)
take_safe_closed gate ms c bodies more now fits closed = ([], refl, tt)

-- ---- the same of what is known by an equation

pub settles_doubt : (known : Known) (gate : ℕ) (ms ms1 : List Moment) (c c1 : List ℕ) → known ≡ Doubtful gate → IsSafe known (seen ms c) → Shuts gate (seen ms c) (seen ms1 c1) Done → Settles known (seen ms c) (seen ms1 c1) (Closed gate) Done
settles_doubt known gate ms ms1 c c1 is safe shuts =
    subst (λ (k : Known). Settles k (seen ms c) (seen ms1 c1) (Closed gate) Done) (sym is) (settle_doubt gate ms ms1 c c1 (subst (λ (k : Known). IsSafe k (seen ms c)) is safe) shuts)

pub settles_still : (known : Known) (gate : ℕ) (ms ms1 : List Moment) (c c1 : List ℕ) → known ≡ Doubtful gate → Shuts gate (seen ms c) (seen ms1 c1) Failed → Settles known (seen ms c) (seen ms1 c1) (Doubtful gate) Failed
settles_still known gate ms ms1 c c1 is shuts =
    subst (λ (k : Known). Settles k (seen ms c) (seen ms1 c1) (Doubtful gate) Failed) (sym is) (refl, λ bodies now. shuts bodies now)

pub settles_closed : (known : Known) (gate : ℕ) (ms ms1 : List Moment) (c c1 : List ℕ) (r : DiskDone) → known ≡ Closed gate → AddsSync c ms ms1 r → Syncs ms c c1 r → Settles known (seen ms c) (seen ms1 c1) (Closed gate) r
settles_closed known gate ms ms1 c c1 r is adds syncs =
    subst (λ (k : Known). Settles k (seen ms c) (seen ms1 c1) (Closed gate) r) (sym is) (settle_closed gate ms ms1 c c1 r adds syncs)

pub settles_nothing : (known : Known) (ms ms1 : List Moment) (c c1 : List ℕ) (r : DiskDone) → known ≡ Nothing → AddsSync c ms ms1 r → Syncs ms c c1 r → Settles known (seen ms c) (seen ms1 c1) Nothing r
settles_nothing known ms ms1 c c1 r is adds syncs =
    subst (λ (k : Known). Settles k (seen ms c) (seen ms1 c1) Nothing r) (sym is) (settle_nothing ms ms1 c c1 r adds syncs)

pub safe_at : (known place : Known) (s : Seen) → known ≡ place → IsSafe known s → IsSafe place s
safe_at known place s is safe = subst (λ (k : Known). IsSafe k s) is safe

pub starts_safe : (known : Known) (gate : ℕ) (ms : List Moment) (c : List ℕ) → known ≡ Doubtful gate → IsSafe known (seen ms c) → StartsWithin ms c gate
starts_safe known gate ms c is safe = starts (subst (λ (k : Known). IsSafe k (seen ms c)) is safe)
  where
    within_it : (l : List Moment) (bodies : List (List ℕ)) → Now l c (IsHeld bodies gate) → StartsWithin l c gate
    within_it [] bodies now = tt
    within_it (m ∷ past) bodies now = omega (arith, now.1.inside, now.0.no_shorter)

    starts : IsSafe (Doubtful gate) (seen ms c) → StartsWithin ms c gate
    starts (small, inl none) = subst (λ (l : List Moment). StartsWithin l c gate) (sym none) tt
    starts (small, inr some) = within_it ms some.0 some.1
