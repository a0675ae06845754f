-- A load from its reading on, and as a whole.
use Rattle.std.proofs.Common.{◌≡◌, ◌≢◌, ◌⊎◌, inl, inr, ⊎_elim, ℕ, ◌+◌, ◌<◌, ◌≤◌, List, [], ◌∷◌, ◌++◌, length, get_or, refl, sym, ◌∙◌, ap, subst, arith}
use Rattle.cat_disk.specs.declared.disk.DiskRead.TheVariants.{Read}
use Rattle.cat_disk.specs.declared.disk.DiskDone.TheVariants.{Done, Failed as NotDone}
use Rattle.cat_disk.specs.Moments.{Moment, IsImage}
use Rattle.cat_disk.specs.Disk as disk
use Rattle.cat_keeper.specs.Store.{Changes, Rows}
use Rattle.cat_journal.specs.Records.{Passes, HasRecords, gate_of, rows_of, Scans}
use Rattle.cat_journal.specs.declared.records.Gate.TheVariants.{Shut}
use Rattle.cat_journal.specs.declared.records.Scanned.TheVariants.{Found, Damaged}
use Rattle.cat_journal.specs.Left.{Now, IsShut}
use Rattle.cat_journal.specs.Writes.{Seen}
use Rattle.cat_journal.specs.Loads.{IsKnown, IsWhole, Holds, IsPlaced, IsSafe, IsDecided, decided, Settles, Fits, FitsSome, TakesUp, IsClosedBy, TakesUpSafely, Takes, TakesSafely, IsFound, Reads, LoadsAgain, LoadsFirst}
use Rattle.cat_journal.specs.declared.load.Known.{Known}
use Rattle.cat_journal.specs.declared.load.Known.TheVariants.{Nothing, Closed, Doubtful}
use Rattle.cat_journal.specs.declared.load.Loading.{Loading}
use Rattle.cat_journal.specs.declared.load.Loading.TheVariants.{Found as Loaded, Damaged as Harmed, Failed, NoMemory}
use Rattle.cat_journal.proofs.Passing.{scans_one, opened_inside}
use Rattle.cat_journal.proofs.Journals.{small_or_large, no_room, shut_records}
use Rattle.cat_journal.proofs.Steps.{weaker}
use Rattle.cat_journal.proofs.Takes.{seen, silent_now, told_reads}

-- a gate byte behind records stands in the content
passes_inside : (bodies : List (List ℕ)) (c : List ℕ) (at end : ℕ) → at < length c → Passes bodies c at end → end < length c
passes_inside [] c at end inside is = omega (arith, inside, is)
passes_inside (b ∷ bodies) c at end inside is = passes_inside bodies c (at + 9 + length b) end (opened_inside c at (length b) is.0) is.2

pub scan_inside : (c : List ℕ) (rows : Rows) (gate : ℕ) → Scans c (Found rows gate) → 9 < length c → gate < length c
scan_inside c rows gate (inl p) many = absurd (omega (arith, p.0, many))
scan_inside c rows gate (inr p) many = passes_inside p.1 c 8 gate (omega (arith, many)) p.2.passes

-- records that fit are those that the scan found
pub fits_found : (bodies : List (List ℕ)) (c : List ℕ) (rows : Rows) (gate : ℕ) → FitsSome bodies c → Scans c (Found rows gate) → Fits bodies c gate × (rows ≡ rows_of bodies)
fits_found bodies c rows gate (inl p) scans =
    let one = scans_one c (Found [] 8) (Found rows gate) (inl (p.0, refl, refl)) scans in
    let same : [] ≡ rows = cc in
    (inl p, sym same ∙ ap rows_of (sym p.1))
fits_found bodies c rows gate (inr p) scans =
    let one = scans_one c (Found (rows_of bodies) p.1) (Found rows gate) (inr (p.0, bodies, p.2, p.3, refl)) scans in
    let same : rows_of bodies ≡ rows = cc in
    let place : p.1 ≡ gate = cc in
    (inr (p.0, subst (λ (k : ℕ). HasRecords c bodies k) place p.2, subst (λ (k : ℕ). gate_of c k ≡ Shut) place p.3), sym same)

fits_harmed : (bodies : List (List ℕ)) (c : List ℕ) (place : ℕ) → FitsSome bodies c → Scans c (Damaged place) → ⊥
fits_harmed bodies c place (inl p) scans = let one = scans_one c (Found [] 8) (Damaged place) (inl (p.0, refl, refl)) scans in cc
fits_harmed bodies c place (inr p) scans = let one = scans_one c (Found (rows_of bodies) p.1) (Damaged place) (inr (p.0, bodies, p.2, p.3, refl)) scans in cc

abbrev Both : Known → List (List ℕ) → Moment → Type 0
Both known bodies m = IsKnown known bodies m × IsWhole m

pub take_found : (known after : Known) (rows : Rows) (gate : ℕ) (ms ms1 : List Moment) (c c1 content : List ℕ) → (ms ≡ []) ⊎ (content ≡ c) → Scans content (Found rows gate) → TakesUp known gate (seen ms c) (seen ms1 c1) after Done → Takes known (seen ms c) (seen ms1 c1) after (Loaded rows)
take_found known after rows gate ms ms1 c c1 content reads scans takes = λ bodies now fits.
    let same = told_reads ms c content (Both known bodies) reads now in
    let found = fits_found bodies c rows gate fits (subst (λ (l : List ℕ). Scans l (Found rows gate)) same scans) in
    (found.1, takes bodies now found.0)

pub take_failed : (known after : Known) (rows : Rows) (gate : ℕ) (ms ms1 : List Moment) (c c1 content : List ℕ) → (ms ≡ []) ⊎ (content ≡ c) → Scans content (Found rows gate) → TakesUp known gate (seen ms c) (seen ms1 c1) after NotDone → Takes known (seen ms c) (seen ms1 c1) after Failed
take_failed known after rows gate ms ms1 c c1 content reads scans takes = λ bodies now fits.
    let same = told_reads ms c content (Both known bodies) reads now in
    takes bodies now (fits_found bodies c rows gate fits (subst (λ (l : List ℕ). Scans l (Found rows gate)) same scans)).0

pub take_harmed : (known : Known) (place : ℕ) (ms : List Moment) (c content : List ℕ) → (ms ≡ []) ⊎ (content ≡ c) → Scans content (Damaged place) → Takes known (seen ms c) (seen ms c) known (Harmed place)
take_harmed known place ms c content reads scans =
    (refl, refl, λ bodies now fits. fits_harmed bodies c place fits (subst (λ (l : List ℕ). Scans l (Damaged place)) (told_reads ms c content (Both known bodies) reads now) scans))

-- the gate byte that the scan found is the one at which the records end
pub same_gate : (bodies : List (List ℕ)) (more : List Changes) (c : List ℕ) (rows : Rows) (gate place : ℕ) → Scans c (Found rows place) → Fits bodies c gate → IsClosedBy more c gate → Fits bodies c place × IsClosedBy more c place
same_gate bodies more c rows gate place scans (inl p) closed = (inl p, inl p.0)
same_gate bodies more c rows gate place scans (inr p) closed =
    let one = scans_one c (Found (rows_of bodies) gate) (Found rows place) (inr (p.0, bodies, p.1, p.2, refl)) scans in
    let same : gate ≡ place = cc in
    (subst (λ (k : ℕ). Fits bodies c k) same (inr p), subst (λ (k : ℕ). IsClosedBy more c k) same closed)

pub take_safely : (rows : Rows) (place : ℕ) (ms ms1 : List Moment) (c c1 content : List ℕ) → (ms ≡ []) ⊎ (content ≡ c) → Scans content (Found rows place) → TakesUpSafely place (seen ms c) (seen ms1 c1) → TakesSafely (seen ms c) (seen ms1 c1)
take_safely rows place ms ms1 c c1 content reads scans safe bodies more gate now fits closed =
    let same = told_reads ms c content IsWhole reads now in
    let p = same_gate bodies more c rows gate place (subst (λ (l : List ℕ). Scans l (Found rows place)) same scans) fits closed in
    safe bodies more now p.0 p.1

pub take_idle : (ms ms1 : List Moment) (c c1 : List ℕ) → ms1 ≡ ms → TakesSafely (seen ms c) (seen ms1 c1)
take_idle ms ms1 c c1 is bodies more gate now fits closed = ([], is, tt)

-- ---- what was read

pub read_tells : (ms : List Moment) (c old new : List ℕ) → disk.Reads ms c Read old new → old ≡ [] → (ms ≡ []) ⊎ (new ≡ c)
read_tells [] c old new reads none = inl refl
read_tells (m ∷ past) c old new reads none = inr (reads ∙ ap (λ (l : List ℕ). l ++ c) none)

pub same_seen : (ms ms1 : List Moment) (c c1 : List ℕ) → ms1 ≡ ms → c1 ≡ c → seen ms1 c1 ≡ seen ms c
same_seen ms ms1 c c1 p q = λ i. seen (p i) (q i)

pub unread_takes : (known : Known) (s t : Seen) → t ≡ s → Takes known s t known Failed
unread_takes known s t same = λ bodies now fits.
    subst (λ (x : Seen). Now x.moments x.content (IsKnown known bodies)) (sym same) (weaker s.moments s.content (Both known bodies) (IsKnown known bodies) (λ m is p. p.0) now)

-- ---- a load as a whole

pub decided_is : (known after : Known) → after ≡ decided known → IsDecided after
decided_is Nothing after is = subst IsDecided (sym is) tt
decided_is (Closed g) after is = subst IsDecided (sym is) tt
decided_is (Doubtful g) after is = subst IsDecided (sym is) tt

pub decided_placed : (known after : Known) (s : Seen) → after ≡ decided known → IsSafe known s → IsPlaced after
decided_placed Nothing after s is safe = subst IsPlaced (sym is) tt
decided_placed (Closed g) after s is safe = subst IsPlaced (sym is) safe.0
decided_placed (Doubtful g) after s is safe = subst IsPlaced (sym is) safe.0

pub safe_placed : (known : Known) (s : Seen) → IsSafe known s → IsPlaced known
safe_placed Nothing s safe = tt
safe_placed (Closed g) s safe = safe.0
safe_placed (Doubtful g) s safe = safe.0

-- records before a gate byte that is known fit the content
closed_fits : (gate : ℕ) (bodies : List (List ℕ)) (m : Moment) (c : List ℕ) → IsImage m c → IsKnown (Closed gate) bodies m → FitsSome bodies c
closed_fits gate bodies m c is (inr short) = inl (omega (arith, is.no_longer, short.2), short.1)
closed_fits gate bodies m c is (inl shut) = ⊎_elim few many (small_or_large (length c))
  where
    there : HasRecords c bodies gate × (gate_of c gate ≡ Shut) × (get_or c gate 0 ≡ 0) × (gate < length c)
    there = shut_records bodies gate m c shut is

    few : length c ≤ 9 → FitsSome bodies c
    few short = inl (short, no_room bodies c gate there.0.passes (omega (arith, there.3, short)))

    many : 9 < length c → FitsSome bodies c
    many long = inr (long, gate, there.0, there.1)

pub known_fits : (known : Known) (bodies : List (List ℕ)) (ms : List Moment) (c : List ℕ) → IsFound known → IsDecided known → Now ms c (Both known bodies) → FitsSome bodies c
known_fits known bodies [] c some decided now = absurd now
known_fits Nothing bodies (m ∷ past) c some decided now = absurd some
known_fits (Closed gate) bodies (m ∷ past) c some decided now = closed_fits gate bodies m c now.0 now.1.0
known_fits (Doubtful gate) bodies (m ∷ past) c some decided now = absurd decided

found_decided : (known : Known) → IsFound known → IsFound (decided known)
found_decided Nothing some = some
found_decided (Closed g) some = tt
found_decided (Doubtful g) some = tt

pub safe_of : (known : Known) (s : Seen) → IsPlaced known → Holds known s → IsSafe known s
safe_of Nothing s placed holds = tt
safe_of (Closed g) s placed holds = (placed, holds)
safe_of (Doubtful g) s placed holds = (placed, holds)

-- what a scan found are some records
scan_fits : (c : List ℕ) (rows : Rows) (gate : ℕ) → Scans c (Found rows gate) → (bodies : List (List ℕ)) × FitsSome bodies c × (rows ≡ rows_of bodies)
scan_fits c rows gate (inl p) = ([], inl (p.0, refl), p.1)
scan_fits c rows gate (inr p) = (p.1, inr (p.0, gate, p.2, p.3), p.4)

-- what is known once all is on the disk
module _ (known k : Known) (ms ms1 : List Moment) (c c1 : List ℕ) (safe : IsSafe known (seen ms c)) (settles : Settles known (seen ms c) (seen ms1 c1) k Done) where
  is_decided : IsDecided k
  is_decided = decided_is known k settles.0

  after_settling : (bodies : List (List ℕ)) → Now ms c (IsKnown known bodies) → Now ms1 c1 (Both k bodies)
  after_settling bodies now = settles.2 bodies now

  found_after : IsFound known → IsFound k
  found_after some = subst IsFound (sym settles.0) (found_decided known some)

  -- the records that a gate byte ends, where one was found; else those that a scan found
  some_records : ms ≢ [] → (rows : Rows) (gate : ℕ) → Scans c1 (Found rows gate) → (bodies : List (List ℕ)) × Now ms1 c1 (Both k bodies) × FitsSome bodies c1
  some_records told rows gate scans = by_known known safe settles
    where
      scanned : k ≡ Nothing → (bodies : List (List ℕ)) × Now ms1 c1 (Both k bodies) × FitsSome bodies c1
      scanned none =
          let found = scan_fits c1 rows gate scans in
          (found.0, weaker ms1 c1 IsWhole (Both k found.0) (λ m is whole. (subst (λ (x : Known). IsKnown x found.0 m) (sym none) tt, whole)) (settles.1 told), found.1)

      held : (x : Known) → IsFound x → Holds x (seen ms c) → Settles x (seen ms c) (seen ms1 c1) k Done → (bodies : List (List ℕ)) × Now ms1 c1 (Both k bodies) × FitsSome bodies c1
      held x some (inl none) s = absurd (told none)
      held x some (inr p) s =
          let now = s.2 p.0 p.1 in
          (p.0, now, known_fits k p.0 ms1 c1 (subst IsFound (sym s.0) (found_decided x some)) (decided_is x k s.0) now)

      by_known : (x : Known) → IsSafe x (seen ms c) → Settles x (seen ms c) (seen ms1 c1) k Done → (bodies : List (List ℕ)) × Now ms1 c1 (Both k bodies) × FitsSome bodies c1
      by_known Nothing s settled = scanned settled.0
      by_known (Closed g) s settled = held (Closed g) tt s.1 settled
      by_known (Doubtful g) s settled = held (Doubtful g) tt s.1 settled

  -- what was known is still, where nothing more was done
  still_holds : ms ≢ [] → IsPlaced k → IsSafe k (seen ms1 c1)
  still_holds told placed = by_known known safe settles
    where
      held : (x : Known) → Holds x (seen ms c) → Settles x (seen ms c) (seen ms1 c1) k Done → IsSafe k (seen ms1 c1)
      held x (inl none) s = absurd (told none)
      held x (inr p) s = safe_of k (seen ms1 c1) placed (inr (p.0, weaker ms1 c1 (Both k p.0) (IsKnown k p.0) (λ m is b. b.0) (s.2 p.0 p.1)))

      by_known : (x : Known) → IsSafe x (seen ms c) → Settles x (seen ms c) (seen ms1 c1) k Done → IsSafe k (seen ms1 c1)
      by_known Nothing s settled = subst (λ (y : Known). IsSafe y (seen ms1 c1)) (sym settled.0) tt
      by_known (Closed g) s settled = held (Closed g) s.1 settled
      by_known (Doubtful g) s settled = held (Doubtful g) s.1 settled

  module _ (after : Known) (ms2 : List Moment) (c2 : List ℕ) where
    told_safe : (o : Loading) → ms ≢ [] → IsPlaced k → IsPlaced after → Takes k (seen ms1 c1) (seen ms2 c2) after o → Reads k c1 after o → IsSafe after (seen ms2 c2)
    told_safe (Loaded rows) told pk placed takes reads =
        let p = some_records told rows reads.0 reads.1 in
        let q = (takes p.0 p.1 p.2).1 in
        safe_of after (seen ms2 c2) placed (inr (p.0, subst (λ (x : Known). Now ms2 c2 (IsKnown x p.0)) (sym q.1) (weaker ms2 c2 (IsShut p.0 q.0) (IsKnown (Closed q.0) p.0) (λ m is s. inl s) q.2)))
    told_safe (Harmed place) told pk placed takes reads = subst (λ (x : Known). IsSafe x (seen ms2 c2)) (sym takes.0) (subst (λ (x : Seen). IsSafe k x) (sym takes.1) (still_holds told pk))
    told_safe NoMemory told pk placed takes reads = subst (λ (x : Known). IsSafe x (seen ms2 c2)) (sym takes.0) (subst (λ (x : Seen). IsSafe k x) (sym takes.1) (still_holds told pk))
    told_safe Failed told pk placed takes (inr scans) =
        let p = some_records told scans.0 scans.1 scans.2 in
        safe_of after (seen ms2 c2) placed (inr (p.0, takes p.0 p.1 p.2))
    told_safe Failed told pk placed takes (inl same) = by_k k is_decided same (still_holds told pk) takes
      where
        by_k : (x : Known) → IsDecided x → after ≡ x → IsSafe x (seen ms1 c1) → Takes x (seen ms1 c1) (seen ms2 c2) after Failed → IsSafe after (seen ms2 c2)
        by_k Nothing d is s t = subst (λ (y : Known). IsSafe y (seen ms2 c2)) (sym is) tt
        by_k (Doubtful g) d is s t = absurd d
        by_k (Closed g) d is s t = at_gate s.1
          where
            at_gate : Holds (Closed g) (seen ms1 c1) → IsSafe after (seen ms2 c2)
            at_gate (inl none) = absurd (silent_now ms1 c1 IsWhole none (settles.1 told))
            at_gate (inr p) =
                let both_now = whole_both ms1 c1 p.1 (settles.1 told) in
                safe_of after (seen ms2 c2) placed (inr (p.0, t p.0 both_now (known_fits (Closed g) p.0 ms1 c1 tt tt both_now)))
              where
                whole_both : (l : List Moment) (d1 : List ℕ) → Now l d1 (IsKnown (Closed g) p.0) → Now l d1 IsWhole → Now l d1 (Both (Closed g) p.0)
                whole_both [] d1 a b = a
                whole_both (m ∷ past) d1 a b = (a.0, (a.1, b.1))

    pub load_safe : (o : Loading) → (ms ≡ [] → ms1 ≡ []) → (ms1 ≡ [] → ms2 ≡ []) → IsPlaced k → IsPlaced after → Takes k (seen ms1 c1) (seen ms2 c2) after o → (ms1 ≡ []) ⊎ Reads k c1 after o → IsSafe after (seen ms2 c2)
    load_safe o one two pk placed takes reads = by_told ms refl
      where
        by_told : (l : List Moment) → ms ≡ l → IsSafe after (seen ms2 c2)
        by_told [] is = safe_of after (seen ms2 c2) placed (inl (two (one is)))
        by_told (m ∷ past) is = ⊎_elim
            (λ none. absurd (silent_now ms1 c1 IsWhole none (settles.1 (told is))))
            (λ r. told_safe o (told is) pk placed takes r) reads
          where
            told : ms ≡ m ∷ past → ms ≢ []
            told e none = cc

    pub load_again : (o : Loading) → (IsFound k → IsFound after) → Takes k (seen ms1 c1) (seen ms2 c2) after o → LoadsAgain known (seen ms c) (seen ms2 c2) after o
    load_again (Loaded rows) found takes = λ some bodies now.
        let after_it = after_settling bodies now in takes bodies after_it (known_fits k bodies ms1 c1 (found_after some) is_decided after_it)
    load_again (Harmed place) found takes = λ some bodies now.
        let after_it = after_settling bodies now in takes.2 bodies after_it (known_fits k bodies ms1 c1 (found_after some) is_decided after_it)
    load_again Failed found takes = λ some bodies now.
        let after_it = after_settling bodies now in (takes bodies after_it (known_fits k bodies ms1 c1 (found_after some) is_decided after_it), found (found_after some))
    load_again NoMemory found takes = λ some bodies now.
        let after_it = weaker ms1 c1 (Both k bodies) (IsKnown k bodies) (λ m is b. b.0) (after_settling bodies now) in
        (subst (λ (x : Known). Now ms2 c2 (IsKnown x bodies)) (sym takes.0) (subst (λ (x : Seen). Now x.moments x.content (IsKnown k bodies)) (sym takes.1) after_it), found (found_after some))

    pub load_first : (o : Loading) → Takes k (seen ms1 c1) (seen ms2 c2) after o → (ms1 ≡ []) ⊎ Reads k c1 after o → LoadsFirst known (seen ms c) (seen ms2 c2) after o
    load_first (Loaded rows) takes (inl none) = λ told. absurd (silent_now ms1 c1 IsWhole none (settles.1 told))
    load_first (Loaded rows) takes (inr reads) = λ told.
        let p = some_records told rows reads.0 reads.1 in
        let q = takes p.0 p.1 p.2 in
        (p.0, q.0, q.1.0, q.1.1, q.1.2)
    load_first (Harmed place) takes reads = takes.0 ∙ settles.0
    load_first Failed takes reads = tt
    load_first NoMemory takes reads = takes.0 ∙ settles.0

-- a disk that failed at once leaves what was known
pub settle_failed_safe : (known after : Known) (ms ms1 : List Moment) (c c1 : List ℕ) → IsSafe known (seen ms c) → Settles known (seen ms c) (seen ms1 c1) after NotDone → (ms ≡ [] → ms1 ≡ []) → IsSafe after (seen ms1 c1)
settle_failed_safe known after ms ms1 c c1 safe settles silent = subst (λ (k : Known). IsSafe k (seen ms1 c1)) (sym settles.0) (by_known known safe settles.1)
  where
    held : (k : Known) → Holds k (seen ms c) → ((bodies : List (List ℕ)) → Now ms c (IsKnown k bodies) → Now ms1 c1 (IsKnown k bodies)) → Holds k (seen ms1 c1)
    held k (inl none) keeps = inl (silent none)
    held k (inr some) keeps = inr (some.0, keeps some.0 some.1)

    by_known : (k : Known) → IsSafe k (seen ms c) → ((bodies : List (List ℕ)) → Now ms c (IsKnown k bodies) → Now ms1 c1 (IsKnown k bodies)) → IsSafe k (seen ms1 c1)
    by_known Nothing s keeps = tt
    by_known (Closed g) s keeps = (s.0, held (Closed g) s.1 keeps)
    by_known (Doubtful g) s keeps = (s.0, held (Doubtful g) s.1 keeps)
