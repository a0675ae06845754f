-- The rows of a journal stand through every call, and through every crash.
use Rattle.std.proofs.Common.{◌≡◌, ◌≢◌, ◌⊎◌, inl, inr, ⊎_elim, ℕ, ◌+◌, ◌<◌, ◌≤◌, List, [], ◌∷◌, ◌++◌, Some, length, get_or, refl, sym, ◌∙◌, ap, subst, arith}
use Rattle.std.specs.Prelude.{IsSome, is_some}
use Rattle.cat_disk.specs.declared.disk.DiskDone.{DiskDone}
use Rattle.cat_disk.specs.declared.disk.DiskDone.TheVariants.{Done, Failed as NotDone}
use Rattle.cat_disk.specs.Moments.{Moment, AddsSync}
use Rattle.cat_disk.specs.Disk.{Syncs}
use Rattle.cat_keeper.specs.Store.{Changes, Rows, applied}
use Rattle.cat_journal.specs.Parsed.{batch_of}
use Rattle.cat_journal.specs.Records.{rows_of, closed_record, Scans}
use Rattle.cat_journal.specs.declared.records.Scanned.TheVariants.{Found as Scanned}
use Rattle.cat_keeper.specs.declared.keeper.Loaded.{Loaded}
use Rattle.cat_keeper.specs.declared.keeper.Loaded.TheVariants.{Rows as Given, Failed as NotLoaded, NoMemory as NoRoom}
use Rattle.cat_keeper.specs.declared.keeper.Committed.TheVariants.{Kept as IsKept, Failed as NotKept, NoMemory as NoSpace}
use Rattle.cat_journal.specs.Left.{Now, HasNext, IsShut, IsHeld, IsOpen, IsShort, IsOneOf, IsClosed, Leaves, LeavesOnly, IsLeft}
use Rattle.cat_journal.specs.Writes.{Seen, Shuts, KeepsNext, ShutsSafely, Puts, PutsSafely, Begins}
use Rattle.cat_journal.specs.Loads.{IsKnown, IsWhole, IsDecided, Fits, FitsSome, IsClosedBy, Takes, TakesSafely}
use Rattle.cat_journal.specs.Keeps.{IsReady, JournalState}
use Rattle.cat_journal.specs.Stands.{IsSettled, SettlesSafely, Stands, TakesStill, LoadsStill, IsSafeLoad, IsSafePut, IsSafeLoaded, IsSafeCommit}
use Rattle.cat_journal.specs.declared.gate.Put.{Put}
use Rattle.cat_journal.specs.declared.gate.Put.TheVariants.{Kept, Behind, AtGate}
use Rattle.cat_journal.specs.declared.load.Known.{Known}
use Rattle.cat_journal.specs.declared.load.Known.TheVariants.{Nothing, Closed, Doubtful}
use Rattle.cat_journal.specs.declared.load.Loading.{Loading}
use Rattle.cat_journal.specs.declared.load.Loading.TheVariants.{Found, Damaged, Failed, NoMemory}
use Rattle.cat_journal.proofs.Passing.{passes_one, shut_ends}
use Rattle.cat_journal.proofs.Journals.{settled, short_left, shut_left, records_left, shut_records, rows_more, no_room, small_or_large}
use Rattle.cat_journal.proofs.Steps.{weaker, sync_now, sync_content, unsynced_now, sync_leaves, no_moment, then_leaves}
use Rattle.cat_journal.proofs.Loadings.{scan_inside, same_gate}
use Rattle.cat_journal.proofs.Takes.{seen, silent_now, only, closed_settled, short_bodies, short_bare, at_eight, held_here, long_records, told_reads}

-- content at rest leaves its rows
rest_left : (bodies : List (List ℕ)) (gate : ℕ) (c : List ℕ) (base : Rows) (more : List Changes) → Fits bodies c gate → IsClosedBy more c gate → rows_of bodies ≡ base → IsLeft base more c
rest_left bodies gate c base more (inl p) closed is = subst (λ (r : Rows). IsLeft r more c) (sym (ap rows_of p.1) ∙ is) (short_left c more p.0)
rest_left bodies gate c base more (inr p) closed is = records_left bodies gate c base more p.1 p.2 (next closed) (inside closed) (inl is)
  where
    next : IsClosedBy more c gate → IsClosed c gate
    next (inl short) = absurd (omega (arith, short, p.0))
    next (inr (inl zero)) = inl zero
    next (inr (inr further)) = inr (further.0, further.2)

    inside : IsClosedBy more c gate → gate < length c
    inside closed_by = scan_inside c (rows_of bodies) gate (inr (p.0, bodies, p.1, p.2, refl)) p.0

-- an image of what is at rest is that
settled_leaves : (c : List ℕ) (base : Rows) (more : List Changes) → IsLeft base more c → Leaves (IsLeft base more) (settled c)
settled_leaves c base more left d is = subst (IsLeft base more) (sym (only (settled c) d is refl)) left

short_all : (base : Rows) (more : List Changes) (m : Moment) → base ≡ [] → IsShort m → Leaves (IsLeft base more) m
short_all base more m none short c is = subst (λ (r : Rows). IsLeft r more c) (sym none) (short_left c more (omega (arith, is.no_longer, short)))

-- what is closed leaves its rows
closed_leaves : (gate : ℕ) (bodies : List (List ℕ)) (m : Moment) (base : Rows) (more : List Changes) → rows_of bodies ≡ base → IsKnown (Closed gate) bodies m → Leaves (IsLeft base more) m
closed_leaves gate bodies m base more is (inl shut) = shut_left bodies gate m base more shut (inl is)
closed_leaves gate bodies m base more is (inr short) = short_all base more m (sym is ∙ ap rows_of short.1) short.2

-- ---- after a settling

abbrev Both : Known → List (List ℕ) → Moment → Type 0
Both known bodies m = IsKnown known bodies m × IsWhole m

closed_fit : (gate : ℕ) (bodies : List (List ℕ)) (more : List Changes) (ms : List Moment) (c : List ℕ) → Now ms c (IsKnown (Closed gate) bodies) → Fits bodies c gate × IsClosedBy more c gate
closed_fit gate bodies more [] c now = absurd now
closed_fit gate bodies more (m ∷ past) c now = fit now.1
  where
    fit : IsKnown (Closed gate) bodies m → Fits bodies c gate × IsClosedBy more c gate
    fit (inr short) = (inl (omega (arith, now.0.no_longer, short.2), short.1), inl (omega (arith, now.0.no_longer, short.2)))
    fit (inl shut) =
        let p = shut_records bodies gate m c shut now.0 in
        ⊎_elim
        (λ few. (inl (few, no_room bodies c gate p.0.passes (omega (arith, p.3, few))), inl few))
        (λ many. (inr (many, p.0, p.1), inr (inl p.2))) (small_or_large (length c))

settled_closed : (gate : ℕ) (bodies : List (List ℕ)) (base : Rows) (more : List Changes) (ms : List Moment) (c : List ℕ) → rows_of bodies ≡ base → Now ms c (Both (Closed gate) bodies) → IsSettled base more (Closed gate) (seen ms c)
settled_closed gate bodies base more ms c is now =
    let fit = closed_fit gate bodies more ms c (weaker ms c (Both (Closed gate) bodies) (IsKnown (Closed gate) bodies) (λ m image b. b.0) now) in
    (bodies, gate, now, fit.0, fit.1, is)

pub doubt_settles : (gate : ℕ) (base : Rows) (more : List Changes) (ms ms1 : List Moment) (c c1 : List ℕ) → ShutsSafely gate (seen ms c) (seen ms1 c1) → Shuts gate (seen ms c) (seen ms1 c1) Done → Stands base more (Doubtful gate) (seen ms c) → SettlesSafely base more (seen ms c) (seen ms1 c1) (Closed gate) Done
doubt_settles gate base more ms ms1 c c1 safe shuts s = (
  subst (λ (r : Rows). LeavesOnly ms ms1 (IsLeft r more)) s.6 (safe s.0 s.1 s.2 more s.4 s.5 s.3),
  settled_closed gate s.0 base more ms1 c1 s.6 (weaker ms1 c1 (λ m. IsShut s.0 gate m × (m.pending ≡ [])) (Both (Closed gate) s.0) (λ m is p. (inl p.0, p.1)) (shuts s.0 (weaker ms c (IsOpen s.0 s.1 gate) (IsHeld s.0 gate) (λ m is o. o.0) s.3))),
)

pub doubt_stays : (gate : ℕ) (base : Rows) (more : List Changes) (ms ms1 : List Moment) (c c1 : List ℕ) → ShutsSafely gate (seen ms c) (seen ms1 c1) → KeepsNext gate (seen ms c) (seen ms1 c1) NotDone → Stands base more (Doubtful gate) (seen ms c) → SettlesSafely base more (seen ms c) (seen ms1 c1) (Doubtful gate) NotDone
doubt_stays gate base more ms ms1 c c1 safe keeps s =
    (subst (λ (r : Rows). LeavesOnly ms ms1 (IsLeft r more)) s.6 (safe s.0 s.1 s.2 more s.4 s.5 s.3), (s.0, s.1, s.2, keeps s.0 s.1 s.3, s.4, s.5, s.6))

pub closed_settles : (gate : ℕ) (base : Rows) (more : List Changes) (ms ms1 : List Moment) (c c1 : List ℕ) (r : DiskDone) → AddsSync c ms ms1 r → Syncs ms c c1 r → Stands base more (Closed gate) (seen ms c) → SettlesSafely base more (seen ms c) (seen ms1 c1) (Closed gate) r
closed_settles gate base more ms ms1 c c1 Done adds syncs s = (
  sync_leaves ms ms ms1 c Done (IsKnown (Closed gate) s.0) (IsLeft base more) adds (λ m is k. closed_leaves gate s.0 (settled c) base more s.2 (closed_settled s.0 gate m c is k)) s.1 (no_moment ms ms (IsLeft base more) refl),
  settled_closed gate s.0 base more ms1 c1 s.2 (sync_now ms ms1 c c1 (IsKnown (Closed gate) s.0) (Both (Closed gate) s.0) adds syncs (λ m is k all. (closed_settled s.0 gate m c is k, refl)) s.1),
)
closed_settles gate base more ms ms1 c c1 NotDone adds syncs s =
    (no_moment ms ms1 (IsLeft base more) adds, (s.0, unsynced_now ms ms1 c c1 (IsKnown (Closed gate) s.0) adds syncs s.1, s.2))

whole_same : (ms : List Moment) (c c1 : List ℕ) → Now ms c IsWhole → Syncs ms c c1 NotDone → c1 ≡ c
whole_same [] c c1 now syncs = absurd now
whole_same (m ∷ past) c c1 now syncs = only m c1 syncs now.1 ∙ sym (only m c now.0 now.1)

short_now : (ms : List Moment) (c : List ℕ) → Now ms c IsShort → length c ≤ 9
short_now [] c now = absurd now
short_now (m ∷ past) c now = omega (arith, now.0.no_longer, now.1)

pub nothing_settles : (base : Rows) (more : List Changes) (ms ms1 : List Moment) (c c1 : List ℕ) (r : DiskDone) → AddsSync c ms ms1 r → Syncs ms c c1 r → Stands base more Nothing (seen ms c) → SettlesSafely base more (seen ms c) (seen ms1 c1) Nothing r
nothing_settles base more ms ms1 c c1 Done adds syncs (inl s) =
    let same : c1 ≡ c = sync_content ms c c1 IsWhole syncs s.0 in
    let fits = s.1.2 in (
      sync_leaves ms ms ms1 c Done IsWhole (IsLeft base more) adds (λ m is w. settled_leaves c base more (rest_left s.1.0 s.1.1 c base more s.1.2 s.1.3 s.1.4)) s.0 (no_moment ms ms (IsLeft base more) refl),
      (
        s.1.0,
        s.1.1,
        sync_now ms ms1 c c1 IsWhole (Both Nothing s.1.0) adds syncs (λ m is w all. (tt, refl)) s.0,
        subst (λ (l : List ℕ). Fits s.1.0 l s.1.1) (sym same) s.1.2,
        subst (λ (l : List ℕ). IsClosedBy more l s.1.1) (sym same) s.1.3,
        s.1.4,
      ),
    )
nothing_settles base more ms ms1 c c1 Done adds syncs (inr s) =
    let same : c1 ≡ c = sync_content ms c c1 IsShort syncs s.0 in
    let few : length c ≤ 9 = short_now ms c s.0 in
    let few1 : length c1 ≤ 9 = omega (arith, few, ap length same) in (
      sync_leaves ms ms ms1 c Done IsShort (IsLeft base more) adds (λ m is w. short_all base more (settled c) s.1 few) s.0 (no_moment ms ms (IsLeft base more) refl),
      ([], 8, sync_now ms ms1 c c1 IsShort (Both Nothing []) adds syncs (λ m is w all. (tt, refl)) s.0, inl (few1, refl), inl few1, sym s.1),
    )
nothing_settles base more ms ms1 c c1 NotDone adds syncs (inl s) =
    let same : c1 ≡ c = whole_same ms c c1 s.0 syncs in (
      no_moment ms ms1 (IsLeft base more) adds,
      inl (unsynced_now ms ms1 c c1 IsWhole adds syncs s.0, (s.1.0, s.1.1, subst (λ (l : List ℕ). Fits s.1.0 l s.1.1) (sym same) s.1.2, subst (λ (l : List ℕ). IsClosedBy more l s.1.1) (sym same) s.1.3, s.1.4)),
    )
nothing_settles base more ms ms1 c c1 NotDone adds syncs (inr s) =
    (no_moment ms ms1 (IsLeft base more) adds, inr (unsynced_now ms ms1 c c1 IsShort adds syncs s.0, s.1))

-- ---- after the rest of a load

fits_some : (bodies : List (List ℕ)) (c : List ℕ) (gate : ℕ) → Fits bodies c gate → FitsSome bodies c
fits_some bodies c gate (inl p) = inl p
fits_some bodies c gate (inr p) = inr (p.0, gate, p.1, p.2)

-- what was settled stands
settled_stands : (base : Rows) (more : List Changes) (k : Known) (ms : List Moment) (c : List ℕ) → IsDecided k → IsSettled base more k (seen ms c) → Stands base more k (seen ms c)
settled_stands base more Nothing ms c d s = inl (weaker ms c (Both Nothing s.0) IsWhole (λ m is b. b.1) s.2, (s.0, s.1, s.3, s.4, s.5))
settled_stands base more (Closed g) ms c d s = (s.0, weaker ms c (Both (Closed g) s.0) (IsKnown (Closed g) s.0) (λ m is b. b.0) s.2, s.5)
settled_stands base more (Doubtful g) ms c d s = absurd d

module _ (base : Rows) (more : List Changes) (k after : Known) (ms ms1 ms2 : List Moment) (c c1 c2 : List ℕ) (is_decided : IsDecided k) (first : LeavesOnly ms ms1 (IsLeft base more)) (s : IsSettled base more k (seen ms1 c1)) (safe : TakesSafely (seen ms1 c1) (seen ms2 c2)) where
  all_left : LeavesOnly ms ms2 (IsLeft base more)
  all_left =
      then_leaves ms ms1 ms2 (IsLeft base more) first
      (subst (λ (r : Rows). LeavesOnly ms1 ms2 (IsLeft r more)) s.5 (safe s.0 more s.1 (weaker ms1 c1 (Both k s.0) IsWhole (λ m is b. b.1) s.2) s.3 s.4))

  same_stands : after ≡ k → seen ms2 c2 ≡ seen ms1 c1 → Stands base more after (seen ms2 c2)
  same_stands is same = subst (λ (x : Known). Stands base more x (seen ms2 c2)) (sym is) (subst (λ (x : Seen). Stands base more k x) (sym same) (settled_stands base more k ms1 c1 is_decided s))

  pub taken_safe : (o : Loading) → Takes k (seen ms1 c1) (seen ms2 c2) after o → LoadsStill k (seen ms1 c1) (seen ms2 c2) after o → IsSafeLoad base more (seen ms c) (seen ms2 c2) after o
  taken_safe (Found rows) takes still =
      let p = takes s.0 s.2 (fits_some s.0 c1 s.1 s.3) in
      record {
        left = all_left;
        stands = subst (λ (x : Known). Stands base more x (seen ms2 c2)) (sym p.1.1) (s.0, weaker ms2 c2 (IsShut s.0 p.1.0) (IsKnown (Closed p.1.0) s.0) (λ m is t. inl t) p.1.2, s.5);
        gives = p.0 ∙ s.5;
      }
  taken_safe (Damaged place) takes still = absurd (takes.2 s.0 s.2 (fits_some s.0 c1 s.1 s.3))
  taken_safe Failed takes still = record { left = all_left; stands = subst (λ (r : Rows). Stands r more after (seen ms2 c2)) s.5 (still s.0 more s.1 s.2 s.3 s.4); gives = tt }
  taken_safe NoMemory takes still = record { left = all_left; stands = same_stands takes.0 takes.1; gives = tt }

-- a load whose first call failed
pub unsettled_safe : (base : Rows) (more : List Changes) (ms ms1 : List Moment) (c c1 : List ℕ) (after : Known) → SettlesSafely base more (seen ms c) (seen ms1 c1) after NotDone → IsSafeLoad base more (seen ms c) (seen ms1 c1) after Failed
unsettled_safe base more ms ms1 c c1 after s = record { left = s.0; stands = s.1; gives = tt }

-- ---- a gate byte that couldn't be made ready

pub still_unbegun : (known : Known) (gate : ℕ) (ms ms1 : List Moment) (c c1 content : List ℕ) → IsDecided known → (ms ≡ []) ⊎ (content ≡ c) → length content ≤ 9 → Begins (seen ms c) (seen ms1 c1) NotDone → TakesStill known gate (seen ms c) (seen ms1 c1) known NotDone
still_unbegun Nothing gate ms ms1 c c1 content d reads few begins = λ bodies more now fits closed.
    let short : length c ≤ 9 = omega (arith, few, ap length (told_reads ms c content (Both Nothing bodies) reads now)) in
    inr (begins (short_bare ms c (Both Nothing bodies) (λ m p. p.1) short now), ap rows_of (short_bodies bodies c gate short fits))
still_unbegun (Closed place) gate ms ms1 c c1 content d reads few begins = λ bodies more now fits closed.
    let short : length c ≤ 9 = omega (arith, few, ap length (told_reads ms c content (Both (Closed place) bodies) reads now)) in
    let none = short_bodies bodies c gate short fits in
    (bodies, weaker ms1 c1 IsShort (IsKnown (Closed place) bodies) (λ m is s. inr (at_eight place bodies ms c short now, none, s)) (begins (short_bare ms c (Both (Closed place) bodies) (λ m p. p.1) short now)), refl)
still_unbegun (Doubtful place) gate ms ms1 c c1 content d reads few begins = absurd d

-- a disk that couldn't be read
pub unread_still : (k : Known) (s t : Seen) → IsDecided k → t ≡ s → LoadsStill k s t k Failed
unread_still k s t d same = λ bodies more gate now fits closed.
    subst (λ (x : Seen). Stands (rows_of bodies) more k x) (sym same) (settled_stands (rows_of bodies) more k s.moments s.content d (bodies, gate, now, fits, closed, refl))

-- ---- commits

one_more_of : (batch b : Changes) (more : List Changes) → IsOneOf b more → IsOneOf b (batch ∷ more)
one_more_of batch b more is = inr is

module _ (gate : ℕ) (text body : List ℕ) (batch : Changes) (base : Rows) (more : List Changes) (ms ms1 : List Moment) (c c1 : List ℕ) (bodies : List (List ℕ)) (now : Now ms c (IsShut bodies gate)) (rows : rows_of bodies ≡ base) (spelled : text ≡ closed_record body) (is : batch_of body ≡ Some batch) (some : IsSome (batch_of body)) (safe : PutsSafely gate text (seen ms c) (seen ms1 c1)) where
  put_left : LeavesOnly ms ms1 (IsLeft base (batch ∷ more))
  put_left = subst (λ (r : Rows). LeavesOnly ms ms1 (IsLeft r (batch ∷ more))) rows (safe bodies body batch (batch ∷ more) spelled is (inl refl) now)

  pub put_safe_kept : (place : ℕ) → place ≡ gate + length text → Puts gate text (seen ms c) (seen ms1 c1) Kept → IsSafePut base more batch (seen ms c) (seen ms1 c1) (Closed place) Kept
  put_safe_kept place ends puts = record {
    left = put_left;
    stands = (
      bodies ++ body ∷ [],
      subst (λ (k : ℕ). Now ms1 c1 (IsKnown (Closed k) (bodies ++ body ∷ []))) (sym ends) (weaker ms1 c1 (IsShut (bodies ++ body ∷ []) (gate + length text)) (IsKnown (Closed (gate + length text)) (bodies ++ body ∷ [])) (λ m image s. inl s) (puts bodies body spelled some now)),
      rows_more bodies body batch is ∙ ap (applied batch) rows,
    );
  }

  pub put_safe_behind : Puts gate text (seen ms c) (seen ms1 c1) Behind → IsSafePut base more batch (seen ms c) (seen ms1 c1) (Closed gate) Behind
  put_safe_behind puts = record { left = put_left; stands = (bodies, weaker ms1 c1 (IsShut bodies gate) (IsKnown (Closed gate) bodies) (λ m image s. inl s) (puts bodies now), rows) }

  pub put_safe_gate : Puts gate text (seen ms c) (seen ms1 c1) AtGate → IsSafePut base more batch (seen ms c) (seen ms1 c1) (Doubtful gate) AtGate
  put_safe_gate puts = record { left = put_left; stands = (bodies, body, batch, puts bodies body spelled some now, is, inl refl, rows) }

-- the records before a gate byte that can be used are those that stand
usable_stands : (gate : ℕ) (base : Rows) (more : List Changes) (ms : List Moment) (c : List ℕ) → IsReady (Closed gate) (seen ms c) → Stands base more (Closed gate) (seen ms c) → (bodies : List (List ℕ)) × Now ms c (IsShut bodies gate) × (rows_of bodies ≡ base)
usable_stands gate base more ms c (inl none) s = absurd (silent_now ms c (IsKnown (Closed gate) s.0) none s.1)
usable_stands gate base more [] c (inr r) s = absurd r.1
usable_stands gate base more (m ∷ past) c (inr r) s = (r.0, r.1, ap rows_of (same s.1.1) ∙ s.2)
  where
    same : IsKnown (Closed gate) s.0 m → r.0 ≡ s.0
    same (inl shut) =
        let image = r.1.0 in
        let p = shut_records r.0 gate m c r.1.1 image in
        let q = shut_records s.0 gate m c shut image in
        (passes_one r.0 s.0 c 8 gate gate p.0.passes q.0.passes p.0.batches q.0.batches (shut_ends c gate p.1) (shut_ends c gate q.1)).1
    same (inr short) =
        let image = r.1.0 in
        let p = shut_records r.0 gate m c r.1.1 image in
        no_room r.0 c gate p.0.passes (omega (arith, short.0)) ∙ sym short.1

-- a commit by what it did behind a closed gate byte
module _ (gate : ℕ) (text : List ℕ) (ms ms1 : List Moment) (c c1 : List ℕ) (ready : IsReady (Closed gate) (seen ms c)) (safe : PutsSafely gate text (seen ms c) (seen ms1 c1)) where
  pub commits_kept : (place : ℕ) → place ≡ gate + length text → Puts gate text (seen ms c) (seen ms1 c1) Kept
      → (base : Rows) (more : List Changes) (body : List ℕ) (batch : Changes) → text ≡ closed_record body → batch_of body ≡ Some batch → Stands base more (Closed gate) (seen ms c) → IsSafePut base more batch (seen ms c) (seen ms1 c1) (Closed place) Kept
  commits_kept place ends puts base more body batch spelled is s =
      let u = usable_stands gate base more ms c ready s in
      put_safe_kept gate text body batch base more ms ms1 c c1 u.0 u.1 u.2 spelled is (ap is_some is) safe place ends puts

  pub commits_behind : Puts gate text (seen ms c) (seen ms1 c1) Behind
      → (base : Rows) (more : List Changes) (body : List ℕ) (batch : Changes) → text ≡ closed_record body → batch_of body ≡ Some batch → Stands base more (Closed gate) (seen ms c) → IsSafePut base more batch (seen ms c) (seen ms1 c1) (Closed gate) Behind
  commits_behind puts base more body batch spelled is s =
      let u = usable_stands gate base more ms c ready s in
      put_safe_behind gate text body batch base more ms ms1 c c1 u.0 u.1 u.2 spelled is (ap is_some is) safe puts

  pub commits_gate : Puts gate text (seen ms c) (seen ms1 c1) AtGate
      → (base : Rows) (more : List Changes) (body : List ℕ) (batch : Changes) → text ≡ closed_record body → batch_of body ≡ Some batch → Stands base more (Closed gate) (seen ms c) → IsSafePut base more batch (seen ms c) (seen ms1 c1) (Doubtful gate) AtGate
  commits_gate puts base more body batch spelled is s =
      let u = usable_stands gate base more ms c ready s in
      put_safe_gate gate text body batch base more ms ms1 c c1 u.0 u.1 u.2 spelled is (ap is_some is) safe puts

pub stands_at : (base : Rows) (more : List Changes) (known place : Known) (s : Seen) → known ≡ place → Stands base more known s → Stands base more place s
stands_at base more known place s is stands = subst (λ (k : Known). Stands base more k s) is stands

-- a gate byte in doubt is made 0 first
pub doubt_commits : (gate : ℕ) (base : Rows) (more : List Changes) (batch : Changes) (after : Known) (r : Put) (ms ms1 ms2 : List Moment) (c c1 c2 : List ℕ) → ShutsSafely gate (seen ms c) (seen ms1 c1) → Shuts gate (seen ms c) (seen ms1 c1) Done
    → (Stands base more (Closed gate) (seen ms1 c1) → IsSafePut base more batch (seen ms1 c1) (seen ms2 c2) after r) → Stands base more (Doubtful gate) (seen ms c) → IsSafePut base more batch (seen ms c) (seen ms2 c2) after r
doubt_commits gate base more batch after r ms ms1 ms2 c c1 c2 safe shuts puts s =
    let settled_it = (doubt_settles gate base more ms ms1 c c1 safe shuts s).1 in
    let put = puts (settled_it.0, weaker ms1 c1 (Both (Closed gate) settled_it.0) (IsKnown (Closed gate) settled_it.0) (λ m is b. b.0) settled_it.2, settled_it.5) in
    let first = subst (λ (x : Rows). LeavesOnly ms ms1 (IsLeft x (batch ∷ more))) s.6 (safe s.0 s.1 s.2 (batch ∷ more) s.4 (inr s.5) s.3) in
    record { left = then_leaves ms ms1 ms2 (IsLeft base (batch ∷ more)) first put.left; stands = put.stands }

pub doubt_fails : (gate : ℕ) (base : Rows) (more : List Changes) (batch : Changes) (ms ms1 : List Moment) (c c1 : List ℕ) → ShutsSafely gate (seen ms c) (seen ms1 c1) → KeepsNext gate (seen ms c) (seen ms1 c1) NotDone
    → Stands base more (Doubtful gate) (seen ms c) → IsSafePut base more batch (seen ms c) (seen ms1 c1) (Doubtful gate) AtGate
doubt_fails gate base more batch ms ms1 c c1 safe keeps s =
    record {
      left = subst (λ (x : Rows). LeavesOnly ms ms1 (IsLeft x (batch ∷ more))) s.6 (safe s.0 s.1 s.2 (batch ∷ more) s.4 (inr s.5) s.3);
      stands = (s.0, s.1, s.2, keeps s.0 s.1 s.3, s.4, inr s.5, s.6);
    }

-- ---- a gate byte that couldn't be mended

pub still_held : (known : Known) (gate : ℕ) (ms ms1 : List Moment) (c c1 content : List ℕ) → (ms ≡ []) ⊎ (content ≡ c) → 9 < length content → gate < length content → (get_or content gate 0 ≢ 0) → KeepsNext gate (seen ms c) (seen ms1 c1) NotDone → TakesStill known gate (seen ms c) (seen ms1 c1) (Doubtful gate) NotDone
still_held known gate ms ms1 c c1 content reads many within other keeps = λ bodies more now fits closed. by_case bodies more now fits closed
  where
    by_case : (bodies : List (List ℕ)) (more : List Changes) → Now ms c (Both known bodies) → Fits bodies c gate → IsClosedBy more c gate → Stands (rows_of bodies) more (Doubtful gate) (seen ms1 c1)
    by_case bodies more now fits (inl short) = absurd (omega (arith, many, short, ap length (told_reads ms c content (Both known bodies) reads now)))
    by_case bodies more now fits (inr (inl zero)) = absurd (other (ap (λ (l : List ℕ). get_or l gate 0) (told_reads ms c content (Both known bodies) reads now) ∙ zero))
    by_case bodies more now fits (inr (inr next)) =
        let same = told_reads ms c content (Both known bodies) reads now in
        let long : 9 < length c = omega (arith, many, ap length same) in (
          bodies,
          next.0,
          next.1,
          keeps bodies next.0 (weaker ms c (Both known bodies) (IsOpen bodies next.0 gate) (λ m is p. (held_here bodies gate m c is p.1 (long_records bodies c gate long fits) (omega (arith, within, ap length same)), subst (λ (l : List ℕ). HasNext l gate next.0) (only m c is p.1) next.2)) now),
          next.3,
          next.4,
          refl,
        )

pub take_still : (known after : Known) (rows : Rows) (place : ℕ) (ms ms1 : List Moment) (c c1 content : List ℕ) → (ms ≡ []) ⊎ (content ≡ c) → Scans content (Scanned rows place) → TakesStill known place (seen ms c) (seen ms1 c1) after NotDone → LoadsStill known (seen ms c) (seen ms1 c1) after Failed
take_still known after rows place ms ms1 c c1 content reads scans still = λ bodies more gate now fits closed.
    let same = told_reads ms c content (Both known bodies) reads now in
    let p = same_gate bodies more c rows gate place (subst (λ (l : List ℕ). Scans l (Scanned rows place)) same scans) fits closed in
    still bodies more now p.0 p.1

-- ---- what the keeper says of it

stands_more : (base : Rows) (more : List Changes) (batch : Changes) (known : Known) (s : Seen) → Stands base more known s → Stands base (batch ∷ more) known s
stands_more base more batch Nothing s (inl rest) = inl (rest.0, (rest.1.0, rest.1.1, rest.1.2, wider rest.1.3, rest.1.4))
  where
    wider : IsClosedBy more s.content rest.1.1 → IsClosedBy (batch ∷ more) s.content rest.1.1
    wider (inl short) = inl short
    wider (inr (inl zero)) = inr (inl zero)
    wider (inr (inr next)) = inr (inr (next.0, next.1, next.2, next.3, inr next.4))
stands_more base more batch Nothing s (inr short) = inr short
stands_more base more batch (Closed g) s stands = stands
stands_more base more batch (Doubtful g) s stands = (stands.0, stands.1, stands.2, stands.3, stands.4, inr stands.5, stands.6)

-- a commit that did nothing
pub idle_commit : (base : Rows) (more : List Changes) (batch : Changes) (known : Known) (s : Seen) → Stands base more known s → IsSafeCommit base more batch s s known NotKept
idle_commit base more batch known s stands = record { left = no_moment s.moments s.moments (IsLeft base (batch ∷ more)) refl; stands = stands_more base more batch known s stands }

pub room_commit : (base : Rows) (more : List Changes) (batch : Changes) (known : Known) (s : Seen) → Stands base more known s → IsSafeCommit base more batch s s known NoSpace
room_commit base more batch known s stands = record { left = no_moment s.moments s.moments (IsLeft base (batch ∷ more)) refl; stands = stands }

module _ (base : Rows) (more : List Changes) (old new : Seen) (after : Known) where
  pub loaded_found : (rows : Rows) → IsSafeLoad base more old new after (Found rows) → IsSafeLoaded base more old new after (Given rows)
  loaded_found rows load = record { left = load.left; stands = load.stands; gives = load.gives }

  pub loaded_damaged : (place : ℕ) (r : Loaded) → IsSafeLoad base more old new after (Damaged place) → IsSafeLoaded base more old new after r
  loaded_damaged place r load = absurd load.gives

  pub loaded_failed : IsSafeLoad base more old new after Failed → IsSafeLoaded base more old new after NotLoaded
  loaded_failed load = record { left = load.left; stands = load.stands; gives = tt }

  pub loaded_room : IsSafeLoad base more old new after NoMemory → IsSafeLoaded base more old new after NoRoom
  loaded_room load = record { left = load.left; stands = load.stands; gives = tt }

  pub put_kept_commit : (batch : Changes) → IsSafePut base more batch old new after Kept → IsSafeCommit base more batch old new after IsKept
  put_kept_commit batch put = record { left = put.left; stands = put.stands }

  pub put_behind_commit : (batch : Changes) → IsSafePut base more batch old new after Behind → IsSafeCommit base more batch old new after NotKept
  put_behind_commit batch put = record { left = put.left; stands = put.stands }

  pub put_gate_commit : (batch : Changes) → IsSafePut base more batch old new after AtGate → IsSafeCommit base more batch old new after NotKept
  put_gate_commit batch put = record { left = put.left; stands = put.stands }

-- what stands for the keeper, by its parts
pub stands_inside : (base : Rows) (more : List Changes) (a b : JournalState) → a ≡ b → Stands base more b.known (seen b.moments b.content) → Stands base more a.known (seen a.moments a.content)
stands_inside base more a b is stands = subst (λ (s : JournalState). Stands base more s.known (seen s.moments s.content)) (sym is) stands
