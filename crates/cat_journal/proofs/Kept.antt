-- What a keeper over a journal tells after its calls.
use Rattle.std.proofs.Common.{◌≡◌, ◌≢◌, ◌⊎◌, inl, inr, ℕ, ◌+◌, ◌-◌, ◌^◌, ◌<◌, List, [], ◌∷◌, ◌++◌, Option, None, Some, length, refl, sym, ◌∙◌, ap, subst, arith}
use Rattle.std.specs.Prelude.{IsSome, is_some, option_map}
use Rattle.cat_disk.specs.Moments.{Moment}
use Rattle.cat_disk.specs.declared.disk.DiskDone.TheVariants.{Done, Failed as NotDone}
use Rattle.cat_disk.specs.Disk.{StartsWithin}
use Rattle.cat_keeper.specs.Answers.{Stays, Are, Loads, Commits}
use Rattle.cat_keeper.specs.Store.{Changes, Rows, applied}
use Rattle.cat_keeper.specs.declared.keeper.Loaded.{Loaded as KeeperLoaded}
use Rattle.cat_keeper.specs.declared.keeper.Loaded.TheVariants.{Rows as Given, Failed as NotLoaded, NoMemory as NoRoom}
use Rattle.cat_keeper.specs.declared.keeper.Committed.TheVariants.{Kept as Committed, Failed as NotKept}
use Rattle.cat_journal.specs.Parsed.{batch_of}
use Rattle.cat_journal.specs.Batches.{batch_text, IsText}
use Rattle.cat_journal.specs.Records.{Passes, rows_of, bodies_to, closed_record}
use Rattle.cat_journal.specs.Left.{Now, IsShut, IsHeld, IsOpen}
use Rattle.cat_journal.specs.Writes.{Seen, Puts, Shuts}
use Rattle.cat_journal.specs.Loads.{IsKnown, IsSafe, IsFound, decided, LoadsAgain, LoadsFirst}
use Rattle.cat_journal.specs.Keeps.{told, IsUsable, IsReady, PutsKnown, IsDamage}
use Rattle.cat_journal.specs.declared.gate.Put.{Put}
use Rattle.cat_journal.specs.declared.gate.Put.TheVariants.{Kept, Behind, AtGate}
use Rattle.cat_journal.specs.declared.load.Known.{Known}
use Rattle.cat_journal.specs.declared.load.Known.TheVariants.{Nothing, Closed, Doubtful}
use Rattle.cat_journal.specs.declared.load.Loading.TheVariants.{Found as Loaded, Damaged as Harmed, Failed, NoMemory}
use Rattle.cat_journal.proofs.Laws.{text_is_batch}
use Rattle.cat_journal.proofs.Passing.{bodies_back}
use Rattle.cat_journal.proofs.Crash.{passes_same}
use Rattle.cat_journal.proofs.Journals.{shut_records, rows_more}
use Rattle.cat_journal.proofs.Steps.{weaker}
use Rattle.cat_journal.proofs.Takes.{seen}

-- ---- what is told

told_nothing : (known : Known) (c : List ℕ) → told known [] c ≡ None
told_nothing Nothing c = refl
told_nothing (Closed g) c = refl
told_nothing (Doubtful g) c = refl

told_silent : (known : Known) (ms : List Moment) (c : List ℕ) → ms ≡ [] → told known ms c ≡ None
told_silent known ms c is = subst (λ (l : List Moment). told known l c ≡ None) (sym is) (told_nothing known c)

at_eight : (g : ℕ) (c : List ℕ) → g ≡ 8 → bodies_to g c 8 g ≡ []
at_eight g c is = subst (λ (k : ℕ). bodies_to k c 8 k ≡ []) (sym is) refl

pub told_rows : (known : Known) (bodies : List (List ℕ)) (ms : List Moment) (c : List ℕ) → IsFound known → Now ms c (IsKnown known bodies) → told known ms c ≡ Some (rows_of bodies)
told_rows known bodies [] c some now = absurd now
told_rows Nothing bodies (m ∷ past) c some now = absurd some
told_rows (Closed g) bodies (m ∷ past) c some now = by_case now.1
  where
    by_case : IsKnown (Closed g) bodies m → Some (rows_of (bodies_to g c 8 g)) ≡ Some (rows_of bodies)
    by_case (inl shut) = let p = shut_records bodies g m c shut now.0 in ap (λ (bs : List (List ℕ)). Some (rows_of bs)) (bodies_back g bodies c 8 g p.0.passes (omega arith))
    by_case (inr short) = ap (λ (bs : List (List ℕ)). Some (rows_of bs)) (at_eight g c short.0 ∙ sym short.1)
told_rows (Doubtful g) bodies (m ∷ past) c some now =
    let h = now.1 in
    let inside : g < length c = omega (arith, h.inside, now.0.no_shorter) in
    let passes : Passes bodies c 8 g = passes_same bodies m.durable c 8 g h.passes inside (λ i from to. sym (now.0.same i (omega (arith, to, h.inside)) (λ covered. omega (arith, h.alone i covered, to)))) in
    ap (λ (bs : List (List ℕ)). Some (rows_of bs)) (bodies_back g bodies c 8 g passes (omega arith))

-- ---- loads

-- what was told before
told_cases : (known : Known) (ms : List Moment) (c : List ℕ) → IsSafe known (seen ms c) → (known ≡ Nothing) ⊎ ((ms ≡ []) ⊎ (IsFound known × (bodies : List (List ℕ)) × Now ms c (IsKnown known bodies)))
told_cases Nothing ms c safe = inl refl
told_cases (Closed g) ms c (small, inl none) = inr (inl none)
told_cases (Closed g) ms c (small, inr some) = inr (inr (tt, some.0, some.1))
told_cases (Doubtful g) ms c (small, inl none) = inr (inl none)
told_cases (Doubtful g) ms c (small, inr some) = inr (inr (tt, some.0, some.1))

untold : (known : Known) (ms : List Moment) (c : List ℕ) → (known ≡ Nothing) ⊎ (ms ≡ []) → told known ms c ≡ None
untold known ms c (inl none) = ap (λ (k : Known). told k ms c) none
untold known ms c (inr none) = told_silent known ms c none

module _ (known after : Known) (ms ms1 : List Moment) (c c1 : List ℕ) (safe : IsSafe known (seen ms c)) (silent : ms ≡ [] → ms1 ≡ []) where
  gives_new : (rows : Rows) → LoadsFirst known (seen ms c) (seen ms1 c1) after (Loaded rows) → Are (told after ms1 c1) rows
  gives_new rows first = by_told ms refl
    where
      by_told : (l : List Moment) → ms ≡ l → Are (told after ms1 c1) rows
      by_told [] is = subst (λ (o : Option Rows). Are o rows) (sym (told_silent after ms1 c1 (silent is))) tt
      by_told (m ∷ past) is =
          let differs : ms ≢ [] = λ none. not_none is none in
          let p = first differs in
          let tells : told after ms1 c1 ≡ Some (rows_of p.0) = ap (λ (k : Known). told k ms1 c1) p.3 ∙ told_rows (Closed p.2) p.0 ms1 c1 tt (weaker ms1 c1 (IsShut p.0 p.2) (IsKnown (Closed p.2) p.0) (λ n image s. inl s) p.4) in
          subst (λ (o : Option Rows). Are o rows) (sym tells) (sym p.1)
        where
          not_none : ms ≡ m ∷ past → ms ≡ [] → ⊥
          not_none e none = cc

  pub found_tables : (rows : Rows) → LoadsAgain known (seen ms c) (seen ms1 c1) after (Loaded rows) → LoadsFirst known (seen ms c) (seen ms1 c1) after (Loaded rows) → Loads (told known ms c) (told after ms1 c1) (Given rows)
  found_tables rows again first = by_case (told_cases known ms c safe)
    where
      none : told known ms c ≡ None → Loads (told known ms c) (told after ms1 c1) (Given rows)
      none e = subst (λ (o : Option Rows). Loads o (told after ms1 c1) (Given rows)) (sym e) (tt, tt, gives_new rows first)

      by_case : (known ≡ Nothing) ⊎ ((ms ≡ []) ⊎ (IsFound known × (bodies : List (List ℕ)) × Now ms c (IsKnown known bodies))) → Loads (told known ms c) (told after ms1 c1) (Given rows)
      by_case (inl p) = none (untold known ms c (inl p))
      by_case (inr (inl p)) = none (untold known ms c (inr p))
      by_case (inr (inr p)) =
          let q = again p.0 p.1 p.2 in
          let before : told known ms c ≡ Some (rows_of p.1) = told_rows known p.1 ms c p.0 p.2 in
          let now_it : told after ms1 c1 ≡ Some (rows_of p.1) = ap (λ (k : Known). told k ms1 c1) q.1.1 ∙ told_rows (Closed q.1.0) p.1 ms1 c1 tt (weaker ms1 c1 (IsShut p.1 q.1.0) (IsKnown (Closed q.1.0) p.1) (λ n image s. inl s) q.1.2) in
          subst (λ (o : Option Rows). Loads o (told after ms1 c1) (Given rows)) (sym before) (now_it, sym q.0, subst (λ (o : Option Rows). Are o rows) (sym now_it) (sym q.0))

  pub harmed_tables : (place : ℕ) (rows : Rows) → LoadsAgain known (seen ms c) (seen ms1 c1) after (Harmed place) → LoadsFirst known (seen ms c) (seen ms1 c1) after (Harmed place) → Loads (told known ms c) (told after ms1 c1) (Given rows)
  harmed_tables place rows again first = by_case (told_cases known ms c safe)
    where
      none : told known ms c ≡ None → told after ms1 c1 ≡ None → Loads (told known ms c) (told after ms1 c1) (Given rows)
      none e f = subst (λ (o : Option Rows). Loads o (told after ms1 c1) (Given rows)) (sym e) (tt, tt, subst (λ (o : Option Rows). Are o rows) (sym f) tt)

      by_case : (known ≡ Nothing) ⊎ ((ms ≡ []) ⊎ (IsFound known × (bodies : List (List ℕ)) × Now ms c (IsKnown known bodies))) → Loads (told known ms c) (told after ms1 c1) (Given rows)
      by_case (inl p) = none (untold known ms c (inl p)) (untold after ms1 c1 (inl (first ∙ ap decided p)))
      by_case (inr (inl p)) = none (untold known ms c (inr p)) (told_silent after ms1 c1 (silent p))
      by_case (inr (inr p)) = absurd (again p.0 p.1 p.2)

  stays : ((bodies : List (List ℕ)) → IsFound known → Now ms c (IsKnown known bodies) → Now ms1 c1 (IsKnown after bodies) × IsFound after) → Stays (told known ms c) (told after ms1 c1)
  stays keeps = by_case (told_cases known ms c safe)
    where
      none : told known ms c ≡ None → Stays (told known ms c) (told after ms1 c1)
      none e = subst (λ (o : Option Rows). Stays o (told after ms1 c1)) (sym e) tt

      by_case : (known ≡ Nothing) ⊎ ((ms ≡ []) ⊎ (IsFound known × (bodies : List (List ℕ)) × Now ms c (IsKnown known bodies))) → Stays (told known ms c) (told after ms1 c1)
      by_case (inl p) = none (untold known ms c (inl p))
      by_case (inr (inl p)) = none (untold known ms c (inr p))
      by_case (inr (inr p)) =
          let q = keeps p.1 p.0 p.2 in
          subst (λ (o : Option Rows). Stays o (told after ms1 c1)) (sym (told_rows known p.1 ms c p.0 p.2)) (told_rows after p.1 ms1 c1 q.1 q.0)

  pub failed_tables : LoadsAgain known (seen ms c) (seen ms1 c1) after Failed → Stays (told known ms c) (told after ms1 c1)
  failed_tables again = stays (λ bodies some now. again some bodies now)

  pub room_tables : LoadsAgain known (seen ms c) (seen ms1 c1) after NoMemory → Stays (told known ms c) (told after ms1 c1)
  room_tables again = stays (λ bodies some now. again some bodies now)

  -- damage that there was no memory to hand up
  pub harmed_stays : (place : ℕ) → LoadsAgain known (seen ms c) (seen ms1 c1) after (Harmed place) → Stays (told known ms c) (told after ms1 c1)
  harmed_stays place again = stays (λ bodies some now. absurd (again some bodies now))

-- after a good load a record can be put
pub found_ready : (known after : Known) (ms ms1 : List Moment) (c c1 : List ℕ) (rows : Rows) → (ms ≡ [] → ms1 ≡ []) → LoadsFirst known (seen ms c) (seen ms1 c1) after (Loaded rows) → IsSafe after (seen ms1 c1) → IsFound after → IsReady after (seen ms1 c1)
found_ready known after ms ms1 c c1 rows silent first safe found = by_told ms refl
  where
    by_told : (l : List Moment) → ms ≡ l → IsReady after (seen ms1 c1)
    by_told [] is = quiet after found (silent is)
      where
        quiet : (k : Known) → IsFound k → ms1 ≡ [] → IsReady k (seen ms1 c1)
        quiet Nothing some none = some
        quiet (Closed g) some none = inl none
        quiet (Doubtful g) some none = inl none
    by_told (m ∷ past) is =
        let p = first (λ none. not_none is none) in
        subst (λ (k : Known). IsReady k (seen ms1 c1)) (sym p.3) (inr (p.0, p.4))
      where
        not_none : ms ≡ m ∷ past → ms ≡ [] → ⊥
        not_none e none = cc

-- ---- commits

usable_known : (known : Known) (bodies : List (List ℕ)) (m : Moment) → IsUsable known bodies m → IsKnown known bodies m
usable_known Nothing bodies m u = tt
usable_known (Closed g) bodies m u = inl u
usable_known (Doubtful g) bodies m u = u

usable_found : (known : Known) (bodies : List (List ℕ)) (ms : List Moment) (c : List ℕ) → Now ms c (IsUsable known bodies) → IsFound known
usable_found known bodies [] c now = absurd now
usable_found Nothing bodies (m ∷ past) c now = now.1
usable_found (Closed g) bodies (m ∷ past) c now = tt
usable_found (Doubtful g) bodies (m ∷ past) c now = tt

told_usable : (known : Known) (bodies : List (List ℕ)) (ms : List Moment) (c : List ℕ) → Now ms c (IsUsable known bodies) → told known ms c ≡ Some (rows_of bodies)
told_usable known bodies ms c now = told_rows known bodies ms c (usable_found known bodies ms c now) (weaker ms c (IsUsable known bodies) (IsKnown known bodies) (λ m is u. usable_known known bodies m u) now)

-- nothing is told, or the records are known
ready_cases : (known : Known) (ms : List Moment) (c : List ℕ) → IsReady known (seen ms c) → (ms ≡ []) ⊎ ((bodies : List (List ℕ)) × Now ms c (IsUsable known bodies))
ready_cases Nothing ms c ready = absurd ready
ready_cases (Closed g) ms c (inl none) = inl none
ready_cases (Closed g) ms c (inr some) = inr some
ready_cases (Doubtful g) ms c (inl none) = inl none
ready_cases (Doubtful g) ms c (inr some) = inr some

module _ (known after : Known) (ms ms1 : List Moment) (c c1 : List ℕ) (ready : IsReady known (seen ms c)) (silent : ms ≡ [] → ms1 ≡ []) (text : List ℕ) (batch : Changes) (spelled : text ≡ closed_record (batch_text batch)) (is_text : IsText batch (batch_text batch)) where
  a_batch : batch_of (batch_text batch) ≡ Some batch
  a_batch = text_is_batch (batch_text batch) batch is_text

  pub kept_tables : PutsKnown known text (seen ms c) (seen ms1 c1) after Kept → Commits (told known ms c) (told after ms1 c1) Committed batch
  kept_tables puts = by_case (ready_cases known ms c ready)
    where
      by_case : (ms ≡ []) ⊎ ((bodies : List (List ℕ)) × Now ms c (IsUsable known bodies)) → told after ms1 c1 ≡ option_map (applied batch) (told known ms c)
      by_case (inl none) = told_silent after ms1 c1 (silent none) ∙ ap (option_map (applied batch)) (sym (told_silent known ms c none))
      by_case (inr p) =
          told_usable after (p.0 ++ batch_text batch ∷ []) ms1 c1 (puts p.0 (batch_text batch) spelled (ap is_some a_batch) p.1)
          ∙ ap Some (rows_more p.0 (batch_text batch) batch a_batch)
          ∙ ap (option_map (applied batch)) (sym (told_usable known p.0 ms c p.1))

  same_tables : ((bodies : List (List ℕ)) → Now ms c (IsUsable known bodies) → Now ms1 c1 (IsUsable after bodies)) → told after ms1 c1 ≡ told known ms c
  same_tables keeps = by_case (ready_cases known ms c ready)
    where
      by_case : (ms ≡ []) ⊎ ((bodies : List (List ℕ)) × Now ms c (IsUsable known bodies)) → told after ms1 c1 ≡ told known ms c
      by_case (inl none) = told_silent after ms1 c1 (silent none) ∙ sym (told_silent known ms c none)
      by_case (inr p) = told_usable after p.0 ms1 c1 (keeps p.0 p.1) ∙ sym (told_usable known p.0 ms c p.1)

  pub unkept_tables : (r : Put) → (r ≡ Kept → ⊥) → PutsKnown known text (seen ms c) (seen ms1 c1) after r → Commits (told known ms c) (told after ms1 c1) NotKept batch
  unkept_tables Kept other puts = absurd (other refl)
  unkept_tables Behind other puts = same_tables (λ bodies now. puts bodies (batch_text batch) spelled (ap is_some a_batch) now)
  unkept_tables AtGate other puts = same_tables (λ bodies now. puts bodies (batch_text batch) spelled (ap is_some a_batch) now)

-- ---- a record is put behind what is known

pub closed_start : (gate : ℕ) (ms : List Moment) (c : List ℕ) → IsReady (Closed gate) (seen ms c) → StartsWithin ms c (gate + 1)
closed_start gate ms c (inl none) = subst (λ (l : List Moment). StartsWithin l c (gate + 1)) (sym none) tt
closed_start gate ms c (inr some) = inside ms some.1
  where
    inside : (l : List Moment) → Now l c (IsShut some.0 gate) → StartsWithin l c (gate + 1)
    inside [] now = tt
    inside (m ∷ past) now = omega (arith, now.1.inside, now.0.no_shorter)

module _ (gate place : ℕ) (ms ms1 : List Moment) (c c1 text : List ℕ) (ends : place ≡ gate + length text) where
  pub puts_kept : Puts gate text (seen ms c) (seen ms1 c1) Kept → PutsKnown (Closed gate) text (seen ms c) (seen ms1 c1) (Closed place) Kept
  puts_kept puts = λ bodies body spelled batch now. subst (λ (k : ℕ). Now ms1 c1 (IsShut (bodies ++ body ∷ []) k)) (sym ends) (puts bodies body spelled batch now)

  pub kept_ready : (body : List ℕ) → text ≡ closed_record body → IsSome (batch_of body) → IsReady (Closed gate) (seen ms c) → (ms ≡ [] → ms1 ≡ []) → Puts gate text (seen ms c) (seen ms1 c1) Kept → IsReady (Closed place) (seen ms1 c1)
  kept_ready body spelled batch (inl none) silent puts = inl (silent none)
  kept_ready body spelled batch (inr some) silent puts = inr (some.0 ++ body ∷ [], puts_kept puts some.0 body spelled batch some.1)

pub behind_ready : (gate : ℕ) (ms ms1 : List Moment) (c c1 text : List ℕ) → IsReady (Closed gate) (seen ms c) → (ms ≡ [] → ms1 ≡ []) → Puts gate text (seen ms c) (seen ms1 c1) Behind → IsReady (Closed gate) (seen ms1 c1)
behind_ready gate ms ms1 c c1 text (inl none) silent puts = inl (silent none)
behind_ready gate ms ms1 c c1 text (inr some) silent puts = inr (some.0, puts some.0 some.1)

pub puts_behind : (gate : ℕ) (ms ms1 : List Moment) (c c1 text : List ℕ) → Puts gate text (seen ms c) (seen ms1 c1) Behind → PutsKnown (Closed gate) text (seen ms c) (seen ms1 c1) (Closed gate) Behind
puts_behind gate ms ms1 c c1 text puts = λ bodies body spelled batch now. puts bodies now

pub gate_ready : (gate : ℕ) (ms ms1 : List Moment) (c c1 text body : List ℕ) → text ≡ closed_record body → IsSome (batch_of body) → IsReady (Closed gate) (seen ms c) → (ms ≡ [] → ms1 ≡ []) → Puts gate text (seen ms c) (seen ms1 c1) AtGate → IsReady (Doubtful gate) (seen ms1 c1)
gate_ready gate ms ms1 c c1 text body spelled batch (inl none) silent puts = inl (silent none)
gate_ready gate ms ms1 c c1 text body spelled batch (inr some) silent puts =
    inr (some.0, weaker ms1 c1 (IsOpen some.0 body gate) (IsHeld some.0 gate) (λ m is o. o.0) (puts some.0 body spelled batch some.1))

pub puts_gate : (gate : ℕ) (ms ms1 : List Moment) (c c1 text : List ℕ) → Puts gate text (seen ms c) (seen ms1 c1) AtGate → PutsKnown (Closed gate) text (seen ms c) (seen ms1 c1) (Doubtful gate) AtGate
puts_gate gate ms ms1 c c1 text puts = λ bodies body spelled batch now.
    weaker ms1 c1 (IsOpen bodies body gate) (IsHeld bodies gate) (λ m is o. o.0) (puts bodies body spelled batch now)

-- what can be put behind is safe
pub closed_safe : (gate : ℕ) (ms : List Moment) (c : List ℕ) → gate < 2 ^ 64 - 1 → IsReady (Closed gate) (seen ms c) → IsSafe (Closed gate) (seen ms c)
closed_safe gate ms c small (inl none) = (small, inl none)
closed_safe gate ms c small (inr some) = (small, inr (some.0, weaker ms c (IsShut some.0 gate) (IsKnown (Closed gate) some.0) (λ m is s. inl s) some.1))

pub doubt_safe : (gate : ℕ) (ms : List Moment) (c : List ℕ) → gate < 2 ^ 64 - 1 → IsReady (Doubtful gate) (seen ms c) → IsSafe (Doubtful gate) (seen ms c)
doubt_safe gate ms c small (inl none) = (small, inl none)
doubt_safe gate ms c small (inr some) = (small, inr some)

-- a gate byte that was in doubt
pub shut_ready : (gate : ℕ) (ms ms1 : List Moment) (c c1 : List ℕ) → IsReady (Doubtful gate) (seen ms c) → (ms ≡ [] → ms1 ≡ []) → Shuts gate (seen ms c) (seen ms1 c1) Done → IsReady (Closed gate) (seen ms1 c1)
shut_ready gate ms ms1 c c1 (inl none) silent shuts = inl (silent none)
shut_ready gate ms ms1 c c1 (inr some) silent shuts = inr (some.0, weaker ms1 c1 (λ m. IsShut some.0 gate m × (m.pending ≡ [])) (IsShut some.0 gate) (λ m is p. p.0) (shuts some.0 some.1))

pub doubt_puts : (gate : ℕ) (after : Known) (ms ms1 ms2 : List Moment) (c c1 c2 text : List ℕ) (r : Put) → Shuts gate (seen ms c) (seen ms1 c1) Done → PutsKnown (Closed gate) text (seen ms1 c1) (seen ms2 c2) after r → PutsKnown (Doubtful gate) text (seen ms c) (seen ms2 c2) after r
doubt_puts gate after ms ms1 ms2 c c1 c2 text r shuts puts = by_put r puts
  where
    mended : (bodies : List (List ℕ)) → Now ms c (IsHeld bodies gate) → Now ms1 c1 (IsShut bodies gate)
    mended bodies now = weaker ms1 c1 (λ m. IsShut bodies gate m × (m.pending ≡ [])) (IsShut bodies gate) (λ m is p. p.0) (shuts bodies now)

    by_put : (q : Put) → PutsKnown (Closed gate) text (seen ms1 c1) (seen ms2 c2) after q → PutsKnown (Doubtful gate) text (seen ms c) (seen ms2 c2) after q
    by_put Kept p = λ bodies body spelled batch now. p bodies body spelled batch (mended bodies now)
    by_put Behind p = λ bodies body spelled batch now. p bodies body spelled batch (mended bodies now)
    by_put AtGate p = λ bodies body spelled batch now. p bodies body spelled batch (mended bodies now)

-- the same of what is known by an equation
pub ready_at : (known place : Known) (s : Seen) → known ≡ place → IsReady known s → IsReady place s
ready_at known place s is ready = subst (λ (k : Known). IsReady k s) is ready

pub puts_at : (known place after : Known) (s t : Seen) (text : List ℕ) (r : Put) → known ≡ place → PutsKnown place text s t after r → PutsKnown known text s t after r
puts_at known place after s t text r is puts = subst (λ (k : Known). PutsKnown k text s t after r) (sym is) puts

pub doubt_still : (gate : ℕ) (ms ms1 : List Moment) (c c1 text : List ℕ) → Shuts gate (seen ms c) (seen ms1 c1) NotDone → PutsKnown (Doubtful gate) text (seen ms c) (seen ms1 c1) (Doubtful gate) AtGate
doubt_still gate ms ms1 c c1 text shuts = λ bodies body spelled batch now. shuts bodies now

pub held_ready : (gate : ℕ) (ms ms1 : List Moment) (c c1 : List ℕ) → IsReady (Doubtful gate) (seen ms c) → (ms ≡ [] → ms1 ≡ []) → Shuts gate (seen ms c) (seen ms1 c1) NotDone → IsReady (Doubtful gate) (seen ms1 c1)
held_ready gate ms ms1 c c1 (inl none) silent shuts = inl (silent none)
held_ready gate ms ms1 c c1 (inr some) silent shuts = inr (some.0, shuts some.0 some.1)

-- damage as it is handed up
pub damage_tables : (known after : Known) (ms ms1 : List Moment) (c c1 : List ℕ) (safe : IsSafe known (seen ms c)) (silent : ms ≡ [] → ms1 ≡ []) (place : ℕ) (r : KeeperLoaded) → IsDamage place r
    → LoadsAgain known (seen ms c) (seen ms1 c1) after (Harmed place) → LoadsFirst known (seen ms c) (seen ms1 c1) after (Harmed place) → Loads (told known ms c) (told after ms1 c1) r
damage_tables known after ms ms1 c c1 safe silent place (Given rows) is again first = harmed_tables known after ms ms1 c c1 safe silent place rows again first
damage_tables known after ms ms1 c c1 safe silent place NotLoaded is again first = absurd is
damage_tables known after ms ms1 c c1 safe silent place NoRoom is again first = harmed_stays known after ms ms1 c c1 safe silent place again

pub damage_cause : (place : ℕ) (r : KeeperLoaded) (P : Type 0) → IsDamage place r → r ≡ NotLoaded → P
damage_cause place r P is failed = absurd (subst (IsDamage place) failed is)
