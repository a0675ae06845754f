-- How the records of a journal follow one another.
use Rattle.std.proofs.Common.{◌≡◌, ℕ, zero, suc, ◌+◌, ◌<◌, ◌≤◌, List, [], ◌∷◌, ◌++◌, Option, None, Some, length, drop, refl, sym, ◌∙◌, ap, subst, inl, inr, arith, length-drop}
use Rattle.std.specs.Prelude.{IsSome}
use Rattle.std.proofs.lemmas.Bool.Decides.{nat_tests}
use Rattle.std.proofs.lemmas.List.{length-take-le}
use Rattle.cat_keeper.specs.Store.{Rows}
use Rattle.cat_journal.specs.Parsed.{batch_of}
use Rattle.cat_journal.specs.declared.records.Gate.TheVariants.{Shut, Open}
use Rattle.cat_journal.specs.declared.records.Scanned.{Scanned}
use Rattle.cat_journal.specs.declared.records.Scanned.TheVariants.{Found, Damaged}
use Rattle.cat_journal.specs.Records.{gate_of, count_at, body_at, Passes, AreBatches, after_batch, rows_after, rows_of, HasRecords, IsRefusedAt, Scans, bodies_to}

-- one record more
pub passes-push : (bodies : List (List ℕ)) (content : List ℕ) (at mid end : ℕ) (body : List ℕ) → Passes bodies content at mid → gate_of content mid ≡ Open (length body) → body_at content mid ≡ body → end ≡ mid + 9 + length body → Passes (bodies ++ body ∷ []) content at end
passes-push [] content at mid end body is opens stands ends = rw is (opens, stands, sym ends)
passes-push (b ∷ bodies) content at mid end body is opens stands ends = (is.0, is.1, passes-push bodies content (at + 9 + length b) mid end body is.2 opens stands ends)

pub batches-push : (bodies : List (List ℕ)) (body : List ℕ) → AreBatches bodies → IsSome (batch_of body) → AreBatches (bodies ++ body ∷ [])
batches-push [] body are is = (is, tt)
batches-push (b ∷ bodies) body are is = (are.0, batches-push bodies body are.1 is)

pub rows-push : (bodies : List (List ℕ)) (body : List ℕ) (rows : Rows) → rows_after (bodies ++ body ∷ []) rows ≡ after_batch (batch_of body) (rows_after bodies rows)
rows-push [] body rows = refl
rows-push (b ∷ bodies) body rows = rows-push bodies body (after_batch (batch_of b) rows)

-- what an open gate byte says
pub opened_count : (content : List ℕ) (at n : ℕ) → gate_of content at ≡ Open n → n ≡ count_at content at
opened_count content at n is = grind (arith, nat_tests, is)

pub opened_inside : (content : List ℕ) (at n : ℕ) → gate_of content at ≡ Open n → at + 9 + n < length content
opened_inside content at n is = grind (arith, nat_tests, is)

pub opened_body : (content : List ℕ) (at n : ℕ) → gate_of content at ≡ Open n → length (body_at content at) ≡ n
opened_body content at n is =
    let inside = opened_inside content at n is in
    let count = opened_count content at n is in
    length-take-le (count_at content at) (drop (at + 9) content) (omega (arith, inside, count, length-drop (at + 9) content)) ∙ sym count

pub records-open : (content : List ℕ) (bodies : List (List ℕ)) (at n end : ℕ) → gate_of content at ≡ Open n → IsSome (batch_of (body_at content at)) → end ≡ at + (9 + n) → HasRecords content bodies at → HasRecords content (bodies ++ body_at content at ∷ []) end
records-open content bodies at n end opens batch ends has =
    let long = opened_body content at n opens in
    record {
      headed = has.headed;
      passes = passes-push bodies content 8 at end (body_at content at) has.passes (opens ∙ ap Open (sym long)) refl (omega (arith, ends, long));
      batches = batches-push bodies (body_at content at) has.batches batch;
    }

-- a further step of a scan
pub scan_step : (content : List ℕ) (at n end : ℕ) (old new : Rows) → gate_of content at ≡ Open n → IsSome (batch_of (body_at content at)) → new ≡ after_batch (batch_of (body_at content at)) old → end ≡ at + (9 + n)
    → (bodies : List (List ℕ)) × HasRecords content bodies at × (old ≡ rows_of bodies) → (bodies : List (List ℕ)) × HasRecords content bodies end × (new ≡ rows_of bodies)
scan_step content at n end old new opens batch is ends so_far = (
  so_far.0 ++ body_at content at ∷ [],
  records-open content so_far.0 at n end opens batch ends so_far.1,
  is ∙ (ap (after_batch (batch_of (body_at content at))) so_far.2 ∙ sym (rows-push so_far.0 (body_at content at) [])),
)

-- no record of a batch stands behind this gate byte
abbrev pub Ends : List ℕ → ℕ → Type 0
Ends c g = (n : ℕ) → gate_of c g ≡ Open n → IsSome (batch_of (body_at c g)) → ⊥

-- the records are determined, and so is where they end
pub passes_one : (es bs : List (List ℕ)) (c : List ℕ) (at g h : ℕ) → Passes es c at g → Passes bs c at h → AreBatches es → AreBatches bs → Ends c g → Ends c h → (g ≡ h) × (es ≡ bs)
passes_one [] [] c at g h p q are those end_g end_h = (sym p ∙ q, refl)
passes_one [] (b ∷ bs) c at g h p q are those end_g end_h =
    absurd (end_g (length b) (ap (gate_of c) (sym p) ∙ q.0) (subst (λ (x : List ℕ). IsSome (batch_of x)) (sym (ap (body_at c) (sym p) ∙ q.1)) those.0))
passes_one (a ∷ es) [] c at g h p q are those end_g end_h =
    absurd (end_h (length a) (ap (gate_of c) (sym q) ∙ p.0) (subst (λ (x : List ℕ). IsSome (batch_of x)) (sym (ap (body_at c) (sym q) ∙ p.1)) are.0))
passes_one (a ∷ es) (b ∷ bs) c at g h p q are those end_g end_h =
    let same : a ≡ b = sym p.1 ∙ q.1 in
    let rest = passes_one es bs c (at + 9 + length a) g h p.2 (subst (λ (l : List ℕ). Passes bs c (at + 9 + length l) h) (sym same) q.2) are.1 those.1 end_g end_h in
    (rest.0, ap (λ (l : List ℕ). l ∷ es) same ∙ ap (λ (l : List (List ℕ)). b ∷ l) rest.1)

-- where a gate byte is shut, or refused, the records end
pub shut_ends : (c : List ℕ) (g : ℕ) → gate_of c g ≡ Shut → Ends c g
shut_ends c g is n opens batch = grind (arith, is, opens)

none_some : {A : Type 0} (o : Option A) → o ≡ None → IsSome o → ⊥
none_some None is some = cc
none_some (Some x) is some = cc

refused_ends : (c : List ℕ) (g : ℕ) → IsRefusedAt c g → Ends c g
refused_ends c g (inl broken) n opens batch = grind (arith, broken, opens)
refused_ends c g (inr refused) n opens batch = none_some (batch_of (body_at c g)) refused.2 batch

differ : (c : List ℕ) (g : ℕ) → gate_of c g ≡ Shut → IsRefusedAt c g → ⊥
differ c g is (inl broken) = grind (arith, is, broken)
differ c g is (inr refused) = let opens = refused.1 in grind (arith, is, opens)

-- bytes are scanned in one way
pub scans_one : (c : List ℕ) (x y : Scanned) → Scans c x → Scans c y → x ≡ y
scans_one c (Found r g) (Found s h) (inl p) (inl q) = λ i. Found ((p.1 ∙ sym q.1) i) ((p.2 ∙ sym q.2) i)
scans_one c (Found r g) (Found s h) (inl p) (inr q) = absurd (omega (arith, p.0, q.0))
scans_one c (Found r g) (Found s h) (inr p) (inl q) = absurd (omega (arith, q.0, p.0))
scans_one c (Found r g) (Found s h) (inr p) (inr q) =
    let same = passes_one p.1 q.1 c 8 g h p.2.passes q.2.passes p.2.batches q.2.batches (shut_ends c g p.3) (shut_ends c h q.3) in
    λ i. Found ((p.4 ∙ (ap rows_of same.1 ∙ sym q.4)) i) (same.0 i)
scans_one c (Found r g) (Damaged h) (inl p) q = absurd (omega (arith, p.0, q.0))
scans_one c (Found r g) (Damaged h) (inr p) (long, inl q) = absurd (q.0 p.2.headed)
scans_one c (Found r g) (Damaged h) (inr p) (long, inr q) =
    let same = (passes_one p.1 q.0 c 8 g h p.2.passes q.1.passes p.2.batches q.1.batches (shut_ends c g p.3) (refused_ends c h q.2)).0 in
    absurd (differ c h (ap (gate_of c) (sym same) ∙ p.3) q.2)
scans_one c (Damaged g) (Found s h) p (inl q) = absurd (omega (arith, q.0, p.0))
scans_one c (Damaged g) (Found s h) (long, inl p) (inr q) = absurd (p.0 q.2.headed)
scans_one c (Damaged g) (Found s h) (long, inr p) (inr q) =
    let same = (passes_one p.0 q.1 c 8 g h p.1.passes q.2.passes p.1.batches q.2.batches (refused_ends c g p.2) (shut_ends c h q.3)).0 in
    absurd (differ c g (ap (gate_of c) same ∙ q.3) p.2)
scans_one c (Damaged g) (Damaged h) (l, inl p) (m, inl q) = ap Damaged (p.1 ∙ sym q.1)
scans_one c (Damaged g) (Damaged h) (l, inl p) (m, inr q) = absurd (p.0 q.1.headed)
scans_one c (Damaged g) (Damaged h) (l, inr p) (m, inl q) = absurd (q.0 p.1.headed)
scans_one c (Damaged g) (Damaged h) (l, inr p) (m, inr q) =
    ap Damaged (passes_one p.0 q.0 c 8 g h p.1.passes q.1.passes p.1.batches q.1.batches (refused_ends c g p.2) (refused_ends c h q.2)).0

-- the bodies of the records up to a gate byte are found again
at_end : (most : ℕ) (c : List ℕ) (at end : ℕ) → at ≡ end → bodies_to most c at end ≡ []
at_end zero c at end is = refl
at_end (suc most) c at end is = grind (arith, nat_tests, is)

pub passes_ahead : (bodies : List (List ℕ)) (c : List ℕ) (at end : ℕ) → Passes bodies c at end → at ≤ end
passes_ahead [] c at end is = omega (arith, is)
passes_ahead (b ∷ bodies) c at end is = omega (arith, passes_ahead bodies c (at + 9 + length b) end is.2)

further : (most : ℕ) (c : List ℕ) (at end : ℕ) → at < end → bodies_to (suc most) c at end ≡ body_at c at ∷ bodies_to most c (at + 9 + count_at c at) end
further most c at end is = grind (arith, nat_tests, is)

pub bodies_back : (most : ℕ) (bodies : List (List ℕ)) (c : List ℕ) (at end : ℕ) → Passes bodies c at end → end ≤ at + most → bodies_to most c at end ≡ bodies
bodies_back most [] c at end is near = at_end most c at end is
bodies_back zero (b ∷ bodies) c at end is near = absurd (omega (arith, near, passes_ahead bodies c (at + 9 + length b) end is.2))
bodies_back (suc most) (b ∷ bodies) c at end is near =
    let ahead = passes_ahead bodies c (at + 9 + length b) end is.2 in
    let count = opened_count c at (length b) is.0 in
    further most c at end (omega (arith, ahead))
    ∙ (ap (λ (l : List ℕ). l ∷ bodies_to most c (at + 9 + count_at c at) end) is.1
    ∙ ap (λ (l : List (List ℕ)). b ∷ l)
    (ap (λ (k : ℕ). bodies_to most c (at + 9 + k) end) (sym count) ∙ bodies_back most bodies c (at + 9 + length b) end is.2 (omega (arith, near))))
