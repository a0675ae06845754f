-- What a crash leaves of a journal: while a record is written behind a shut gate, and while the gate is written.
use Rattle.std.proofs.Common.{◌≡◌, ◌≢◌, ◌⊎◌, inl, inr, ℕ, ◌+◌, ◌<◌, ◌≤◌, List, [], ◌∷◌, ◌++◌, length, take, drop, get_or, sym, ◌∙◌, ap, arith, length-drop}
use Rattle.std.proofs.lemmas.Bool.{cases_eq}
use Rattle.std.proofs.lemmas.Bool.Decides.{nat_tests}
use Rattle.std.proofs.lemmas.List.{length-take-le, ext_get_or, get_or-take, get_or-drop}
use Rattle.std.specs.Int.{from_be_bytes, w64}
use Rattle.cat_disk.specs.Moments.{Moment, Covers, IsImage}
use Rattle.cat_journal.specs.declared.records.Gate.TheVariants.{Shut, Open}
use Rattle.cat_journal.specs.Records.{gate_of, count_at, body_at, Passes}
use Rattle.cat_journal.proofs.Passing.{opened_count, opened_inside, passes_ahead, passes-push}

-- the same bytes in a range
abbrev pub Agree : ℕ → ℕ → List ℕ → List ℕ → Type 0
Agree from end c d = (i : ℕ) → from ≤ i → i < end → get_or c i 0 ≡ get_or d i 0

pub slice_same : (c d : List ℕ) (at k : ℕ) → at + k ≤ length c → at + k ≤ length d → Agree at (at + k) c d → take k (drop at c) ≡ take k (drop at d)
slice_same c d at k in_c in_d agree =
    let long_c : length (take k (drop at c)) ≡ k = length-take-le k (drop at c) (omega (arith, in_c, length-drop at c)) in
    let long_d : length (take k (drop at d)) ≡ k = length-take-le k (drop at d) (omega (arith, in_d, length-drop at d)) in
    ext_get_or 0 (take k (drop at c)) (take k (drop at d)) (long_c ∙ sym long_d) (λ i inside.
    get_or-take k (drop at c) i 0 (omega (arith, inside, long_c)) ∙ get_or-drop at c i 0
    ∙ agree (at + i) (omega arith) (omega (arith, inside, long_c))
    ∙ sym (get_or-take k (drop at d) i 0 (omega (arith, inside, long_c)) ∙ get_or-drop at d i 0))

pub count_same : (c d : List ℕ) (at n : ℕ) → at + 9 + n < length c → at + 9 + n < length d → Agree (at + 1) (at + 9 + n) c d → count_at c at ≡ count_at d at
count_same c d at n in_c in_d agree = ap (from_be_bytes w64) (slice_same c d (at + 1) 8 (omega (arith, in_c)) (omega (arith, in_d)) (λ i from end. agree i from (omega (arith, end))))

-- an open gate byte and its record, in other content
pub gate_same : (c d : List ℕ) (at n : ℕ) → gate_of c at ≡ Open n → at + 9 + n < length d → Agree at (at + 9 + n) c d → gate_of d at ≡ Open n
gate_same c d at n opens in_d agree =
    let same = count_same c d at n (opened_inside c at n opens) in_d (λ i from end. agree i (omega (arith, from)) end) in
    let gate = agree at (omega arith) (omega arith) in
    let count = opened_count c at n opens in
    grind (arith, nat_tests, opens, same, gate, count, in_d)

pub body_same : (c d : List ℕ) (at n : ℕ) → gate_of c at ≡ Open n → at + 9 + n < length d → Agree at (at + 9 + n) c d → body_at c at ≡ body_at d at
body_same c d at n opens in_d agree =
    let in_c = opened_inside c at n opens in
    let same = count_same c d at n in_c in_d (λ i from end. agree i (omega (arith, from)) end) in
    let count = opened_count c at n opens in
    let slices = slice_same c d (at + 9) n (omega (arith, in_c)) (omega (arith, in_d)) (λ i from end. agree i (omega (arith, from)) end) in
    ap (λ (k : ℕ). take k (drop (at + 9) c)) (sym count) ∙ slices ∙ ap (λ (k : ℕ). take k (drop (at + 9) d)) (count ∙ same)

-- the records before a gate byte stand in other content that has the same bytes there
pub passes_same : (bodies : List (List ℕ)) (c d : List ℕ) (at end : ℕ) → Passes bodies c at end → end < length d → Agree at end c d → Passes bodies d at end
passes_same [] c d at end is in_d agree = is
passes_same (b ∷ bodies) c d at end is in_d agree =
    let ahead = passes_ahead bodies c (at + 9 + length b) end is.2 in
    let nearer : Agree at (at + 9 + length b) c d = λ i from to. agree i from (omega (arith, to, ahead)) in (
      gate_same c d at (length b) is.0 (omega (arith, ahead, in_d)) nearer,
      sym (body_same c d at (length b) is.0 (omega (arith, ahead, in_d)) nearer) ∙ is.1,
      passes_same bodies c d (at + 9 + length b) end is.2 in_d (λ i from to. agree i (omega (arith, from)) to),
    )

shut : (c : List ℕ) (at : ℕ) → get_or c at 0 ≢ 1 → gate_of c at ≡ Shut
shut c at is = grind (arith, nat_tests, is)

open_again : (c : List ℕ) (at n : ℕ) → get_or c at 0 ≡ 1 → n ≡ count_at c at → at + 9 + n < length c → gate_of c at ≡ Open n
open_again c at n gate count inside = grind (arith, nat_tests, gate, count, inside)

-- A record is written behind a gate byte that isn't 1: each crash leaves the records before it, and the gate shut.
pub behind_gate : (m : Moment) (c : List ℕ) (bodies : List (List ℕ)) (g : ℕ) → Passes bodies m.durable 8 g → g < length m.durable → get_or m.durable g 0 ≢ 1 → ((i : ℕ) → i ≤ g → Covers m.pending i → ⊥) → IsImage m c → Passes bodies c 8 g × (gate_of c g ≡ Shut)
behind_gate m c bodies g passes inside closed free is =
    let same : Agree 8 (g + 1) m.durable c = λ i from to. sym (is.same i (omega (arith, to, inside)) (λ covered. free i (omega (arith, to)) covered)) in
    let here : get_or c g 0 ≡ get_or m.durable g 0 = is.same g inside (λ covered. free g (omega arith) covered) in (
      passes_same bodies m.durable c 8 g passes (omega (arith, inside, is.no_shorter)) (λ i from to. same i from (omega (arith, to))),
      shut c g (λ one. closed (sym here ∙ one)),
    )

-- The gate byte alone is written, before a whole record and a gate byte that isn't 1: each crash leaves the records before
-- it, and that record or not.
pub on_gate : (m : Moment) (c : List ℕ) (bodies : List (List ℕ)) (g n : ℕ) → Passes bodies m.durable 8 g → n ≡ count_at m.durable g → g + 9 + n < length m.durable → get_or m.durable (g + 9 + n) 0 ≢ 1 → ((i : ℕ) → Covers m.pending i → i ≡ g) → IsImage m c
    → (Passes bodies c 8 g × (gate_of c g ≡ Shut)) ⊎ (Passes (bodies ++ body_at m.durable g ∷ []) c 8 (g + 9 + n) × (gate_of c (g + 9 + n) ≡ Shut))
on_gate m c bodies g n passes count inside closed only is = elim (cases_eq (get_or c g 0) 1) [
  | inl one ↦ inr (whole one)
  | inr other ↦ inl (before, shut c g other)
]
  where
    same : (i : ℕ) → i < length m.durable → (i ≡ g → ⊥) → get_or m.durable i 0 ≡ get_or c i 0
    same i within other = sym (is.same i within (λ covered. other (only i covered)))

    behind : Agree (g + 1) (g + 9 + n) m.durable c
    behind i from to = same i (omega (arith, to, inside)) (λ here. omega (arith, here, from))

    before : Passes bodies c 8 g
    before = passes_same bodies m.durable c 8 g passes (omega (arith, inside, is.no_shorter)) (λ i from to. same i (omega (arith, to, inside)) (λ here. omega (arith, here, to)))

    in_c : g + 9 + n < length c
    in_c = omega (arith, inside, is.no_shorter)

    count_c : n ≡ count_at c g
    count_c = count ∙ count_same m.durable c g n inside in_c behind

    body_c : body_at c g ≡ body_at m.durable g
    body_c = ap (λ (k : ℕ). take k (drop (g + 9) c)) (sym count_c)
        ∙ sym (slice_same m.durable c (g + 9) n (omega (arith, inside)) (omega (arith, in_c)) (λ i from to. behind i (omega (arith, from)) to))
        ∙ ap (λ (k : ℕ). take k (drop (g + 9) m.durable)) count

    long : length (body_at m.durable g) ≡ n
    long = length-take-le (count_at m.durable g) (drop (g + 9) m.durable) (omega (arith, count, inside, length-drop (g + 9) m.durable)) ∙ sym count

    whole : get_or c g 0 ≡ 1 → Passes (bodies ++ body_at m.durable g ∷ []) c 8 (g + 9 + n) × (gate_of c (g + 9 + n) ≡ Shut)
    whole one = (
      passes-push bodies c 8 g (g + 9 + n) (body_at m.durable g) before (open_again c g n one count_c in_c ∙ ap Open (sym long)) body_c (omega (arith, long)),
      shut c (g + 9 + n) (λ open_next. closed (same (g + 9 + n) inside (λ here. omega (arith, here)) ∙ open_next)),
    )
