-- What a crash leaves at a moment is a journal with the right rows.
use Rattle.std.proofs.Common.{◌≡◌, ◌⊎◌, inl, inr, ⊎_elim, ℕ, ◌+◌, ◌^◌, ◌<◌, ◌≤◌, List, [], ◌∷◌, ◌++◌, Some, length, take, drop, get_or, refl, sym, ◌∙◌, ap, subst, arith, append_assoc, length-append}
use Rattle.std.specs.Prelude.{IsSome}
use Rattle.std.proofs.lemmas.Bool.Decides.{nat_tests}
use Rattle.std.proofs.lemmas.List.{length-take-le, ext_get_or, get_or-take, get_or-drop, take_at, drop_at, drop-drop}
use Rattle.std.proofs.lemmas.Nat.{from_be_bytes-to_be_bytes_8}
use Rattle.std.proofs.Math.Seq.{get_or-append_seam}
use Rattle.std.specs.Int.{from_be_bytes, to_be_bytes, w64}
use Rattle.cat_disk.specs.Moments.{Moment, IsImage, overwritten}
use Rattle.cat_disk.proofs.Images.{longer}
use Rattle.cat_keeper.specs.Store.{Changes, Rows, applied}
use Rattle.cat_journal.specs.Parsed.{batch_of}
use Rattle.cat_journal.specs.declared.records.Gate.TheVariants.{Shut}
use Rattle.cat_journal.specs.Records.{header, gate_of, count_at, Passes, after_batch, rows_of, HasRecords, closed_record}
use Rattle.cat_journal.specs.Left.{HasNext, IsClosed, IsOneOf, AreRows, IsLeft, Leaves, IsShut, IsHeld, IsOpen}
use Rattle.cat_journal.proofs.Passing.{passes_ahead, rows-push, batches-push}
use Rattle.cat_journal.proofs.Crash.{Agree, slice_same, count_same, passes_same, behind_gate, on_gate}

pub small_or_large : (n : ℕ) → (n ≤ 9) ⊎ (9 < n)
small_or_large n = grind arith

pub short_left : (c : List ℕ) (more : List Changes) → length c ≤ 9 → IsLeft [] more c
short_left c more short = (inl short, ([], 8, inl (short, refl, refl), inl refl))

-- a header is that of other content that begins with the same bytes
pub front_same : (c d : List ℕ) → 8 ≤ length c → 8 ≤ length d → Agree 0 8 c d → take 8 c ≡ take 8 d
front_same c d in_c in_d agree =
    let long_c : length (take 8 c) ≡ 8 = length-take-le 8 c in_c in
    let long_d : length (take 8 d) ≡ 8 = length-take-le 8 d in_d in
    ext_get_or 0 (take 8 c) (take 8 d) (long_c ∙ sym long_d) (λ i inside.
    get_or-take 8 c i 0 (omega (arith, inside, long_c)) ∙ agree i (omega arith) (omega (arith, inside, long_c)) ∙ sym (get_or-take 8 d i 0 (omega (arith, inside, long_c))))

-- up to the first gate byte there are no records
pub no_room : (bodies : List (List ℕ)) (c : List ℕ) (g : ℕ) → Passes bodies c 8 g → g ≤ 8 → bodies ≡ []
no_room [] c g is low = refl
no_room (b ∷ bodies) c g is low = absurd (omega (arith, low, passes_ahead bodies c (8 + 9 + length b) g is.2))

-- what stands in an image of a moment whose gate byte is 0
pub shut_records : (bodies : List (List ℕ)) (g : ℕ) (m : Moment) (c : List ℕ) → IsShut bodies g m → IsImage m c → HasRecords c bodies g × (gate_of c g ≡ Shut) × (get_or c g 0 ≡ 0) × (g < length c)
shut_records bodies g m c s is =
    let ahead = passes_ahead bodies m.durable 8 g s.passes in
    let zero : get_or c g 0 ≡ 0 = is.same g s.inside (λ covered. s.free g (omega arith) covered) ∙ s.closed in
    let inside : g < length c = omega (arith, s.inside, is.no_shorter) in
    let p = behind_gate m c bodies g s.passes s.inside (λ one. omega (arith, sym s.closed ∙ one)) s.free is in
    let front : take 8 c ≡ take 8 m.durable = front_same c m.durable (omega (arith, inside, ahead)) (omega (arith, s.inside, ahead)) (λ i from to. is.same i (omega (arith, to, ahead, s.inside)) (λ covered. s.free i (omega (arith, to, ahead)) covered)) in
    (record { headed = front ∙ s.headed; passes = p.0; batches = s.batches }, p.1, zero, inside)

-- content of a journal that ends at a gate byte 0
pub records_left : (bodies : List (List ℕ)) (g : ℕ) (c : List ℕ) (base : Rows) (more : List Changes) → HasRecords c bodies g → gate_of c g ≡ Shut → IsClosed c g → g < length c → AreRows base more (rows_of bodies) → IsLeft base more c
records_left bodies g c base more has is closed inside rows = elim (small_or_large (length c)) [
  | inl short ↦ let none : bodies ≡ [] = no_room bodies c g has.passes (omega (arith, inside, short)) in
      (inl short, ([], 8, inl (short, refl, refl), subst (λ (bs : List (List ℕ)). AreRows base more (rows_of bs)) none rows))
  | inr long ↦ (inr (rows_of bodies, g, inr (long, bodies, has, is, refl), closed), (rows_of bodies, g, inr (long, bodies, has, is, refl), rows))
]

pub shut_left : (bodies : List (List ℕ)) (g : ℕ) (m : Moment) (base : Rows) (more : List Changes) → IsShut bodies g m → AreRows base more (rows_of bodies) → Leaves (IsLeft base more) m
shut_left bodies g m base more s rows c is =
    let p = shut_records bodies g m c s is in
    records_left bodies g c base more p.0 p.1 (inl p.2) p.3 rows

-- a record behind a gate byte stands in other content that differs at the gate byte alone
pub next_same : (d c : List ℕ) (g : ℕ) (body : List ℕ) → HasNext d g body → length d ≤ length c → ((i : ℕ) → i < length d → (i ≡ g → ⊥) → get_or d i 0 ≡ get_or c i 0) → HasNext c g body
next_same d c g body next longer same =
    let inside_c : g + 9 + length body < length c = omega (arith, next.inside, longer) in
    let agree : Agree (g + 1) (g + 9 + length body) d c = λ i from to. same i (omega (arith, to, next.inside)) (λ here. omega (arith, here, from)) in
    let count : length body ≡ count_at c g = next.count ∙ count_same d c g (length body) next.inside inside_c agree in
    record {
      count = count;
      inside = inside_c;
      stands = ap (λ (k : ℕ). take k (drop (g + 9) c)) (sym count)
          ∙ sym (slice_same d c (g + 9) (length body) (omega (arith, next.inside)) (omega (arith, inside_c)) (λ i from to. agree i (omega (arith, from)) to))
          ∙ ap (λ (k : ℕ). take k (drop (g + 9) d)) next.count ∙ next.stands;
      closed = sym (same (g + 9 + length body) next.inside (λ here. omega (arith, here))) ∙ next.closed;
      batch = next.batch;
    }

-- what stands in an image of a moment whose gate byte is pending
held_front : (bodies : List (List ℕ)) (g : ℕ) (m : Moment) (c : List ℕ) → IsHeld bodies g m → IsImage m c → take 8 c ≡ header
held_front bodies g m c h is =
    let ahead = passes_ahead bodies m.durable 8 g h.passes in
    front_same c m.durable (omega (arith, h.inside, is.no_shorter, ahead)) (omega (arith, h.inside, ahead)) (λ i from to. is.same i (omega (arith, to, ahead, h.inside)) (λ covered. omega (arith, h.alone i covered, to, ahead)))
    ∙ h.headed

pub next_image : (bodies : List (List ℕ)) (body : List ℕ) (g : ℕ) (m : Moment) (c : List ℕ) → IsOpen bodies body g m → IsImage m c → HasNext c g body
next_image bodies body g m c o is = next_same m.durable c g body o.1 is.no_shorter (λ i inside other. sym (is.same i inside (λ covered. other (o.0.alone i covered))))

open_cases : (bodies : List (List ℕ)) (body : List ℕ) (g : ℕ) (m : Moment) (c : List ℕ) → IsOpen bodies body g m → IsImage m c
    → (Passes bodies c 8 g × (gate_of c g ≡ Shut)) ⊎ (Passes (bodies ++ body ∷ []) c 8 (g + 9 + length body) × (gate_of c (g + 9 + length body) ≡ Shut))
open_cases bodies body g m c o is = subst (λ (b : List ℕ). (Passes bodies c 8 g × (gate_of c g ≡ Shut)) ⊎ (Passes (bodies ++ b ∷ []) c 8 (g + 9 + length body) × (gate_of c (g + 9 + length body) ≡ Shut))) o.1.stands
    (on_gate m c bodies g (length body) o.0.passes o.1.count o.1.inside (λ one. omega (arith, sym o.1.closed ∙ one)) o.0.alone is)

-- the rows after one record more are those after its batch
pub rows_more : (bodies : List (List ℕ)) (body : List ℕ) (batch : Changes) → batch_of body ≡ Some batch → rows_of (bodies ++ body ∷ []) ≡ applied batch (rows_of bodies)
rows_more bodies body batch is = rows-push bodies body [] ∙ ap (λ o. after_batch o (rows_of bodies)) is

pub more_rows : (bodies : List (List ℕ)) (body : List ℕ) (batch : Changes) (more : List Changes) → batch_of body ≡ Some batch → IsOneOf batch more → AreRows (rows_of bodies) more (rows_of (bodies ++ body ∷ []))
more_rows bodies body batch more is among = inr (batch, among, rows_more bodies body batch is)

pub open_left : (bodies : List (List ℕ)) (body : List ℕ) (g : ℕ) (m : Moment) (batch : Changes) (more : List Changes) → batch_of body ≡ Some batch → IsOneOf batch more → IsOpen bodies body g m → Leaves (IsLeft (rows_of bodies) more) m
open_left bodies body g m batch more is_batch among o c is = ⊎_elim before after (open_cases bodies body g m c o is)
  where
    front : take 8 c ≡ header
    front = held_front bodies g m c o.0 is

    next : HasNext c g body
    next = next_image bodies body g m c o is

    before : Passes bodies c 8 g × (gate_of c g ≡ Shut) → IsLeft (rows_of bodies) more c
    before p = records_left bodies g c (rows_of bodies) more (record { headed = front; passes = p.0; batches = o.0.batches }) p.1 (inr (body, next)) (omega (arith, next.inside)) (inl refl)

    after : Passes (bodies ++ body ∷ []) c 8 (g + 9 + length body) × (gate_of c (g + 9 + length body) ≡ Shut) → IsLeft (rows_of bodies) more c
    after p = records_left (bodies ++ body ∷ []) (g + 9 + length body) c (rows_of bodies) more (record { headed = front; passes = p.0; batches = batches-push bodies body o.0.batches o.1.batch }) p.1 (inl next.closed) next.inside (more_rows bodies body batch more is_batch among)

-- ---- once all is on the disk

abbrev pub settled : List ℕ → Moment
settled c = record { durable = c; pending = [] }

pub shut_settled : (bodies : List (List ℕ)) (g : ℕ) (m : Moment) (c : List ℕ) → IsShut bodies g m → IsImage m c → IsShut bodies g (settled c)
shut_settled bodies g m c s is =
    let p = shut_records bodies g m c s is in
    record { headed = p.0.headed; passes = p.0.passes; batches = p.0.batches; inside = p.3; closed = p.2; free = λ i le covered. covered }

pub held_settled : (bodies : List (List ℕ)) (g : ℕ) (m : Moment) (c : List ℕ) → IsHeld bodies g m → IsImage m c → get_or c g 0 ≡ 0 → IsShut bodies g (settled c)
held_settled bodies g m c h is zero =
    let inside : g < length c = omega (arith, h.inside, is.no_shorter) in
    record {
      headed = held_front bodies g m c h is;
      passes = passes_same bodies m.durable c 8 g h.passes inside (λ i from to. sym (is.same i (omega (arith, to, h.inside)) (λ covered. omega (arith, h.alone i covered, to))));
      batches = h.batches;
      inside = inside;
      closed = zero;
      free = λ i le covered. covered;
    }

not_shut : (c : List ℕ) (at : ℕ) → get_or c at 0 ≡ 1 → gate_of c at ≡ Shut → ⊥
not_shut c at one is = grind (arith, nat_tests, one, is)

pub open_settled : (bodies : List (List ℕ)) (body : List ℕ) (g : ℕ) (m : Moment) (c : List ℕ) → IsOpen bodies body g m → IsImage m c → get_or c g 0 ≡ 1 → IsShut (bodies ++ body ∷ []) (g + 9 + length body) (settled c)
open_settled bodies body g m c o is one =
    let next = next_image bodies body g m c o is in
    let p : Passes (bodies ++ body ∷ []) c 8 (g + 9 + length body) × (gate_of c (g + 9 + length body) ≡ Shut) = ⊎_elim (λ before. absurd (not_shut c g one before.1)) (λ after. after) (open_cases bodies body g m c o is) in
    record {
      headed = held_front bodies g m c o.0 is;
      passes = p.0;
      batches = batches-push bodies body o.0.batches o.1.batch;
      inside = next.inside;
      closed = next.closed;
      free = λ i le covered. covered;
    }

-- ---- a record that was written behind a gate byte

module _ (content body text : List ℕ) (g : ℕ) (spelled : text ≡ closed_record body) (small : length text < 2 ^ 64) (start : g + 1 ≤ length content) where
  pub text_size : length text ≡ 9 + length body
  text_size = ap length spelled ∙ omega (arith, length-append (to_be_bytes w64 (length body) ++ body) (0 ∷ []), length-append (to_be_bytes w64 (length body)) body)

  inside_it : g + 9 + length body < length (overwritten (g + 1) text content)
  inside_it = grind (arith, longer (g + 1) text content start, text_size)

  back : drop (g + 1) (overwritten (g + 1) text content) ≡ text ++ drop (g + 1 + length text) content
  back = ap (λ (l : List ℕ). drop (g + 1) l) (append_assoc (take (g + 1) content) text (drop (g + 1 + length text) content)) ∙ drop_at (take (g + 1) content) (text ++ drop (g + 1 + length text) content) (g + 1) (length-take-le (g + 1) content start)

  split : drop (g + 1) (overwritten (g + 1) text content) ≡ to_be_bytes w64 (length body) ++ (body ++ ((0 ∷ []) ++ drop (g + 1 + length text) content))
  split = back ∙ ap (λ (l : List ℕ). l ++ drop (g + 1 + length text) content) spelled
      ∙ append_assoc (to_be_bytes w64 (length body) ++ body) (0 ∷ []) (drop (g + 1 + length text) content)
      ∙ append_assoc (to_be_bytes w64 (length body)) body ((0 ∷ []) ++ drop (g + 1 + length text) content)

  count : length body ≡ count_at (overwritten (g + 1) text content) g
  count = sym (ap (from_be_bytes w64) (ap (λ (l : List ℕ). take 8 l) split ∙ take_at (to_be_bytes w64 (length body)) (body ++ ((0 ∷ []) ++ drop (g + 1 + length text) content)) 8 refl) ∙ from_be_bytes-to_be_bytes_8 (length body) (omega (arith, text_size, small)))

  behind : drop (g + 9) (overwritten (g + 1) text content) ≡ body ++ ((0 ∷ []) ++ drop (g + 1 + length text) content)
  behind = ap (λ (k : ℕ). drop k (overwritten (g + 1) text content)) (omega arith) ∙ sym (drop-drop 8 (g + 1) (overwritten (g + 1) text content)) ∙ ap (λ (l : List ℕ). drop 8 l) split ∙ drop_at (to_be_bytes w64 (length body)) (body ++ ((0 ∷ []) ++ drop (g + 1 + length text) content)) 8 refl

  pub record_stands : IsSome (batch_of body) → HasNext (overwritten (g + 1) text content) g body
  record_stands batch = record {
    count = count;
    inside = inside_it;
    stands = ap (λ (k : ℕ). take k (drop (g + 9) (overwritten (g + 1) text content))) (sym count) ∙ ap (λ (l : List ℕ). take (length body) l) behind ∙ take_at body ((0 ∷ []) ++ drop (g + 1 + length text) content) (length body) refl;
    closed = sym (get_or-drop (g + 9) (overwritten (g + 1) text content) (length body) 0) ∙ ap (λ (l : List ℕ). get_or l (length body) 0) behind ∙ get_or-append_seam body 0 (drop (g + 1 + length text) content) 0;
    batch = batch;
  }
