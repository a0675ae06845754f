use Rattle.std.proofs.Common.{◌≡◌, ℕ, ◌+◌, ◌-◌, ◌≤◌, List, ◌++◌, length, take, min, sym, ◌∙◌, ap, inl, inr, arith, length-append}
use Rattle.std.proofs.lemmas.List.{take_all}
use Rattle.std.proofs.lemmas.Bool.{cases_lt}
use Rattle.std.proofs.Math.Seq.{take-append-add}
use Rattle.std.specs.Prelude.{Result, Ok, Err, OnOk, is_ok, if◌then◌else◌}
use Rattle.cat_mirror.specs.declared.line.TheConstants.{ROOM}
use Rattle.cat_mirror.proofs.line.LineBuffer.extend.Goals as goal

-- what there is room for
take_room : (room k : ℕ) (xs ys : List ℕ) → length xs ≤ room → k ≡ min (room - length xs) (length ys) → xs ++ take k ys ≡ take room (xs ++ ys)
take_room room k xs ys fits is =
    elim (cases_lt (length ys) (room - length xs)) [
      | inl short ↦ ap (λ l. xs ++ l) (take_all k ys (omega (arith, short, is))) ∙ sym (take_all room (xs ++ ys) (omega (arith, short, fits, length-append xs ys)))
      | inr long ↦
          let e : k ≡ room - length xs = omega (arith, long, is) in
          let whole : length xs + (room - length xs) ≡ room = omega (arith, fits) in
          ap (λ j. xs ++ take j ys) e ∙ sym (take-append-add xs ys (room - length xs)) ∙ ap (λ j. take j (xs ++ ys)) whole
    ]

-- what has come once more was appended, where there was memory for it
extended : {E : Type 0} (r : Result (Unit {0}) E) (room k : ℕ) (inside come front more new : List ℕ) → inside ≡ come → length come ≤ room → k ≡ min (room - length come) (length more) → front ≡ take k more
    → new ≡ (if is_ok r then inside ++ front else inside) → OnOk r (new ≡ take room (come ++ more))
extended (Ok u) room k inside come front more new is fits most kept pushed =
    pushed ∙ ap (λ l. l ++ front) is ∙ ap (λ l. come ++ l) kept ∙ take_room room k come more fits most
extended (Err e) room k inside come front more new is fits most kept pushed = tt

pub returns : goal.returns
returns c =
    let is : length c.self.inside.bytes.items ≡ length c.args.self.now = ap (λ l. length l) c.self.view_is in
    let within : length c.args.self.now ≤ ROOM = omega (arith, is, c.self.invariant) in
    let most : c.min.result ≡ min (ROOM - length c.args.self.now) (length c.args.more.now) = omega (arith, is, c.self.inside.bytes.ok.0, c.len-room.ensures, c.min.ensures) in
    extended c.extend_from_slice.result ROOM c.min.result c.self.inside.bytes.items c.args.self.now c.split_at.result.0.now c.args.more.now c.extend_from_slice.new.self.items c.self.view_is within most c.split_at.ensures.front c.extend_from_slice.ensures.items
