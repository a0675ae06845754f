use Rattle.std.proofs.Common.{◌≡◌, ℕ, ◌+◌, ◌-◌, ◌≤◌, List, ◌++◌, length, take, min, sym, ◌∙◌, ap, inl, inr, arith, length-append}
use Rattle.std.proofs.lemmas.List.{take_all}
use Rattle.std.proofs.lemmas.Bool.{cases_lt}
use Rattle.std.proofs.Math.Seq.{take-append-add}
use Rattle.cat_io.specs.declared.buffer.TheConstants.{ROOM}
use Rattle.cat_io.proofs.buffer.LineBuffer.extend.Goals as goal

-- what there is room for
take_room : (room k : ℕ) (xs ys : List ℕ) → length xs ≤ room → k ≡ min (room - length xs) (length ys) → xs ++ take k ys ≡ take room (xs ++ ys)
take_room room k xs ys fits is =
    elim (cases_lt (length ys) (room - length xs)) [
      | inl short ↦ ap (λ l. xs ++ l) (take_all k ys (omega (arith, short, is))) ∙ sym (take_all room (xs ++ ys) (omega (arith, short, fits, length-append xs ys)))
      | inr long ↦
          let e : k ≡ room - length xs = omega (arith, long, is) in
          let whole : length xs + (room - length xs) ≡ room = omega (arith, fits) in
          ap (λ j. xs ++ take j ys) e ∙ sym (take-append-add xs ys (room - length xs)) ∙ ap (λ j. take j (xs ++ ys)) whole
    ]

pub returns : goal.returns
returns c =
    let is : length c.self.inside.bytes.items ≡ length c.args.self.now = ap (λ l. length l) c.self.view_is in
    let ok = c.extend_from_slice.ensures.succeeds (omega (arith, c.self.inside.bytes.ok.0, c.len-room.ensures, c.min.ensures, c.split_at.ensures.front_len, c.self.invariant.0, c.self.invariant.1)) in
    let pushed : c.extend_from_slice.new.self.items ≡ c.self.inside.bytes.items ++ c.split_at.result.0.now = rw ok at c.extend_from_slice.ensures.items in
    pushed ∙ ap (λ l. l ++ c.split_at.result.0.now) c.self.view_is ∙ ap (λ l. c.args.self.now ++ l) c.split_at.ensures.front
    ∙ take_room ROOM c.min.result c.args.self.now c.args.more.now (omega (arith, is, c.self.invariant.1)) (omega (arith, is, c.self.inside.bytes.ok.0, c.len-room.ensures, c.min.ensures))
