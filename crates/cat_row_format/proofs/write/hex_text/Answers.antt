use Rattle.std.proofs.Common.{◌≡◌, ◌-◌, suc, List, ℕ, [], ◌∷◌, ◌++◌, string_bytes, arith, ap, sym, ◌∙◌, append_assoc}
use Rattle.cat_stitch.specs.Uid.{digit_at, last_digits}
use Rattle.cat_row_format.proofs.write.hex_text.Goals as goal

-- the digit at a place, and those behind it
digits_step : (text : List ℕ) (number place above : ℕ) → above ≡ suc place
    → (text ++ digit_at place number ∷ []) ++ last_digits place number ≡ text ++ last_digits above number
digits_step text number place above e =
    append_assoc text (digit_at place number ∷ []) (last_digits place number)
    ∙ ap (λ n. text ++ last_digits n number) (sym e)

pub loop-place-preserved : goal.loop-place-preserved
loop-place-preserved c =
    let l = c.loop-place in
    let number = c.args.number in
    let pushed : string_bytes c.push.new.self ≡ string_bytes l.text ++ digit_at (l.place - 1) number ∷ [] =
    c.in_ok-push.ensures.bytes ∙ ap (λ bs. string_bytes l.text ++ bs) (c.in_ok-push.ensures.ascii c.digit.ensures.ascii ∙ ap (λ d. d ∷ []) c.digit.ensures.value) in
    let above : l.place ≡ suc (l.place - 1) = omega arith in (
      omega arith,
      ap (λ bs. bs ++ last_digits (l.place - 1) number) pushed
          ∙ (digits_step (string_bytes l.text) number (l.place - 1) l.place above ∙ l.invariant.1),
    )
