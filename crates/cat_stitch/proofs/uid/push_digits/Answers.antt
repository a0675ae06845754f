use Rattle.std.proofs.Common.{◌≡◌, ◌-◌, suc, [], ◌∷◌, ◌++◌, string_bytes, arith, ap, ◌∙◌}
use Rattle.cat_stitch.specs.Uid.{digit_at, last_digits}
use Rattle.cat_stitch.proofs.Digits.{digits_step}
use Rattle.cat_stitch.proofs.uid.push_digits.Goals as goal

pub loop-place-preserved : goal.loop-place-preserved
loop-place-preserved c =
    let l = c.loop-place in
    let number = c.args.number in
    let pushed : string_bytes c.push.new.self ≡ string_bytes l.text ++ digit_at (l.place - 1) number ∷ [] =
    c.in_ok-push.ensures.bytes ∙ ap (λ bs. string_bytes l.text ++ bs) (c.in_ok-push.ensures.ascii c.digit.ensures.ascii ∙ ap (λ d. d ∷ []) c.digit.ensures.value) in
    let above : l.place ≡ suc (l.place - 1) = omega arith in (
      omega arith,
      ap (λ bs. bs ++ last_digits (l.place - 1) number) pushed
          ∙ (digits_step (string_bytes l.text) number (l.place - 1) l.place above ∙ l.invariant.1),
    )
