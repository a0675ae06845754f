-- Hexadecimal digits, one after the other.
use Rattle.std.proofs.Common.{◌≡◌, ℕ, suc, List, [], ◌∷◌, ◌++◌, ap, sym, ◌∙◌, append_assoc}
use Rattle.cat_stitch.specs.Uid.{digit_at, last_digits}

-- the digit at a place, and those behind it
pub digits_step : (text : List ℕ) (number place above : ℕ) → above ≡ suc place
    → (text ++ digit_at place number ∷ []) ++ last_digits place number ≡ text ++ last_digits above number
digits_step text number place above e =
    append_assoc text (digit_at place number ∷ []) (last_digits place number)
    ∙ ap (λ n. text ++ last_digits n number) (sym e)
