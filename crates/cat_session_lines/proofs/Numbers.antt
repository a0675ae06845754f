-- What `parse` gives of a text of digits.
use Rattle.std.proofs.Common.{◌≡◌, ℕ, ◌^◌, ◌<◌, Bool, true, false, ◌&&◌, List, [], ◌∷◌, Some, None, Result, Ok, Err, if◌then◌else◌, nat_lt, nat_le, length, refl, sym, ap, ◌∙◌, arith}
use Rattle.std.proofs.lemmas.Bool.Decides.{nat_tests}
use Rattle.std.proofs.lemmas.Str.{IsUtf8-from_is_utf8, is_utf8-from_IsUtf8}
use Rattle.std.proofs.lemmas.Str.Parse.{IsNumeralModel, numerals_by_value, tells_all_ascii_digits, parse_digits}
use Rattle.std.specs.Char.{is_ascii_digit}
use Rattle.std.specs.List.{list_all}
use Rattle.std.specs.Result.{OkIff, result_ok}
use Rattle.std.specs.Str.{IsUtf8, is_utf8, all_ascii_digits}
use Rattle.std.specs.Str.Parse.{digits_value, ParsesUnsigned}
use Rattle.cat_session_lines.specs.Arguments.{is_number, number, utf8_in}

digits : IsNumeralModel (λ s. all_ascii_digits s ≡ true) (digits_value 10)
digits = numerals_by_value _ tells_all_ascii_digits

number_parts : (a b : Bool) (n : ℕ) → ((nat_lt 0 n && a) && b) ≡ true → (0 < n) × (b ≡ true)
number_parts a b n h = (grind (arith, nat_tests), grind (arith, nat_tests))

gives : {E : Type 0} (n v : ℕ) (r : Result ℕ E) → OkIff r ((0 < n) × (v < 2 ^ 64)) v → 0 < n → result_ok r ≡ (if nat_lt v (2 ^ 64) then Some v else None)
gives n v (Ok x) h some = let small : v < 2 ^ 64 = h.0.1 in let e : x ≡ v = h.1 in grind (arith, nat_tests)
gives n v (Err e) h some = pick (nat_lt v (2 ^ 64)) refl
  where
    pick : (b : Bool) → nat_lt v (2 ^ 64) ≡ b → None ≡ (if b then Some v else None)
    pick true t = absurd (h (some, grind (arith, nat_tests)))
    pick false t = refl

digits_alike : (s : List ℕ) → list_all is_ascii_digit s ≡ all_ascii_digits s
digits_alike [] = refl
digits_alike (c ∷ cs) = ap (λ b. is_ascii_digit c && b) (digits_alike cs)

pub parsed_number : {E : Type 0} (s : List ℕ) (r : Result ℕ E) → ParsesUnsigned 64 10 s r → is_number s ≡ true → result_ok r ≡ number s
parsed_number s r h is =
    let parts = number_parts (nat_le (length s) 20) (list_all is_ascii_digit s) (length s) is in
    gives (length s) (digits_value 10 s) r (parse_digits digits 64 s r h (sym (digits_alike s) ∙ parts.1)) parts.0 ∙ sym (rw is refl)

-- the text that the bytes are
pub utf8_ok : (s : List ℕ) → IsUtf8 s → utf8_in s ≡ Some s
utf8_ok s h = rw (is_utf8-from_IsUtf8 s h) refl

pub utf8_err : (s : List ℕ) → ¬ IsUtf8 s → utf8_in s ≡ None
utf8_err s h = pick (is_utf8 s) refl
  where
    pick : (b : Bool) → is_utf8 s ≡ b → (if b then Some s else None) ≡ None
    pick true e = absurd (h (IsUtf8-from_is_utf8 s e))
    pick false e = refl
