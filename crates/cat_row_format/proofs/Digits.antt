-- The number of the hexadecimal digits of a number.
use Rattle.std.proofs.Common.{◌≡◌, ℕ, zero, suc, ◌+◌, ◌*◌, ◌/◌, ◌%◌, ◌^◌, ◌<◌, ◌≤◌, List, [], ◌∷◌, length, get_or, drop, drop-cons, add-one, false, Some, Ok, refl, sym, ap, arith, ◌∙◌}
use Rattle.std.specs.Fmt.{digit_glyph}
use Rattle.std.proofs.lemmas.Bool.Decides.{nat_tests}
use Rattle.std.proofs.lemmas.Nat.{mod-pow-add, pow-add}
use Rattle.std.proofs.Math.Nat.{add-mul, mul_assoc}
use Rattle.std.proofs.Math.Pow.{pow_mono}
use Rattle.cat_stitch.specs.Uid.{digit_at, last_digits}
use Rattle.cat_row_format.specs.Parsed.{and_then, with_digit, digit_in, hex_from, hex_in}

-- a digit reads as its value
digit_back : (d : ℕ) → d < 16 → digit_in (digit_glyph false d) ≡ Some d
digit_back d h = grind (arith, nat_tests)

-- sixteen times what was read, and the digit
pub step : (n d b : ℕ) (bs : List ℕ) → digit_in b ≡ Some d → hex_from n (b ∷ bs) ≡ hex_from (n * 16 + d) bs
step n d b bs e = ap (λ o. and_then (with_digit n o) (λ m. hex_from m bs)) e

-- a number of digits at the front and a rest, by the weight of the last digit at the front
sum_of : (a b c : ℕ) → (a + b) + c ≡ a + (b + c)
sum_of a b c = omega arith

joined : (n d m p : ℕ) → (n * 16 + d) * p + m ≡ n * (16 * p) + (d * p + m)
joined n d m p =
    ap (λ t. t + m) (add-mul (n * 16) d p)
    ∙ (ap (λ t. (t + d * p) + m) (mul_assoc n 16 p) ∙ sum_of (n * (16 * p)) (d * p) m)

-- the digits that are left make of what was read the number that has them at its end
digits_back : (count n number : ℕ) → hex_from n (last_digits count number) ≡ Ok (n * 2 ^ (4 * count) + number % 2 ^ (4 * count))
digits_back zero n number = ap Ok (omega arith)
digits_back (suc p) n number =
    let d : ℕ = number / 2 ^ (4 * p) % 16 in
    let places : 4 * suc p ≡ 4 + 4 * p = omega arith in
    let weight : 2 ^ (4 * suc p) ≡ 16 * 2 ^ (4 * p) = ap (λ k. 2 ^ k) places ∙ pow-add 2 4 (4 * p) in
    let rest : number % 2 ^ (4 * suc p) ≡ d * 2 ^ (4 * p) + number % 2 ^ (4 * p) = ap (λ k. number % 2 ^ k) places ∙ mod-pow-add number 4 (4 * p) in
    step n d (digit_at p number) (last_digits p number) (digit_back d (omega arith))
    ∙ (digits_back p (n * 16 + d) number
    ∙ ap Ok (joined n d (number % 2 ^ (4 * p)) (2 ^ (4 * p)) ∙ (λ i. n * sym weight i + sym rest i)))

-- sixteen digits give a number of 64 bits again
pub hex_back : (n : ℕ) → n < 2 ^ 64 → hex_in (last_digits 16 n) ≡ Ok n
hex_back n h = digits_back 16 0 n ∙ ap Ok (omega arith)

-- the digit at a place, behind those that were read
pub hex_step : (digits : List ℕ) (i v d b x : ℕ) → i < length digits → Some d ≡ digit_in b → b ≡ get_or digits i x
    → hex_from v (drop i digits) ≡ hex_from 0 digits → hex_from (v * 16 + d) (drop (i + 1) digits) ≡ hex_from 0 digits
hex_step digits i v d b x short value found before =
    let e : drop i digits ≡ b ∷ drop (i + 1) digits = drop-cons digits i x short ∙ (λ j. sym found j ∷ drop (sym (add-one i) j) digits) in
    sym (ap (λ bs. hex_from v bs) e ∙ step v d b (drop (i + 1) digits) (sym value)) ∙ before

-- fewer than sixteen digits make a number of 60 bits
pub small : (v i : ℕ) → i < 16 → v < 2 ^ (4 * i) → v < 2 ^ 60
small v i few h =
    let most : 2 ^ (4 * i) ≤ 2 ^ 60 = pow_mono {i = 4 * i} {j = 60} (omega arith) in
    omega arith

-- one digit more makes four bits more
pub wider : (v d i : ℕ) → d < 16 → v < 2 ^ (4 * i) → v * 16 + d < 2 ^ (4 * (i + 1))
wider v d i digit h =
    let places : 4 * (i + 1) ≡ 4 + 4 * i = omega arith in
    let weight : 2 ^ (4 * (i + 1)) ≡ 16 * 2 ^ (4 * i) = ap (λ k. 2 ^ k) places ∙ pow-add 2 4 (4 * i) in
    omega arith
