-- Different numbers have different unique ids.
use Rattle.std.proofs.Common.{◌≡◌, ℕ, zero, suc, ◌+◌, ◌*◌, ◌/◌, ◌%◌, ◌^◌, ◌<◌, List, [], ◌∷◌, ◌++◌, length, codes, false, refl, sym, ap, arith, ◌∙◌}
use Rattle.std.specs.Fmt.{digit_glyph}
use Rattle.std.proofs.lemmas.Bool.Decides.{nat_tests}
use Rattle.std.proofs.lemmas.List.{append_cancel_left}
use Rattle.std.proofs.lemmas.Nat.{mod-pow-add}
use Rattle.cat_stitch.specs.Uid.{digit_at, last_digits, uid}

glyph_injective : (a b : ℕ) → a < 16 → b < 16 → digit_glyph false a ≡ digit_glyph false b → a ≡ b
glyph_injective a b h k e = grind (arith, nat_tests)

digits_injective : (count a b : ℕ) → last_digits count a ≡ last_digits count b → a % 2 ^ (4 * count) ≡ b % 2 ^ (4 * count)
digits_injective zero a b e = omega arith
digits_injective (suc p) a b e =
    let heads : digit_at p a ≡ digit_at p b = cc in
    let tails : last_digits p a ≡ last_digits p b = cc in
    let high : a / 2 ^ (4 * p) % 16 ≡ b / 2 ^ (4 * p) % 16 = glyph_injective (a / 2 ^ (4 * p) % 16) (b / 2 ^ (4 * p) % 16) (omega arith) (omega arith) heads in
    let low : a % 2 ^ (4 * p) ≡ b % 2 ^ (4 * p) = digits_injective p a b tails in
    let places : 4 * suc p ≡ 4 + 4 * p = omega arith in
    ap (λ k. a % 2 ^ k) places
    ∙ (mod-pow-add a 4 (4 * p)
    ∙ ((λ i. high i * 2 ^ (4 * p) + low i)
    ∙ (sym (mod-pow-add b 4 (4 * p)) ∙ sym (ap (λ k. b % 2 ^ k) places))))

append_injective : (x y s t : List ℕ) → length x ≡ length y → x ++ s ≡ y ++ t → (x ≡ y) × (s ≡ t)
append_injective [] [] s t h e = (refl, e)
append_injective [] (b ∷ y) s t h e = absurd (omega arith)
append_injective (a ∷ x) [] s t h e = absurd (omega arith)
append_injective (a ∷ x) (b ∷ y) s t h e =
    let first : a ≡ b = cc in
    let more : x ++ s ≡ y ++ t = cc in
    let parts = append_injective x y s t (omega arith) more in
    ((λ i. first i ∷ parts.0 i), parts.1)

tail_equal : (a b : ℕ) (x y : List ℕ) → a ∷ x ≡ b ∷ y → x ≡ y
tail_equal a b x y e = cc

pub ids_differ : (a b : ℕ) → a < 2 ^ 60 → b < 2 ^ 60 → uid a ≡ uid b → a ≡ b
unfolding uid
ids_differ a b h k e =
    let groups : last_digits 3 (a / 2 ^ 48) ++ 45 ∷ last_digits 12 a ≡ last_digits 3 (b / 2 ^ 48) ++ 45 ∷ last_digits 12 b =
    append_cancel_left (codes "00000000-0000-8000-8") _ _ e in
    let parts = append_injective (last_digits 3 (a / 2 ^ 48)) (last_digits 3 (b / 2 ^ 48)) (45 ∷ last_digits 12 a) (45 ∷ last_digits 12 b) refl groups in
    let top : last_digits 3 (a / 2 ^ 48) ≡ last_digits 3 (b / 2 ^ 48) = parts.0 in
    let rest : last_digits 12 a ≡ last_digits 12 b = tail_equal 45 45 (last_digits 12 a) (last_digits 12 b) parts.1 in
    let high = digits_injective 3 (a / 2 ^ 48) (b / 2 ^ 48) top in
    let low = digits_injective 12 a b rest in
    omega (arith, high, low)
