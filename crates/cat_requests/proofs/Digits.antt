-- The digits of unique ids.
use Rattle.std.proofs.Common.{◌≡◌, ℕ, ◌+◌, ◌*◌, ◌^◌, ◌<◌, ◌≤◌, Bool, true, false, ◌&&◌, List, ◌∷◌, length, drop, get_or, refl, sym, ap, ◌∙◌, arith, add-one, lit<}
use Rattle.std.proofs.Math.Seq.{drop-cons}
use Rattle.std.proofs.Math.Nat.{pow-le-pow_right}
use Rattle.std.proofs.lemmas.Grind.{pow_more}
use Rattle.std.specs.List.{list_all}
use Rattle.cat_requests.specs.Uids.{is_hex, hex_digit, hex_after}

-- the digits from a place on are one and those after it
pub hex_more : (ds : List ℕ) (i n : ℕ) → i < length ds → hex_after n (drop i ds) ≡ hex_after (n * 16 + hex_digit (get_or ds i 0)) (drop (i + 1) ds)
hex_more ds i n inside =
    let e : drop i ds ≡ get_or ds i 0 ∷ drop (i + 1) ds = rw add-one (drop-cons ds i 0 inside) in
    ap (λ l. hex_after n l) e

and_first : (a b : Bool) → (a && b) ≡ true → a ≡ true
and_first true b e = refl
and_first false b e = cc

and_second : (a b : Bool) → (a && b) ≡ true → b ≡ true
and_second true b e = e
and_second false b e = cc

pub hex_here : (ds : List ℕ) (i : ℕ) → i < length ds → list_all is_hex (drop i ds) ≡ true → (is_hex (get_or ds i 0) ≡ true) × (list_all is_hex (drop (i + 1) ds) ≡ true)
hex_here ds i inside all =
    let e : drop i ds ≡ get_or ds i 0 ∷ drop (i + 1) ds = rw add-one (drop-cons ds i 0 inside) in
    let both : (is_hex (get_or ds i 0) && list_all is_hex (drop (i + 1) ds)) ≡ true = sym (ap (list_all is_hex) e) ∙ all in
    (and_first _ _ both, and_second _ _ both)

pub hex_longer : (n i d : ℕ) → n < 16 ^ i → d < 16 → n * 16 + d < 16 ^ (i + 1)
hex_longer n i d below digit = rw (pow_more 16 i) (omega arith)

pub hex_room : (n i d : ℕ) → n < 16 ^ i → i < 12 → d < 16 → n * 16 + d < 16 ^ 12
hex_room n i d below short digit =
    let le : 16 ^ i ≤ 16 ^ 11 = pow-le-pow_right {n = 16} (lit< tt) {i = i} {j = 11} (omega arith) in
    omega arith
