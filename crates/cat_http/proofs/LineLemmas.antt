-- How the places of empty lines and heads go from byte to byte.
use Rattle.std.proofs.Common.{◌≡◌, ℕ, zero, suc, add-one, length-drop, take, ◌+◌, ◌-◌, ◌<◌, ◌≤◌, Bool, true, false, ◌&&◌, List, [], ◌∷◌, length, drop, get_or, refl, sym, ap, ◌∙◌, arith, Option, None, Some, option_map}
use Rattle.std.proofs.Math.Seq.{drop-cons}
use Rattle.std.proofs.lemmas.List.{drop-drop, take_all}
use Rattle.std.proofs.lemmas.Bool.Decides.{nat_tests}
use Rattle.std.specs.Prelude.{nat_lt, ◌==◌, if◌then◌else◌}
use Rattle.cat_http.specs.Lines.{empty_line, blank, head_length}

-- the bytes from a place on, as a slice takes them
pub tail-is : (bytes : List ℕ) (at : ℕ) → take (length bytes - at) (drop at bytes) ≡ drop at bytes
tail-is bytes at = take_all (length bytes - at) (drop at bytes) (omega (arith, length-drop at bytes))

-- an empty line lies in the bytes
pub empty_line-le-length : (bytes : List ℕ) → empty_line bytes ≤ length bytes
empty_line-le-length [] = omega arith
empty_line-le-length (b ∷ []) = elim (b == 10) as (λ t. (if t then 1 else 0) ≤ 1) [ true ↦ omega arith | false ↦ omega arith ]
empty_line-le-length (b ∷ c ∷ bytes) =
    elim (b == 10) as (λ t. (if t then 1 else (if b == 13 && c == 10 then 2 else 0)) ≤ length (b ∷ c ∷ bytes)) [
      | true ↦ omega arith
      | false ↦ elim (b == 13 && c == 10) as (λ u. (if u then 2 else 0) ≤ length (b ∷ c ∷ bytes)) [ true ↦ omega arith | false ↦ omega arith ]
    ]

-- the empty lines are the first of them and those after it
pub blank-step : (bytes : List ℕ)
    → blank bytes ≡ (if empty_line bytes == 0 then 0 else empty_line bytes + blank (drop (empty_line bytes) bytes))
blank-step [] = refl
blank-step (b ∷ []) =
    elim (b == 10) as (λ t. (if t then 1 else 0) ≡ (if (if t then 1 else 0) == 0 then 0 else (if t then 1 else 0) + blank (drop (if t then 1 else 0) (b ∷ [])))) [ true ↦ refl | false ↦ refl ]
blank-step (b ∷ c ∷ bytes) =
    let len : Bool → Bool → ℕ = λ t u. if t then 1 else (if u then 2 else 0) in
    elim (b == 10) as (λ t. (if t then 1 + blank (c ∷ bytes) else (if b == 13 && c == 10 then 2 + blank bytes else 0))
    ≡ (if len t (b == 13 && c == 10) == 0 then 0 else len t (b == 13 && c == 10) + blank (drop (len t (b == 13 && c == 10)) (b ∷ c ∷ bytes)))) [
      | true ↦ refl
      | false ↦ elim (b == 13 && c == 10) as (λ u. (if u then 2 + blank bytes else 0)
          ≡ (if len false u == 0 then 0 else len false u + blank (drop (len false u) (b ∷ c ∷ bytes)))) [ true ↦ refl | false ↦ refl ]
    ]

pub blank-none : (bytes : List ℕ) → empty_line bytes ≡ 0 → blank bytes ≡ 0
blank-none bytes none = blank-step bytes ∙ ap (λ n. if n == 0 then 0 else n + blank (drop n bytes)) none

pub blank-some : (bytes : List ℕ) (n : ℕ) → empty_line bytes ≡ n → 0 < n → blank bytes ≡ n + blank (drop n bytes)
blank-some bytes zero some positive = absurd (omega arith)
blank-some bytes (suc n) some positive =
    let e : (suc n == 0) ≡ false = grind (arith, nat_tests) in
    blank-step bytes ∙ ap (λ k. if k == 0 then 0 else k + blank (drop k bytes)) some
    ∙ ap (λ (t : Bool). if t then 0 else suc n + blank (drop (suc n) bytes)) e

-- the loop over empty lines, one line further
pub blank-moved : (bytes : List ℕ) (at r : ℕ) → at ≤ length bytes → blank bytes ≡ at + blank (drop at bytes)
    → r ≡ empty_line (drop at bytes) → 0 < r
    → (at + r ≤ length bytes) × (blank bytes ≡ (at + r) + blank (drop (at + r) bytes))
blank-moved bytes at r inside so_far is positive =
    let fits = empty_line-le-length (drop at bytes) in
    let next = blank-some (drop at bytes) r (sym is) positive in
    let joined : drop r (drop at bytes) ≡ drop (at + r) bytes = drop-drop r at bytes in
    (omega (arith, length-drop at bytes), omega (arith, ap blank joined))

pub blank-ended : (bytes : List ℕ) (at r : ℕ) → blank bytes ≡ at + blank (drop at bytes)
    → r ≡ empty_line (drop at bytes) → r ≡ 0 → at ≡ blank bytes
blank-ended bytes at r so_far is none =
    let e = blank-none (drop at bytes) (sym is ∙ none) in omega arith

-- what a head does at its next byte
pub head_length-at : (bytes : List ℕ) (i : ℕ) → i < length bytes
    → head_length (drop i bytes) ≡ (if get_or bytes i 0 == 10 && nat_lt 0 (empty_line (drop (i + 1) bytes))
    then Some (1 + empty_line (drop (i + 1) bytes)) else option_map (λ n. 1 + n) (head_length (drop (i + 1) bytes)))
head_length-at bytes i inside =
    let e : drop i bytes ≡ get_or bytes i 0 ∷ drop (i + 1) bytes = rw add-one (drop-cons bytes i 0 inside) in
    ap head_length e

pub option_map-add : (o : Option ℕ) (i : ℕ) → option_map (λ n. i + n) (option_map (λ n. 1 + n) o) ≡ option_map (λ n. (i + 1) + n) o
option_map-add None i = refl
option_map-add (Some n) i = let e : i + (1 + n) ≡ (i + 1) + n = omega arith in ap Some e

-- the search goes on past a byte at which no head ends
pub head_length-moved : (bytes : List ℕ) (i : ℕ) → i < length bytes
    → head_length bytes ≡ option_map (λ n. i + n) (head_length (drop i bytes))
    → (get_or bytes i 0 == 10 && nat_lt 0 (empty_line (drop (i + 1) bytes))) ≡ false
    → head_length bytes ≡ option_map (λ n. (i + 1) + n) (head_length (drop (i + 1) bytes))
head_length-moved bytes i inside so_far on =
    let here = head_length-at bytes i inside in
    let rest : Option ℕ = head_length (drop (i + 1) bytes) in
    let some : Option ℕ = Some (1 + empty_line (drop (i + 1) bytes)) in
    let step : head_length (drop i bytes) ≡ option_map (λ n. 1 + n) rest = here ∙ ap (λ (t : Bool). if t then some else option_map (λ n. 1 + n) rest) on in
    so_far ∙ ap (λ (o : Option ℕ). option_map (λ n. i + n) o) step ∙ option_map-add rest i

pub not_feed : (b : ℕ) (r : Bool) → (b ≡ 10 → ⊥) → (b == 10 && r) ≡ false
not_feed b r other = grind (arith, nat_tests)

pub not_empty : (t : Bool) (n : ℕ) → n ≡ 0 → (t && nat_lt 0 n) ≡ false
not_empty true n none = grind (arith, nat_tests)
not_empty false n none = refl
