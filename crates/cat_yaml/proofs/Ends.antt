-- The bytes at the end that are dropped.
use Rattle.std.proofs.Common.{◌≡◌, ◌≢◌, ℕ, suc, ◌<◌, true, false, ◌==◌, ◌&&◌, List, [], ◌∷◌, ◌++◌, length, take, get_or, if◌then◌else◌, refl, ap, sym, ◌∙◌, arith, length-append}
use Rattle.std.proofs.lemmas.Bool.{ne_eqb, eq-eqb}
use Rattle.std.proofs.Math.Seq.{take-suc}
use Rattle.cat_yaml.specs.Scan.{trimmed}

kept : (b c : ℕ) (t : List ℕ) → (length t == 0) ≡ false → (if b == c && length t == 0 then [] else b ∷ t) ≡ b ∷ t
kept b c t e = rw e (elim (b == c) as (λ v. (if v && false then [] else b ∷ t) ≡ b ∷ t) [ true ↦ refl | false ↦ refl ])

trimmed-one : (c : ℕ) (s : List ℕ) → trimmed c (s ++ c ∷ []) ≡ trimmed c s
trimmed-one c [] = rw (eq-eqb c c refl) refl
trimmed-one c (b ∷ s) = ap (λ t. if b == c && length t == 0 then [] else b ∷ t) (trimmed-one c s)

trimmed-same : (c x : ℕ) (s : List ℕ) → x ≢ c → trimmed c (s ++ x ∷ []) ≡ s ++ x ∷ []
trimmed-same c x [] h = rw (ne_eqb x c h) refl
trimmed-same c x (b ∷ s) h =
    ap (λ t. if b == c && length t == 0 then [] else b ∷ t) (trimmed-same c x s h)
    ∙ kept b c (s ++ x ∷ []) (ne_eqb (length (s ++ x ∷ [])) 0 (λ e. omega (arith, length-append s (x ∷ []), e)))

-- one more at the end is dropped
pub dropped : (c : ℕ) (s : List ℕ) (e n : ℕ) → e ≡ suc n → n < length s → get_or s n 0 ≡ c → trimmed c (take n s) ≡ trimmed c (take e s)
dropped c s e n eq inside h = rw (eq, take-suc s n 0 inside, h) (sym (trimmed-one c (take n s)))

-- the last one stays
pub stays : (c : ℕ) (s : List ℕ) (e n : ℕ) → e ≡ suc n → n < length s → get_or s n 0 ≢ c → take e s ≡ trimmed c (take e s)
stays c s e n eq inside h = rw (eq, take-suc s n 0 inside) (sym (trimmed-same c (get_or s n 0) (take n s) h))

-- nothing is left
pub nothing : (c : ℕ) (s : List ℕ) (e : ℕ) → e ≡ 0 → take e s ≡ trimmed c (take e s)
nothing c s e eq = rw eq refl

-- what stays is the front
pub trimmed_front : (c : ℕ) (s : List ℕ) → take (length (trimmed c s)) s ≡ trimmed c s
trimmed_front c [] = refl
trimmed_front c (b ∷ s) =
    elim (b == c && length (trimmed c s) == 0) as (λ v. take (length (if v then [] else b ∷ trimmed c s)) (b ∷ s) ≡ (if v then [] else b ∷ trimmed c s)) [
      | true ↦ refl
      | false ↦ ap (λ t. b ∷ t) (trimmed_front c s)
    ]
