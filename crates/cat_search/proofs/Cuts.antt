-- Texts cut at separators, and texts without spaces at their ends.
use Rattle.std.proofs.Common.{◌≡◌, ℕ, suc, ◌+◌, Bool, true, false, cond, List, [], ◌∷◌, ◌++◌, length, eqb, refl, ap, sym, ◌∙◌, arith}
use Rattle.std.specs.Prelude.{not, reverse}
use Rattle.std.proofs.lemmas.Bool.Decides.{Decides-eqb}
use Rattle.std.proofs.lemmas.List.{reverse-reverse, reverse-append}
use Rattle.std.specs.List.{slice_split, position_or_len, onto_first}
use Rattle.cat_search.specs.Filter.{unspaced}

whole_step : (t : Bool) (x : ℕ) (xs : List ℕ) (n : ℕ) (parts : List (List ℕ)) → cond (not t) (1 + n) 0 ≡ suc (length xs) → (n ≡ length xs → parts ≡ xs ∷ []) → cond t ([] ∷ parts) (onto_first x parts) ≡ (x ∷ xs) ∷ []
whole_step true x xs n parts h k = absurd (omega arith)
whole_step false x xs n parts h k = ap (onto_first x) (k (omega arith))

-- a text without the separator is one piece
pub one_piece : (c : ℕ) (s : List ℕ) → position_or_len (λ b. eqb b c) s ≡ length s → slice_split (λ b. eqb b c) s ≡ s ∷ []
one_piece c [] h = refl
one_piece c (x ∷ xs) h = whole_step (eqb x c) x xs (position_or_len (λ b. eqb b c) xs) (slice_split (λ b. eqb b c) xs) h (one_piece c xs)

unspaced_step : (t : Bool) (b : ℕ) (bs ds : List ℕ) → (t ≡ true → b ≡ 32) → ((rest : List ℕ) → b ∷ bs ≡ 32 ∷ rest → ⊥) → cond t ds (b ∷ bs) ≡ b ∷ bs
unspaced_step true b bs ds e h = absurd (h bs (ap (λ x. x ∷ bs) (e refl)))
unspaced_step false b bs ds e h = refl

-- a text that begins with no space
pub unspaced_same : (s : List ℕ) → ((rest : List ℕ) → s ≡ 32 ∷ rest → ⊥) → unspaced s ≡ s
unspaced_same [] h = refl
unspaced_same (b ∷ bs) h = unspaced_step (eqb b 32) b bs (unspaced bs) ((Decides-eqb b 32).0) h

-- a text that ends in no space
pub unspaced_end : (s : List ℕ) → ((front : List ℕ) → s ≡ front ++ 32 ∷ [] → ⊥) → reverse (unspaced (reverse s)) ≡ s
unspaced_end s h =
    ap reverse (unspaced_same (reverse s) (λ rest e. h (reverse rest) (sym (reverse-reverse s) ∙ ap reverse e ∙ reverse-append (32 ∷ []) rest)))
    ∙ reverse-reverse s
