-- What is kept is the end of the whole list, and how many entries go.
use Rattle.std.proofs.Common.{◌≡◌, ◌⊎◌, ℕ, ◌+◌, ◌<◌, ◌≤◌, Bool, true, false, cond, ◌&&◌, nat_lt, nat_le, List, [], ◌∷◌, ◌++◌, length, map, drop, get_or, sum, refl, sym, ap, ◌∙◌, inl, inr, arith, add-one, suc, add_assoc, append_assoc, drop-cons}
use Rattle.std.proofs.lemmas.List.Sums.{sum_by-cons}
use Rattle.std.proofs.lemmas.List.{drop-map, drop-drop, drop-append-le, map-append, length-map}
use Rattle.cat_history.specs.Kept.{leaving}

module _ {A B : Type 0} (f : A → B) where
  -- the entry at a place of what is kept
  pub end_at : (kept : List A) (all : List B) (gone place : ℕ) (k : A) → map f kept ≡ drop gone all → place < length kept → k ≡ get_or kept place k
      → drop (gone + place) all ≡ f k ∷ drop (gone + place + 1) all
  end_at kept all gone place k e inside is =
      let from : (n : ℕ) → drop (gone + n) all ≡ map f (drop n kept) = λ n. sym (drop-drop n gone all) ∙ ap (λ xs. drop n xs) (sym e) ∙ drop-map f n kept in
      let opened : drop place kept ≡ k ∷ drop (place + 1) kept = rw add-one (drop-cons kept place k inside ∙ ap (λ x. x ∷ drop (suc place) kept) (sym is)) in
      from place ∙ ap (map f) opened ∙ ap (λ xs. f k ∷ xs) (sym (from (place + 1)) ∙ ap (λ n. drop n all) (sym (add_assoc gone place 1)))

  -- without its oldest entry
  pub end_pops : (k : A) (kept old : List A) (all : List B) (gone : ℕ) → old ≡ k ∷ kept → map f old ≡ drop gone all → map f kept ≡ drop (gone + 1) all
  end_pops k kept old all gone is e = ap (λ xs. drop 1 (map f xs)) (sym is) ∙ ap (λ xs. drop 1 xs) e ∙ drop-drop 1 gone all

  -- with an entry more
  pub end_pushes : (k : A) (kept : List A) (all : List B) (gone : ℕ) → gone ≤ length all → map f kept ≡ drop gone all → map f (kept ++ k ∷ []) ≡ drop gone (all ++ f k ∷ [])
  end_pushes k kept all gone within e = map-append f kept (k ∷ []) ∙ ap (λ xs. xs ++ f k ∷ []) e ∙ sym (drop-append-le gone all (f k ∷ []) within)

-- none goes where there is room
pub leaving-none : (most limit weight : ℕ) (ws : List ℕ) → length ws < most → sum ws + weight ≤ limit → leaving most limit weight ws ≡ 0
leaving-none most limit weight [] few light = refl
leaving-none most limit weight (w ∷ ws) few light = grind arith

-- one goes where there is none
pub leaving-one : (most limit weight w : ℕ) (ws : List ℕ) → (most ≤ length (w ∷ ws)) ⊎ (limit < sum (w ∷ ws) + weight) → leaving most limit weight (w ∷ ws) ≡ 1 + leaving most limit weight ws
leaving-one most limit weight w ws lacks = elim lacks [ inl many ↦ grind arith | inr heavy ↦ grind arith ]
