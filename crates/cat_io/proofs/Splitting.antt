-- The lines are those that std's `lines` gives.
use Rattle.std.proofs.Common.{◌≡◌, ℕ, ◌==◌, true, false, cond, List, [], ◌∷◌, ◌++◌, length, refl, sym, ◌∙◌, ap, arith, append_assoc}
use Rattle.std.proofs.lemmas.List.{append-nil}
use Rattle.std.proofs.lemmas.Bool.{ne_eqb}
use Rattle.std.specs.List.{slice_split, onto_first}
use Rattle.std.specs.Str.Lines.{strip_carriage_return, lines_of_parts, lines as std_lines}
use Rattle.cat_io.specs.Lines.{whole_from, rest_from, last_line, lines}

abbrev parts : List ℕ → List (List ℕ)
parts bs = slice_split (λ b. b == 10) bs

-- the parts, where `begun` comes before the first
abbrev after_begun : List ℕ → List (List ℕ) → List (List ℕ)
after_begun begun [] = []
after_begun begun (x ∷ xs) = (begun ++ x) ∷ xs

some_part : (bs : List ℕ) → (y : List ℕ) × (ys : List (List ℕ)) × (parts bs ≡ y ∷ ys)
some_part [] = ([], [], refl)
some_part (x ∷ bs) =
    let more = some_part bs in
    elim (x == 10) as (λ t. (y : List ℕ) × (ys : List (List ℕ)) × (cond t ([] ∷ parts bs) (onto_first x (parts bs)) ≡ y ∷ ys))
    [ true ↦ ([], parts bs, refl) | false ↦ (x ∷ more.0, more.1, ap (λ l. onto_first x l) more.2) ]

last_is : (begun : List ℕ) → last_line begun ≡ lines_of_parts (begun ∷ [])
last_is [] = refl
last_is (b ∷ bs) = sym (ap (λ t. cond t [] ((b ∷ bs) ∷ [])) (ne_eqb (length (b ∷ bs)) 0 (λ e. omega (arith, e))))

lines_from : (begun bs : List ℕ) → whole_from begun bs ++ last_line (rest_from begun bs) ≡ lines_of_parts (after_begun begun (parts bs))
lines_from begun [] = last_is begun ∙ ap (λ l. lines_of_parts (l ∷ [])) (sym (append-nil begun))
lines_from begun (x ∷ bs) =
    let s = some_part bs in
    elim (x == 10) as (λ t. cond t (strip_carriage_return begun ∷ whole_from [] bs) (whole_from (begun ++ x ∷ []) bs) ++ last_line (cond t (rest_from [] bs) (rest_from (begun ++ x ∷ []) bs)) ≡ lines_of_parts (after_begun begun (cond t ([] ∷ parts bs) (onto_first x (parts bs))))) [
      | true ↦
          ap (λ l. strip_carriage_return begun ∷ l) (lines_from [] bs ∙ ap (λ l. lines_of_parts (after_begun [] l)) s.2)
          ∙ ap (λ l. strip_carriage_return l ∷ lines_of_parts (s.0 ∷ s.1)) (sym (append-nil begun))
          ∙ ap (λ l. lines_of_parts ((begun ++ []) ∷ l)) (sym s.2)
      | false ↦
          lines_from (begun ++ x ∷ []) bs
          ∙ ap (λ l. lines_of_parts (after_begun (begun ++ x ∷ []) l)) s.2
          ∙ ap (λ l. lines_of_parts (l ∷ s.1)) (append_assoc begun (x ∷ []) s.0)
          ∙ ap (λ l. lines_of_parts (after_begun begun (onto_first x l))) (sym s.2)
    ]

pub lines_is : (bytes : List ℕ) → lines bytes ≡ std_lines bytes
lines_is bytes =
    let s = some_part bytes in
    lines_from [] bytes ∙ ap (λ l. lines_of_parts (after_begun [] l)) s.2 ∙ ap lines_of_parts (sym s.2)
