-- A loop that puts what it makes of each element at the end of a list.
use Rattle.std.proofs.Common.{◌≡◌, ℕ, suc, ◌+◌, ◌<◌, List, [], ◌∷◌, ◌++◌, map, Result, Ok, Err, length, get_or, drop, refl, ap, sym, ◌∙◌, append_assoc, add-one, drop-cons}
use Rattle.cat_inputs.specs.Body.{with_front, onto, each_from}

-- one more at the end of the front
pub with_front-push : {A E : Type 0} (xs : List A) (x : A) (more : Result (List A) E) → with_front (xs ++ x ∷ []) more ≡ with_front xs (onto (Ok x) more)
with_front-push xs x (Ok ys) = ap Ok (append_assoc xs (x ∷ []) ys)
with_front-push xs x (Err e) = refl

-- what is left at i is the element there, and what is left after it
pub each_from-drop : {A B C E : Type 0} (f : ℕ → B → Result C E) (v : A → B) (xs : List A) (i j : ℕ) (x d : A) → i < length xs → x ≡ get_or xs i d → each_from f j (map v (drop i xs)) ≡ onto (f j (v x)) (each_from f (suc j) (map v (drop (i + 1) xs)))
each_from-drop f v xs i j x d short at =
    rw (add-one i) (ap (λ ys. each_from f j (map v ys)) (drop-cons xs i d short)
    ∙ ap (λ y. onto (f j (v y)) (each_from f (suc j) (map v (drop (suc i) xs)))) (sym at))

-- the front, grown by what f makes of the element at i
pub each_step : {A B C E : Type 0} (f : ℕ → B → Result C E) (v : A → B) (xs : List A) (i j : ℕ) (x d : A) (front grown : List C) (y : C) → i < length xs → x ≡ get_or xs i d → f j (v x) ≡ Ok y → grown ≡ front ++ y ∷ [] → with_front grown (each_from f (j + 1) (map v (drop (i + 1) xs))) ≡ with_front front (each_from f j (map v (drop i xs)))
each_step f v xs i j x d front grown y short at made e =
    rw (e, add-one j) (with_front-push front y (each_from f (suc j) (map v (drop (i + 1) xs)))
    ∙ sym (ap (with_front front) (each_from-drop f v xs i j x d short at
    ∙ ap (λ r. onto r (each_from f (suc j) (map v (drop (i + 1) xs)))) made)))
