-- Wrong rows, one after the other.
use Rattle.std.proofs.Common.{◌≡◌, ℕ, ◌+◌, ◌<◌, ◌≤◌, ◌^◌, min, Bool, true, false, not, ◌&&◌, ◌||◌, List, [], ◌∷◌, ◌++◌, take, length, get_or, append_assoc, refl, sym, ap, subst, ◌∙◌, arith, true≢false, ltb-true, ltb-false}
use Rattle.std.specs.Prelude.{slice_get, nat_lt}
use Rattle.std.specs.List.{sum_by}
use Rattle.std.specs.declared.option.Option.{Option}
use Rattle.std.specs.declared.option.Option.TheVariants.{None, Some}
use Rattle.std.proofs.lemmas.List.{take_more}
use Rattle.std.proofs.lemmas.List.Sums.{sum_by_push}
use Rattle.std.proofs.lemmas.Option.{same_Some, slice_get_within, slice_get-get_or}
use Rattle.cat_row_format.specs.declared.row.StoredRow.{StoredRow}
use Rattle.cat_row_faults.specs.First.{IsWrongAt, is_wrong}
use Rattle.cat_row_faults.specs.Readings.{Readings, read_rows, row_in}
use Rattle.cat_row_faults.specs.Rules.{is_input, is_right, weight, weights}
use Rattle.cat_row_faults.specs.Told.{Answers, answers}

read_rows_append : (os ps : Readings) → read_rows (os ++ ps) ≡ read_rows os ++ read_rows ps
read_rows_append [] ps = refl
read_rows_append (o ∷ os) ps = ap (λ l. row_in o ++ l) (read_rows_append os ps) ∙ sym (append_assoc (row_in o) (read_rows os) (read_rows ps))

-- the rows that are read with one text more
pub read_more : (rs : Readings) (i : ℕ) (row : StoredRow) → i < length rs → Some row ≡ get_or rs i (Some row) → read_rows (take (i + 1) rs) ≡ read_rows (take i rs) ++ row ∷ []
read_more rs i row h at =
    ap read_rows (take_more rs i (Some row) h ∙ ap (λ o. take i rs ++ o ∷ []) (sym at)) ∙ read_rows_append (take i rs) (Some row ∷ [])

added_min : (s w m : ℕ) → min (min s m + w) m ≡ min (s + w) m
added_min s w m = omega arith

-- what they weigh with one more
pub weights_more : (a : Answers) (before : List StoredRow) (row : StoredRow) → min (weights a before + weight a row) (2 ^ 62) ≡ weights a (before ++ row ∷ [])
weights_more a before row = added_min (sum_by (weight a) before) (weight a row) (2 ^ 62) ∙ ap (λ s. min s (2 ^ 62)) (sym (sum_by_push (weight a) before row))

-- a text that has no reading is wrong
pub unread_wrong : (limit : ℕ) (rs : Readings) (i : ℕ) → slice_get rs i ≡ Some None → IsWrongAt limit rs i
unread_wrong limit rs i at = record { reading = None; at = at; wrong = refl }

not_and : (p q r : Bool) → (p && not (q && r)) ≡ false → (not p || (q && r)) ≡ true
not_and true true true e = refl
not_and true true false e = absurd (true≢false e)
not_and true false r e = absurd (true≢false e)
not_and false q r e = refl

and_not : (p q r : Bool) → (p && not (q && r)) ≡ true → (not p || (q && r)) ≡ false
and_not true true true e = absurd (true≢false (sym e))
and_not true true false e = refl
and_not true false r e = refl
and_not false q r e = absurd (true≢false (sym e))

-- a row that doesn't keep to the rules is wrong
pub row_wrong : (limit : ℕ) (rs : Readings) (i : ℕ) (row : StoredRow) → slice_get rs i ≡ Some (Some row)
    → (is_right (answers rs) row && not (is_input row && nat_lt limit (weights (answers rs) (read_rows (take i rs) ++ row ∷ [])))) ≡ false → IsWrongAt limit rs i
row_wrong limit rs i row at e = record { reading = Some row; at = at; wrong = not_and (is_right (answers rs) row) (is_input row) _ e }

-- and one that does isn't
pub row_right : (limit : ℕ) (rs : Readings) (i : ℕ) (row : StoredRow) → slice_get rs i ≡ Some (Some row)
    → (is_right (answers rs) row && not (is_input row && nat_lt limit (weights (answers rs) (read_rows (take i rs) ++ row ∷ [])))) ≡ true → ¬ IsWrongAt limit rs i
row_right limit rs i row at e w =
    let same : w.reading ≡ Some row = same_Some _ _ (sym w.at ∙ at) in
    absurd (true≢false (sym w.wrong ∙ (ap (is_wrong (answers rs) limit (read_rows (take i rs))) same ∙ and_not (is_right (answers rs) row) (is_input row) _ e)))

-- none before a place is wrong, nor is the one there: none before the next
pub none_more : (limit : ℕ) (rs : Readings) (i : ℕ) → ((q : ℕ) → q < i → ¬ IsWrongAt limit rs q) → ¬ IsWrongAt limit rs i → (q : ℕ) → q < i + 1 → ¬ IsWrongAt limit rs q
none_more limit rs i none this q h w = go (nat_lt q i) refl
  where
    go : (b : Bool) → nat_lt q i ≡ b → ⊥
    go true e = none q (ltb-true q i e) w
    go false e = let high = ltb-false q i e in let same : q ≡ i = omega (arith, high, h) in this (subst (IsWrongAt limit rs) same w)

-- none of all
pub none_all : (limit : ℕ) (rs : Readings) (i : ℕ) → length rs ≤ i → ((q : ℕ) → q < i → ¬ IsWrongAt limit rs q) → (q : ℕ) → ¬ IsWrongAt limit rs q
none_all limit rs i h none q w = let within = slice_get_within rs q w.reading w.at in none q (omega (arith, within, h)) w

-- the reading that was found at a place
pub here : (rs : Readings) (i : ℕ) (x o : Option StoredRow) → i < length rs → x ≡ get_or rs i x → x ≡ o → slice_get rs i ≡ Some o
here rs i x o h at is = slice_get-get_or rs i x h ∙ ap Some (sym at ∙ is)
