-- Whether keys rise, from one row to the next.
use Rattle.std.proofs.Common.{T, ◌≡◌, ℕ, zero, suc, ◌+◌, ◌<◌, ◌≤◌, Bool, true, false, not, ◌&&◌, List, [], ◌∷◌, length, drop, get_or, refl, sym, ap, ◌∙◌, true≢false, Ordering, Less, Equal, Greater, arith}
use Rattle.std.specs.Prelude.{if◌then◌else◌}
use Rattle.std.specs.Ordering.{eq_by_cmp, is_lt}
use Rattle.std.specs.Cmp.{IsTotalOrder}
use Rattle.std.specs.FinMap.Entries.{below_all, is_sorted, is_sorted-put, is_sorted-where_key}
use Rattle.std.proofs.lemmas.List.{drop_more}
use Rattle.cat_collections.specs.Rows.{without}
use Rattle.cat_collections.specs.Table.{put, puts}

false_right : (b : Bool) → (b && false) ≡ false
false_right true = refl
false_right false = refl

is_less : (o : Ordering) → is_lt o ≡ true → o ≡ Less
is_less Less e = refl
is_less Equal e = absurd (true≢false (sym e))
is_less Greater e = absurd (true≢false (sym e))

first_true : (a b : Bool) → (a && b) ≡ true → a ≡ true
first_true true b e = refl
first_true false b e = e

second_true : (a b : Bool) → (a && b) ≡ true → b ≡ true
second_true true b e = e
second_true false b e = absurd (true≢false (sym e))

module _ {K X : Type 0} {R : K → K → Ordering} (o : IsTotalOrder R) where
  below_less : (x y : K) (es : List (K × X)) → R x y ≡ Less → below_all R y es ≡ true → below_all R x es ≡ true
  below_less x y [] p h = refl
  below_less x y (e ∷ es) p h =
      ap (λ b. b && below_all R x es) (ap is_lt (o.trans x y e.0 p (is_less _ (first_true _ _ h)))) ∙ below_less x y es p (second_true _ _ h)

  -- keys rise where the first is below the second, and the rest rises
  pub rises_next : (x y : K × X) (es : List (K × X)) → is_sorted R (x ∷ y ∷ es) ≡ (is_lt (R x.0 y.0) && is_sorted R (y ∷ es))
  rises_next x y es = go (is_lt (R x.0 y.0)) refl (below_all R y.0 es) refl
    where
      go : (b : Bool) → is_lt (R x.0 y.0) ≡ b → (c : Bool) → below_all R y.0 es ≡ c → ((b && below_all R x.0 es) && (c && is_sorted R es)) ≡ (b && (c && is_sorted R es))
      go false e c f = refl
      go true e false f = false_right (below_all R x.0 es)
      go true e true f = ap (λ b. b && is_sorted R es) (below_less x.0 y.0 es (is_less _ e) f)

  two : (rows : List (K × X)) (i : ℕ) (x y : K × X) → i + 1 < length rows → x ≡ get_or rows i x → y ≡ get_or rows (i + 1) y → drop i rows ≡ x ∷ y ∷ drop (i + 1 + 1) rows
  two rows i x y h ex ey =
      drop_more rows i x (omega arith) ∙ ((λ j. sym ex j ∷ drop (i + 1) rows) ∙ ap (λ l. x ∷ l) (drop_more rows (i + 1) y h ∙ (λ j. sym ey j ∷ drop (i + 1 + 1) rows)))

  pub rises_at : (rows : List (K × X)) (i : ℕ) (x y : K × X) → i + 1 < length rows → x ≡ get_or rows i x → y ≡ get_or rows (i + 1) y
      → is_sorted R (drop i rows) ≡ (is_lt (R x.0 y.0) && is_sorted R (drop (i + 1) rows))
  rises_at rows i x y h ex ey =
      ap (is_sorted R) (two rows i x y h ex ey) ∙ (rises_next x y (drop (i + 1 + 1) rows)
      ∙ ap (λ l. is_lt (R x.0 y.0) && is_sorted R l) (sym (drop_more rows (i + 1) y h ∙ (λ j. sym ey j ∷ drop (i + 1 + 1) rows))))

  -- a row alone, or none
  pub rises_last : (rows : List (K × X)) (i : ℕ) → length rows ≤ i + 1 → is_sorted R (drop i rows) ≡ true
  rises_last rows i h = go (drop i rows) (length-drop' i rows h)
    where
      go : (l : List (K × X)) → length l ≤ 1 → is_sorted R l ≡ true
      go [] h = refl
      go (x ∷ []) h = refl
      go (x ∷ y ∷ l) h = absurd (omega arith)

      length-drop' : (i : ℕ) (rows : List (K × X)) → length rows ≤ i + 1 → length (drop i rows) ≤ 1
      length-drop' zero rows h = h
      length-drop' (suc i) [] h = omega arith
      length-drop' (suc i) (r ∷ rows) h = length-drop' i rows (omega arith)

-- ---- what changes of a map keep

to_T : (b : Bool) → b ≡ true → T b
to_T true h = tt
to_T false h = absurd (true≢false (sym h))

pub from_T : (b : Bool) → T b → b ≡ true
from_T true h = refl
from_T false h = absurd h

module _ {K X : Type 0} {R : K → K → Ordering} (o : IsTotalOrder R) where
  pub put_rises : (k : K) (v : X) (m : List (K × X)) → is_sorted R m ≡ true → is_sorted R (put R k v m) ≡ true
  put_rises k v m h = from_T _ (is_sorted-put R o k v m (to_T _ h))

  pub put_if_rises : (b : Bool) (k : K) (v : X) (m : List (K × X)) → is_sorted R m ≡ true → is_sorted R (if b then put R k v m else m) ≡ true
  put_if_rises true k v m h = put_rises k v m h
  put_if_rises false k v m h = h

  pub puts_rise : (es m : List (K × X)) → is_sorted R m ≡ true → is_sorted R (puts R es m) ≡ true
  puts_rise [] m h = h
  puts_rise (e ∷ es) m h = puts_rise es (put R e.0 e.1 m) (put_rises e.0 e.1 m h)

  pub puts_if_rise : (b : Bool) (es m : List (K × X)) → is_sorted R m ≡ true → is_sorted R (if b then puts R es m else m) ≡ true
  puts_if_rise true es m h = puts_rise es m h
  puts_if_rise false es m h = h

  pub without_rises : (k : K) (m : List (K × X)) → is_sorted R m ≡ true → is_sorted R (without R k m) ≡ true
  without_rises k m h = from_T _ (is_sorted-where_key R (λ q. not (eq_by_cmp R k q)) m (to_T _ h))
