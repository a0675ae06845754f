-- Where an entry is put.
use Rattle.std.proofs.Common.{◌≡◌, ℕ, ◌+◌, ◌<◌, List, ◌∷◌, ◌++◌, length, take, drop, Ordering, Equal, sym, ap, ◌∙◌}
use Rattle.std.proofs.Math.ListN.{get_or, set}
use Rattle.std.proofs.lemmas.List.{take-append-drop, take-set, drop-set, drop_more}
use Rattle.std.specs.FinMap.Entries.{by_order}
use Rattle.cat_collections.specs.Table.{put}

module _ {K X : Type 0} (R : K → K → Ordering) where
  pub put_equal : (es : List (K × X)) (i : ℕ) (k : K) (v : X) (x y : K × X) → i < length es → x ≡ get_or es i x → y ≡ get_or es i y → R k x.0 ≡ Equal
      → put R k v es ≡ take i es ++ put R k v (drop i es) → set es i (y.0, v) ≡ put R k v es
  put_equal es i k v x y h ex ey tie all =
      let left : drop i es ≡ y ∷ drop (i + 1) es = drop_more es i y h ∙ ap (λ z. z ∷ drop (i + 1) es) (sym ey) in
      let other : drop i es ≡ x ∷ drop (i + 1) es = drop_more es i x h ∙ ap (λ z. z ∷ drop (i + 1) es) (sym ex) in
      let same : x ≡ y = ap (λ l. get_or l 0 x) (sym other ∙ left) in
      let there : R k y.0 ≡ Equal = ap (λ z. R k z.0) (sym same) ∙ tie in
      let made : put R k v (drop i es) ≡ (y.0, v) ∷ drop (i + 1) es = ap (put R k v) left ∙ ap (λ o. by_order o ((k, v) ∷ y ∷ drop (i + 1) es) ((y.0, v) ∷ drop (i + 1) es) (y ∷ put R k v (drop (i + 1) es))) there in
      let now : set es i (y.0, v) ≡ take i es ++ (y.0, v) ∷ drop (i + 1) es =
      sym (take-append-drop i (set es i (y.0, v))) ∙ (λ j. take-set es i (y.0, v) j ++ drop-set es i (y.0, v) h j) in
      now ∙ (ap (λ l. take i es ++ l) (sym made) ∙ sym all)
