-- The nearest of rows is the same in whatever order they are met.
use Rattle.std.proofs.Common.{◌≡◌, ℕ, Bool, true, false, cond, ◌&&◌, List, [], ◌∷◌, refl, sym, ap, subst, ◌∙◌, is_some, true≢false, Ordering, Less, Equal, Greater}
use Rattle.std.specs.declared.option.Option.{Option}
use Rattle.std.specs.declared.option.Option.TheVariants.{None, Some}
use Rattle.std.specs.Ordering.{is_gt, ordering_reverse}
use Rattle.std.specs.Cmp.{IsTotalOrder}
use Rattle.std.specs.FinMap.{IsAntisymmetric}
use Rattle.cat_model.specs.declared.types.Row.{Row}
use Rattle.cat_model.specs.declared.types.State.{State}
use Rattle.cat_model.specs.Reply.{RowPlace, place_cmp, waits}
use Rattle.cat_core.specs.Least.{lesser, nearer}
use Rattle.cat_core.specs.Waits.{is_above, nearest, place_of}
use Rattle.cat_core.proofs.Walks.{place_antisymmetric, place_total}

is_greater : (r : Ordering) → is_gt r ≡ true → r ≡ Greater
is_greater Less e = absurd (true≢false (sym e))
is_greater Equal e = absurd (true≢false (sym e))
is_greater Greater e = refl

module _ {K : Type 0} {R : K → K → Ordering} (o : IsTotalOrder R) (s : IsAntisymmetric R) where
  -- of two keys the lesser is the same either way
  two_swapped : (k j : K) → lesser R k (Some j) ≡ lesser R j (Some k)
  two_swapped k j = go (R k j) refl ∙ ap (λ r. cond (is_gt r) (Some k) (Some j)) (sym (o.antisymm j k))
    where
      go : (r : Ordering) → R k j ≡ r → cond (is_gt r) (Some j) (Some k) ≡ cond (is_gt (ordering_reverse r)) (Some k) (Some j)
      go Less e = refl
      go Equal e = ap Some (s k j e)
      go Greater e = refl

  -- a key above one that another isn't above is above that other
  above_other : (k j b : K) → is_gt (R j b) ≡ true → is_gt (R k b) ≡ false → is_gt (R j k) ≡ true
  above_other k j b h n = go (R k b) refl n
    where
      under : R b j ≡ Less
      under = o.antisymm b j ∙ ap ordering_reverse (is_greater _ h)

      go : (r : Ordering) → R k b ≡ r → is_gt r ≡ false → is_gt (R j k) ≡ true
      go Less e n = ap is_gt (o.antisymm j k ∙ ap ordering_reverse (o.trans k b j e under))
      go Equal e n = subst (λ x. is_gt (R j x) ≡ true) (sym (s k b e)) h
      go Greater e n = absurd (true≢false n)

  lesser_swapped : (k j : K) (b : Option K) → lesser R k (lesser R j b) ≡ lesser R j (lesser R k b)
  lesser_swapped k j None = two_swapped k j
  lesser_swapped k j (Some b) = go (is_gt (R j b)) refl (is_gt (R k b)) refl
    where
      go : (x : Bool) → is_gt (R j b) ≡ x → (y : Bool) → is_gt (R k b) ≡ y → lesser R k (cond x (Some b) (Some j)) ≡ lesser R j (cond y (Some b) (Some k))
      go true e true f = ap (λ z. cond z (Some b) (Some k)) f ∙ ap (λ z. cond z (Some b) (Some j)) (sym e)
      go true e false f = ap (λ z. cond z (Some b) (Some k)) f ∙ ap (λ z. cond z (Some k) (Some j)) (sym (above_other k j b e f))
      go false e true f = ap (λ z. cond z (Some j) (Some k)) (above_other j k b f e) ∙ ap (λ z. cond z (Some b) (Some j)) (sym e)
      go false e false f = two_swapped k j

  nearer_swapped : (p q : Bool) (k j : K) (b : Option K) → nearer R p k (nearer R q j b) ≡ nearer R q j (nearer R p k b)
  nearer_swapped true true k j b = lesser_swapped k j b
  nearer_swapped true false k j b = refl
  nearer_swapped false q k j b = refl

module _ (m : State) (after : Option RowPlace) where
  -- of the best so far and of these rows, the least place above another, if there is one, of a row that doesn't hold its reference
  abbrev pub nearest_with : List (ℕ × Row) → Option RowPlace → Option RowPlace
  nearest_with [] best = best
  nearest_with (e ∷ es) best = nearer place_cmp (is_above place_cmp after (place_of e) && is_some (waits m e.0 (Some e.1))) (place_of e) (nearest_with es best)

  pub nearest_begun : (es : List (ℕ × Row)) → nearest_with es None ≡ nearest m after es
  nearest_begun [] = refl
  nearest_begun (e ∷ es) = ap (nearer place_cmp (is_above place_cmp after (place_of e) && is_some (waits m e.0 (Some e.1))) (place_of e)) (nearest_begun es)

  pub nearest_more : (p : Bool) (k : RowPlace) (best : Option RowPlace) (es : List (ℕ × Row)) → nearest_with es (nearer place_cmp p k best) ≡ nearer place_cmp p k (nearest_with es best)
  nearest_more p k best [] = refl
  nearest_more p k best (e ∷ es) =
      let q = is_above place_cmp after (place_of e) && is_some (waits m e.0 (Some e.1)) in
      ap (nearer place_cmp q (place_of e)) (nearest_more p k best es) ∙ nearer_swapped place_total place_antisymmetric q p (place_of e) k (nearest_with es best)
