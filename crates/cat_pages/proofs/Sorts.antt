-- Entries in order: what a look-up of each gives, and which of them stand between two keys.
use Rattle.std.proofs.Common.{arith, ◌≡◌, ℕ, suc, ◌-◌, ◌&&◌, Bool, true, false, cond, not, List, [], ◌∷◌, take, drop, Some, None, Ordering, Less, Equal, Greater, refl, sym, ap, ◌∙◌, true≢false}
use Rattle.std.specs.Prelude.{is_some}
use Rattle.std.specs.FinMap.{IsAntisymmetric}
use Rattle.std.specs.List.{filter, AllByRecursion}
use Rattle.std.specs.Ordering.{is_eq, is_lt, is_gt, ordering_reverse}
use Rattle.std.specs.Cmp.{IsTotalOrder, tied_itself}
use Rattle.std.specs.FinMap.Entries.{find, below_all, is_sorted}
use Rattle.cat_collections.specs.Places.{before}
use Rattle.cat_collections.specs.Table.{keys}
use Rattle.cat_pages.proofs.Chunks.{all_kept, all_from}

pub less_is : (o : Ordering) → is_lt o ≡ true → o ≡ Less
less_is Less h = refl
less_is Equal h = absurd (true≢false (sym h))
less_is Greater h = absurd (true≢false (sym h))

pub both_are : (a b : Bool) → (a && b) ≡ true → (a ≡ true) × (b ≡ true)
both_are true b h = (refl, h)
both_are false b h = absurd (true≢false (sym h))

one_less : (m n : ℕ) → suc m - suc n ≡ m - n
one_less m n = omega arith

none_less : (n : ℕ) → 0 - n ≡ 0
none_less n = omega arith

less_none : (n : ℕ) → n - 0 ≡ n
less_none n = omega arith

-- the key is not below the one, and below the other
abbrev pub is_between_by : {K : Type 0} → (K → K → Ordering) → K → K → K → Bool
is_between_by R low high x = not (is_gt (R low x)) && is_gt (R high x)

module _ {K X : Type 0} (R : K → K → Ordering) where
  -- each key is below those behind it
  abbrev pub Sorted : List (K × X) → Type 0
  Sorted [] = Unit {0}
  Sorted (e ∷ es) = AllByRecursion (λ f. R e.0 f.0 ≡ Less) es × Sorted es

  are_above : (x : K) (es : List (K × X)) → below_all R x es ≡ true → AllByRecursion (λ f. R x f.0 ≡ Less) es
  are_above x [] h = tt
  are_above x (e ∷ es) h = let parts = both_are (is_lt (R x e.0)) (below_all R x es) h in (less_is (R x e.0) parts.0, are_above x es parts.1)

  pub sorted_is : (es : List (K × X)) → is_sorted R es ≡ true → Sorted es
  sorted_is [] h = tt
  sorted_is (e ∷ es) h = let parts = both_are (below_all R e.0 es) (is_sorted R es) h in (are_above e.0 es parts.0, sorted_is es parts.1)

  pub sorted_kept : (p : K × X → Bool) (es : List (K × X)) → Sorted es → Sorted (filter p es)
  sorted_kept p [] h = tt
  sorted_kept p (e ∷ es) h = go (p e) (sorted_kept p es h.1)
    where
      go : (b : Bool) → Sorted (filter p es) → Sorted (cond b (e ∷ filter p es) (filter p es))
      go true i = (all_kept (λ f. R e.0 f.0 ≡ Less) p es h.0, i)
      go false i = i

  -- ---- looking up

  -- a look-up of each gives it
  abbrev pub Seen : List (K × X) → List (K × X) → Type 0
  Seen all es = AllByRecursion (λ e. find R e.0 all ≡ Some e.1) es

  module _ (o : IsTotalOrder R) where
    seen_behind : (e : K × X) (all es : List (K × X)) → AllByRecursion (λ f. R e.0 f.0 ≡ Less) es → Seen all es → Seen (e ∷ all) es
    seen_behind e all [] h s = tt
    seen_behind e all (x ∷ xs) h s = (
      ap (λ q. cond (is_eq q) (Some e.1) (find R x.0 all)) (o.antisymm x.0 e.0 ∙ ap ordering_reverse h.0) ∙ s.0,
      seen_behind e all xs h.1 s.1,
    )

    pub all_seen : (es : List (K × X)) → Sorted es → Seen es es
    all_seen [] h = tt
    all_seen (e ∷ es) h = (
      ap (λ q. cond (is_eq q) (Some e.1) (find R e.0 es)) (tied_itself o e.0),
      seen_behind e es es h.0 (all_seen es h.1),
    )

    -- ---- between two keys

    none_between : (low high x : K) (es : List (K × X)) → is_gt (R high x) ≡ false → AllByRecursion (λ f. R x f.0 ≡ Less) es → filter (λ e. is_between_by R low high e.0) es ≡ []
    none_between low high x [] h a = refl
    none_between low high x (e ∷ es) h a =
        ap (λ b. cond (not (is_gt (R low e.0)) && b) (e ∷ filter (λ f. is_between_by R low high f.0) es) (filter (λ f. is_between_by R low high f.0) es)) (not_above (R high x) refl h)
        ∙ ap (λ b. cond b (e ∷ filter (λ f. is_between_by R low high f.0) es) (filter (λ f. is_between_by R low high f.0) es)) (and_false (not (is_gt (R low e.0))))
        ∙ none_between low high x es h a.1
      where
        and_false : (b : Bool) → (b && false) ≡ false
        and_false true = refl
        and_false false = refl

        not_above : (q : Ordering) → R high x ≡ q → is_gt q ≡ false → is_gt (R high e.0) ≡ false
        not_above Less i j = ap is_gt (o.trans high x e.0 i a.0)
        not_above Equal i j = ap is_gt (o.congr high x e.0 i ∙ a.0)
        not_above Greater i j = absurd (true≢false j)

    up_to : (low high : K) (es : List (K × X)) → AllByRecursion (λ f. is_gt (R low f.0) ≡ false) es → Sorted es → take (before R high es) es ≡ filter (λ e. is_between_by R low high e.0) es
    up_to low high [] l h = refl
    up_to low high (e ∷ es) l h =
        go (is_gt (R high e.0)) refl (up_to low high es l.1 h.1)
        ∙ ap (λ b. cond (not b && is_gt (R high e.0)) (e ∷ filter (λ f. is_between_by R low high f.0) es) (filter (λ f. is_between_by R low high f.0) es)) (sym l.0)
      where
        go : (b : Bool) → is_gt (R high e.0) ≡ b → take (before R high es) es ≡ filter (λ f. is_between_by R low high f.0) es
            → take (cond b (suc (before R high es)) 0) (e ∷ es) ≡ cond b (e ∷ filter (λ f. is_between_by R low high f.0) es) (filter (λ f. is_between_by R low high f.0) es)
        go true i rest = ap (λ t. e ∷ t) rest
        go false i rest = sym (none_between low high e.0 es i h.0)

    lower : (low x : K) (es : List (K × X)) → is_gt (R low x) ≡ false → AllByRecursion (λ f. R x f.0 ≡ Less) es → AllByRecursion (λ f. is_gt (R low f.0) ≡ false) es
    lower low x [] h a = tt
    lower low x (e ∷ es) h a = (go (R low x) refl h, lower low x es h a.1)
      where
        go : (q : Ordering) → R low x ≡ q → is_gt q ≡ false → is_gt (R low e.0) ≡ false
        go Less i j = ap is_gt (o.trans low x e.0 i a.0)
        go Equal i j = ap is_gt (o.congr low x e.0 i ∙ a.0)
        go Greater i j = absurd (true≢false j)

    -- the entries from the place of one key up to that of another are those between them
    pub between_is : (low high : K) (es : List (K × X)) → Sorted es → take (before R high es - before R low es) (drop (before R low es) es) ≡ filter (λ e. is_between_by R low high e.0) es
    between_is low high [] h = refl
    between_is low high (e ∷ es) h = go (is_gt (R low e.0)) (is_gt (R high e.0)) refl refl (between_is low high es h.1)
      where
        go : (a b : Bool) → is_gt (R low e.0) ≡ a → is_gt (R high e.0) ≡ b → take (before R high es - before R low es) (drop (before R low es) es) ≡ filter (λ f. is_between_by R low high f.0) es
            → take (cond b (suc (before R high es)) 0 - cond a (suc (before R low es)) 0) (drop (cond a (suc (before R low es)) 0) (e ∷ es))
            ≡ cond (not a && b) (e ∷ filter (λ f. is_between_by R low high f.0) es) (filter (λ f. is_between_by R low high f.0) es)
        go true true i j rest = ap (λ n. take n (drop (before R low es) es)) (one_less (before R high es) (before R low es)) ∙ rest
        go true false i j rest = ap (λ n. take n (drop (before R low es) es)) (none_less (suc (before R low es))) ∙ sym (none_between low high e.0 es j h.0)
        go false true i j rest = ap (λ n. take n (e ∷ es)) (less_none (suc (before R high es))) ∙ ap (λ t. e ∷ t) (up_to low high es (lower low e.0 es i h.0) h.1)
        go false false i j rest = ap (λ n. take n (e ∷ es)) (none_less 0) ∙ sym (none_between low high e.0 es j h.0)

-- ---- the same keys

module _ {K : Type 0} (R : K → K → Ordering) (o : IsTotalOrder R) (a : IsAntisymmetric R) where
  -- the key isn't among entries that are all above it
  absent : {Z : Type 0} (x : K) (es : List (K × Z)) → AllByRecursion (λ f. R x f.0 ≡ Less) es → find R x es ≡ None
  absent x [] h = refl
  absent x (e ∷ es) h = ap (λ q. cond (is_eq q) (Some e.1) (find R x es)) h.0 ∙ absent x es h.1

  first_here : {Z : Type 0} (e : K × Z) (es : List (K × Z)) → is_some (find R e.0 (e ∷ es)) ≡ true
  first_here e es = ap (λ q. is_some (cond (is_eq q) (Some e.1) (find R e.0 es))) (tied_itself o e.0)

  below_both : {Z : Type 0} (x : K) (e : K × Z) (es : List (K × Z)) → R x e.0 ≡ Less → Sorted R (e ∷ es) → AllByRecursion (λ f. R x f.0 ≡ Less) (e ∷ es)
  below_both x e es l h = (l, all_from (λ (f : K × _). R e.0 f.0 ≡ Less) (λ f. R x f.0 ≡ Less) es (λ f k. o.trans x e.0 f.0 l k) h.0)

  -- entries in order that have the same keys have them in the same places
  pub same_keys : {X Y : Type 0} (s : List (K × X)) (m : List (K × Y)) → Sorted R s → Sorted R m → ((q : K) → is_some (find R q s) ≡ is_some (find R q m)) → keys s ≡ keys m
  same_keys [] [] g h is = refl
  same_keys [] (f ∷ fs) g h is = absurd (true≢false (sym (first_here f fs) ∙ sym (is f.0)))
  same_keys (e ∷ es) [] g h is = absurd (true≢false (sym (first_here e es) ∙ is e.0))
  same_keys (e ∷ es) (f ∷ fs) g h is = go (R e.0 f.0) refl (λ later. same_keys es fs g.1 h.1 later)
    where
      rest : {Z : Type 0} (q x : K) (z : Z) (zs : List (K × Z)) → R q x ≡ Equal → AllByRecursion (λ y. R x y.0 ≡ Less) zs → is_some (find R q zs) ≡ false
      rest q x z zs t b = ap (λ y. is_some (find R y zs)) (a q x t) ∙ ap is_some (absent x zs b)

      tails : e.0 ≡ f.0 → (q : K) → is_some (find R q es) ≡ is_some (find R q fs)
      tails same q = step (R q e.0) refl
        where
          other : (p : Ordering) → is_eq p ≡ false → R q e.0 ≡ p → is_some (find R q es) ≡ is_some (find R q fs)
          other p n i =
              ap (λ b. is_some (cond b (Some e.1) (find R q es))) (sym (ap is_eq i ∙ n))
              ∙ is q
              ∙ ap (λ b. is_some (cond b (Some f.1) (find R q fs))) (ap (λ x. is_eq (R q x)) (sym same) ∙ ap is_eq i ∙ n)

          step : (p : Ordering) → R q e.0 ≡ p → is_some (find R q es) ≡ is_some (find R q fs)
          step Less i = other Less refl i
          step Greater i = other Greater refl i
          step Equal i = rest q e.0 e.1 es i g.0 ∙ sym (rest q f.0 f.1 fs (ap (R q) (sym same) ∙ i) h.0)

      go : (p : Ordering) → R e.0 f.0 ≡ p → (((q : K) → is_some (find R q es) ≡ is_some (find R q fs)) → keys es ≡ keys fs) → keys (e ∷ es) ≡ keys (f ∷ fs)
      go Less i rec = absurd (true≢false (sym (first_here e es) ∙ is e.0 ∙ ap is_some (absent e.0 (f ∷ fs) (below_both e.0 f fs i h))))
      go Greater i rec =
          absurd (true≢false (sym (first_here f fs) ∙ sym (is f.0) ∙ ap is_some (absent f.0 (e ∷ es) (below_both f.0 e es (o.antisymm f.0 e.0 ∙ ap ordering_reverse i) g))))
      go Equal i rec = (λ j. a e.0 f.0 i j ∷ rec (tails (a e.0 f.0 i)) j)
