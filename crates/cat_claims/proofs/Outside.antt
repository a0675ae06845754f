-- Maps without some of their keys.
use Rattle.std.proofs.Common.{T, ◌≡◌, ℕ, ◌+◌, ◌<◌, Bool, true, false, cond, not, ◌||◌, List, [], ◌∷◌, ◌++◌, length, take, get_or, refl, sym, ap, ◌∙◌, is_some, true≢false, Ordering}
use Rattle.std.specs.declared.option.Option.{Option}
use Rattle.std.specs.declared.option.Option.TheVariants.{None, Some}
use Rattle.std.specs.Option.{option_and_then}
use Rattle.std.specs.List.{list_any}
use Rattle.std.specs.Ordering.{eq_by_cmp}
use Rattle.std.specs.Cmp.{IsTotalOrder, both_ways}
use Rattle.std.specs.FinMap.{IsAntisymmetric}
use Rattle.std.specs.FinMap.Entries.{find, is_sorted, is_sorted-where_key, find-where_key, same_entries}
use Rattle.std.proofs.lemmas.List.{take_more}
use Rattle.std.proofs.lemmas.List.Folds.{list_any-append}
use Rattle.cat_collections.specs.Table.{keys}
use Rattle.cat_collections.specs.Rows.{without}
use Rattle.cat_collections.proofs.Tables.{same_is, same_self, find-over, is_sorted-tabulate}
use Rattle.cat_claims.specs.Touched.{outside}

pub to_T : (b : Bool) → b ≡ true → T b
to_T true h = tt
to_T false h = absurd (true≢false (sym h))

module _ {K : Type 0} {R : K → K → Ordering} (o : IsTotalOrder R) (s : IsAntisymmetric R) where
  pub same_sym : (x y : K) → eq_by_cmp R x y ≡ eq_by_cmp R y x
  same_sym x y = both_ways _ _ (λ h. ap (eq_by_cmp R y) (same_is o s x y h) ∙ same_self o s y) (λ h. ap (eq_by_cmp R x) (same_is o s y x h) ∙ same_self o s x)

module _ {K X : Type 0} {R : K → K → Ordering} (o : IsTotalOrder R) (s : IsAntisymmetric R) where
  pub find-outside : (ks : List K) (m : List (K × X)) (q : K) → find R q (outside R ks m) ≡ cond (list_any (eq_by_cmp R q) ks) None (find R q m)
  find-outside ks m q = find-over o s q m (λ k x. cond (list_any (eq_by_cmp R k) ks) None (Some x)) ∙ go (list_any (eq_by_cmp R q) ks) (find R q m)
    where
      go : (b : Bool) (v : Option X) → option_and_then (λ x. cond b None (Some x)) v ≡ cond b None v
      go true None = refl
      go true (Some x) = refl
      go false None = refl
      go false (Some x) = refl

  outside_in_order : (ks : List K) (m : List (K × X)) → T (is_sorted R (outside R ks m))
  outside_in_order ks m = is_sorted-tabulate o s (keys m) (λ k. option_and_then (λ x. cond (list_any (eq_by_cmp R k) ks) None (Some x)) (find R k m))

  find-without : (k q : K) (m : List (K × X)) → find R q (without R k m) ≡ cond (not (eq_by_cmp R k q)) (find R q m) None
  find-without k q m = find-where_key R (λ x. not (eq_by_cmp R k x)) q (λ x tie. ap (λ y. not (eq_by_cmp R k y)) (sym (s q x tie))) m

  without-outside : (ks : List K) (k : K) (m : List (K × X)) → without R k (outside R ks m) ≡ outside R (ks ++ k ∷ []) m
  without-outside ks k m = same_entries R o s (without R k (outside R ks m)) (outside R (ks ++ k ∷ []) m)
      (is_sorted-where_key R (λ x. not (eq_by_cmp R k x)) (outside R ks m) (outside_in_order ks m)) (outside_in_order (ks ++ k ∷ []) m)
      (λ q. find-without k q (outside R ks m) ∙ (ap (λ v. cond (not (eq_by_cmp R k q)) v None) (find-outside ks m q)
      ∙ (go (eq_by_cmp R k q) (list_any (eq_by_cmp R q) ks) (find R q m)
      ∙ (sym (ap (λ b. cond b None (find R q m)) (list_any-append (eq_by_cmp R q) ks (k ∷ []) ∙ ap (λ b. list_any (eq_by_cmp R q) ks || (b || false)) (same_sym o s q k)))
      ∙ sym (find-outside (ks ++ k ∷ []) m q)))))
    where
      go : (b c : Bool) (v : Option X) → cond (not b) (cond c None v) None ≡ cond (c || (b || false)) None v
      go true true v = refl
      go true false v = refl
      go false true v = refl
      go false false v = refl

  -- one key more is taken out
  pub outside_more : (ks : List K) (i : ℕ) (k : K) (old now new : List (K × X)) → i < length ks → new ≡ without R (get_or ks i k) now → now ≡ outside R (take i ks) old → new ≡ outside R (take (i + 1) ks) old
  outside_more ks i k old now new l e h =
      e ∙ (ap (without R (get_or ks i k)) h ∙ (without-outside (take i ks) (get_or ks i k) old ∙ sym (ap (λ js. outside R js old) (take_more ks i k l))))

  -- at first none is
  pub outside_none : (m : List (K × X)) → is_sorted R m ≡ true → m ≡ outside R [] m
  outside_none m h = same_entries R o s m (outside R [] m) (to_T _ h) (outside_in_order [] m) (λ q. sym (find-outside [] m q))

module _ {K X : Type 0} (R : K → K → Ordering) where
  -- a key that isn't there
  pub without_none : (k : K) (m : List (K × X)) → find R k m ≡ None → m ≡ without R k m
  without_none k [] h = refl
  without_none k (e ∷ es) h = go (eq_by_cmp R k e.0) h (without_none k es)
    where
      go : (b : Bool) → cond b (Some e.1) (find R k es) ≡ None → (find R k es ≡ None → es ≡ without R k es) → e ∷ es ≡ cond (not b) (e ∷ without R k es) (without R k es)
      go true h ih = absurd (true≢false (ap is_some h))
      go false h ih = ap (λ l. e ∷ l) (ih h)
