-- What is found in a table passes where all entries do, and numbers that pass a test.
use Rattle.std.proofs.Common.{T, ◌≡◌, Bool, true, false, cond, nat_eq, List, [], ◌∷◌, length, refl, sym, ap, ◌∙◌, is_some, unwrap_or, true≢false, arith, Ordering, eqb-true}
use Rattle.std.specs.declared.option.Option.{Option}
use Rattle.std.specs.declared.option.Option.TheVariants.{None, Some}
use Rattle.std.specs.Cmp.{IsTotalOrder}
use Rattle.std.specs.FinMap.{IsAntisymmetric}
use Rattle.std.specs.FinMap.Entries.{is_sorted, same_entries}
use Rattle.std.specs.List.{list_all}
use Rattle.std.specs.Option.{option_and_then}
use Rattle.std.specs.Ordering.{eq_by_cmp}
use Rattle.cat_collections.specs.Table.{find, keys, over}
use Rattle.cat_collections.proofs.Tables.{and_first, and_second, find-over, is_sorted-tabulate, same_is}

module _ {K X : Type 0} {R : K → K → Ordering} (o : IsTotalOrder R) (s : IsAntisymmetric R) where
  -- what is found passes, where each entry does
  pub found_passes : (p : K × X → Bool) (m : List (K × X)) → list_all p m ≡ true → (q : K) (x : X) → find R q m ≡ Some x → p (q, x) ≡ true
  found_passes p [] h q x f = absurd (true≢false (sym (ap is_some f)))
  found_passes p (e ∷ es) h q x f = go (eq_by_cmp R q e.0) refl f (found_passes p es (and_second (p e) _ h) q x)
    where
      go : (b : Bool) → eq_by_cmp R q e.0 ≡ b → cond b (Some e.1) (find R q es) ≡ Some x → (find R q es ≡ Some x → p (q, x) ≡ true) → p (q, x) ≡ true
      go true k g ih =
          let key : q ≡ e.0 = same_is o s q e.0 k in
          let value : x ≡ e.1 = ap (λ v. unwrap_or v x) (sym g) in
          (λ i. p (key i, value i)) ∙ and_first (p e) _ h
      go false k g ih = ih g

  -- a table in order in which nothing is changed stays as it is
  pub over_same : (m : List (K × X)) (f : K → X → Option X) → T (is_sorted R m) → ((k : K) (x : X) → find R k m ≡ Some x → f k x ≡ Some x) → over R m f ≡ m
  over_same m f h same = same_entries R o s (over R m f) m (is_sorted-tabulate o s (keys m) (λ k. option_and_then (f k) (find R k m))) h (λ q. find-over o s q m f ∙ go q (find R q m) refl)
    where
      go : (q : K) (v : Option X) → find R q m ≡ v → option_and_then (f q) v ≡ v
      go q None e = refl
      go q (Some x) e = same q x e

-- a list without items
pub no_items : {A : Type 0} (xs : List A) → nat_eq (length xs) 0 ≡ true → xs ≡ []
no_items [] h = refl
no_items (x ∷ xs) h = let e : length (x ∷ xs) ≡ 0 = eqb-true _ _ h in absurd (omega (arith, e))

-- a test that is passed
pub T-true : (b : Bool) → b ≡ true → T b
T-true true h = tt
T-true false h = absurd (true≢false (sym h))
