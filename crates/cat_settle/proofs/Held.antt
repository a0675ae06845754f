-- In a table in order, what is found under the key of an entry is its value.
use Rattle.std.proofs.Common.{◌≡◌, Bool, true, false, cond, List, [], ◌∷◌, ◌++◌, length, refl, sym, ap, subst, ◌∙◌, Ordering, append_assoc}
use Rattle.std.specs.declared.option.Option.{Option}
use Rattle.std.specs.declared.option.Option.TheVariants.{Some}
use Rattle.std.specs.Cmp.{IsTotalOrder, tied_itself}
use Rattle.std.specs.FinMap.{IsAntisymmetric}
use Rattle.std.specs.FinMap.Entries.{is_sorted}
use Rattle.std.specs.List.{filter}
use Rattle.std.proofs.lemmas.List.{length-map}
use Rattle.cat_collections.specs.Table.{find, keys}
use Rattle.cat_collections.proofs.Searched.{find_here}

-- under the key of an entry its value is found
abbrev pub IsHeld : {K X : Type 0} → (K → K → Ordering) → List (K × X) → K × X → Type 0
IsHeld R m e = find R e.0 m ≡ Some e.1

-- and so it is for each of these entries
abbrev pub AreHeld : {K X : Type 0} → (K → K → Ordering) → List (K × X) → List (K × X) → Type 0
AreHeld R m [] = Unit {0}
AreHeld R m (e ∷ es) = IsHeld R m e × AreHeld R m es

module _ {K X : Type 0} (R : K → K → Ordering) where
  -- what is asked of the values found under keys is asked of the values of the entries
  pub filter_held : (p : Option X → Bool) (m es : List (K × X)) → AreHeld R m es → filter (λ k. p (find R k m)) (keys es) ≡ keys (filter (λ e. p (Some e.1)) es)
  filter_held p m [] h = refl
  filter_held p m (e ∷ es) h =
      ap (λ v. cond (p v) (e.0 ∷ filter (λ k. p (find R k m)) (keys es)) (filter (λ k. p (find R k m)) (keys es))) h.0 ∙ go (p (Some e.1)) (filter_held p m es h.1)
    where
      go : (b : Bool) → filter (λ k. p (find R k m)) (keys es) ≡ keys (filter (λ e. p (Some e.1)) es)
          → cond b (e.0 ∷ filter (λ k. p (find R k m)) (keys es)) (filter (λ k. p (find R k m)) (keys es)) ≡ keys (cond b (e ∷ filter (λ e. p (Some e.1)) es) (filter (λ e. p (Some e.1)) es))
      go true ih = ap (λ ks. e.0 ∷ ks) ih
      go false ih = ih

module _ {K X : Type 0} {R : K → K → Ordering} (o : IsTotalOrder R) (s : IsAntisymmetric R) where
  behind : (before es : List (K × X)) → is_sorted R (before ++ es) ≡ true → AreHeld R (before ++ es) es
  behind before [] h = tt
  behind before (e ∷ es) h =
      let same : (before ++ e ∷ []) ++ es ≡ before ++ e ∷ es = append_assoc before (e ∷ []) es in (
        find_here o s e.0 before e es h (tied_itself o e.0),
        subst (λ l. AreHeld R l es) same (behind (before ++ e ∷ []) es (ap (is_sorted R) same ∙ h)),
      )

  -- in order, each entry is found
  pub are_held : (m : List (K × X)) → is_sorted R m ≡ true → AreHeld R m m
  are_held m h = behind [] m h

  -- in order, the keys of the entries whose values pass are those under which such values are found
  pub keys_in_order : (p : Option X → Bool) (m : List (K × X)) → is_sorted R m ≡ true → keys (filter (λ e. p (Some e.1)) m) ≡ filter (λ k. p (find R k m)) (keys m)
  keys_in_order p m h = sym (filter_held R p m m (are_held m h))

  -- and they are as many
  pub count_in_order : (p : Option X → Bool) (m : List (K × X)) → is_sorted R m ≡ true → length (filter (λ e. p (Some e.1)) m) ≡ length (filter (λ k. p (find R k m)) (keys m))
  count_in_order p m h = sym (length-map (filter (λ e. p (Some e.1)) m) (λ (e : K × X). e.0)) ∙ ap length (keys_in_order p m h)
