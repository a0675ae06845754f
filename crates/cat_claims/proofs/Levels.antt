-- What is cut off, level by level.
use Rattle.std.proofs.Common.{◌≡◌, ◌||◌, Ordering, ℕ, zero, suc, ◌+◌, ◌-◌, ◌<◌, List, [], ◌∷◌, ◌++◌, length, take, get_or, refl, sym, ap, ◌∙◌, append-nil, append_assoc, arith}
use Rattle.std.specs.declared.option.Option.{Option}
use Rattle.std.specs.List.{cons_option, filter_map, flat_map}
use Rattle.std.proofs.lemmas.List.{take_more}
use Rattle.std.proofs.lemmas.Grind.{flat_map-append}
use Rattle.std.proofs.lemmas.List.Elements.{filter_map-append}
use Rattle.std.specs.List.{list_any}
use Rattle.std.specs.Ordering.{eq_by_cmp}
use Rattle.std.specs.Cmp.{IsTotalOrder, both_ways}
use Rattle.std.specs.FinMap.{IsAntisymmetric}
use Rattle.std.proofs.lemmas.List.Folds.{list_any-append}
use Rattle.cat_collections.specs.Table.{same_text}
use Rattle.cat_collections.proofs.Tables.{text_total, text_antisymmetric}
use Rattle.cat_model.proofs.Members.{flat_map_from, flat_map_in}
use Rattle.cat_model.specs.Catalogue.{Ref, Rows, Holders}
use Rattle.cat_model.specs.Mend.{below, children}

module _ {X Y : Type 0} where
  pub filter_map_more : (f : X → Option Y) (xs : List X) (i : ℕ) (x : X) → i < length xs → filter_map f (take (i + 1) xs) ≡ filter_map f (take i xs) ++ cons_option (f (get_or xs i x)) []
  filter_map_more f xs i x l = ap (filter_map f) (take_more xs i x l) ∙ filter_map-append f (take i xs) (get_or xs i x ∷ [])

  pub flat_map_one_more : (f : X → List Y) (xs : List X) (i : ℕ) (x : X) → i < length xs → flat_map f (take (i + 1) xs) ≡ flat_map f (take i xs) ++ f (get_or xs i x)
  flat_map_one_more f xs i x l = ap (flat_map f) (take_more xs i x l) ∙ (flat_map-append f (take i xs) (get_or xs i x ∷ []) ∙ ap (λ t. flat_map f (take i xs) ++ t) (append-nil (f (get_or xs i x))))

module _ {X Y : Type 0} where
  pub push_more : (f : X → Option Y) (xs : List X) (i : ℕ) (x : X) (old now new : List Y) (v : Option Y) → i < length xs → new ≡ now ++ cons_option v [] → now ≡ old ++ filter_map f (take i xs) → v ≡ f (get_or xs i x)
      → new ≡ old ++ filter_map f (take (i + 1) xs)
  push_more f xs i x old now new v l e h is =
      e ∙ ((λ j. h j ++ cons_option (is j) []) ∙ (append_assoc old (filter_map f (take i xs)) (cons_option (f (get_or xs i x)) []) ∙ ap (λ t. old ++ t) (sym (filter_map_more f xs i x l))))

pub below_none : (n : ℕ) (rows : Rows) (holders : Holders) → below n rows holders [] ≡ []
below_none zero rows holders = refl
below_none (suc n) rows holders = below_none n rows holders

pub below_more : (n : ℕ) (rows : Rows) (holders : Holders) (cut refs : List Ref) → 0 < n
    → (cut ++ refs) ++ below (n - 1) rows holders (flat_map (children rows holders) refs) ≡ cut ++ below n rows holders refs
below_more zero rows holders cut refs l = absurd (omega arith)
below_more (suc n) rows holders cut refs l =
    let k : suc n - 1 ≡ n = omega arith in
    ap (λ j. (cut ++ refs) ++ below j rows holders (flat_map (children rows holders) refs)) k ∙ append_assoc cut refs (below n rows holders (flat_map (children rows holders) refs))

pub below_end : (n : ℕ) (rows : Rows) (holders : Holders) (cut refs all : List Ref) → refs ≡ [] → cut ++ below n rows holders refs ≡ all → cut ≡ all
below_end n rows holders cut refs all e h = sym (append-nil cut) ∙ (ap (λ t. cut ++ t) (sym (ap (below n rows holders) e ∙ below_none n rows holders)) ∙ h)

pub below_zero : (n : ℕ) (rows : Rows) (holders : Holders) (cut refs all : List Ref) → n ≡ 0 → cut ++ below n rows holders refs ≡ all → cut ≡ all
below_zero n rows holders cut refs all e h = sym (append-nil cut) ∙ (ap (λ t. cut ++ t) (sym (ap (λ j. below j rows holders refs) e)) ∙ h)

pub empty_is : {X : Type 0} (xs : List X) → length xs ≡ 0 → xs ≡ []
empty_is [] h = refl
empty_is (x ∷ xs) h = absurd (omega arith)

-- what is made of lists with the same members has the same members
module _ {K J : Type 0} {R : K → K → Ordering} {S : J → J → Ordering} (o : IsTotalOrder R) (s : IsAntisymmetric R) (u : IsTotalOrder S) (v : IsAntisymmetric S) where
  pub flat_map_alike : (f : K → List J) (xs ys : List K) → ((k : K) → list_any (eq_by_cmp R k) xs ≡ list_any (eq_by_cmp R k) ys) → (q : J) → list_any (eq_by_cmp S q) (flat_map f xs) ≡ list_any (eq_by_cmp S q) (flat_map f ys)
  flat_map_alike f xs ys alike q = both_ways _ _
      (λ h. let w = flat_map_from o s u v f xs q h in flat_map_in o s u v f ys w.0 q (sym (alike w.0) ∙ w.1) w.2)
      (λ h. let w = flat_map_from o s u v f ys q h in flat_map_in o s u v f xs w.0 q (alike w.0 ∙ w.1) w.2)

-- below lists with the same members hangs the same
pub below_alike : (n : ℕ) (rows : Rows) (holders : Holders) (xs ys : List Ref) → ((r : Ref) → list_any (same_text r) xs ≡ list_any (same_text r) ys)
    → (r : Ref) → list_any (same_text r) (below n rows holders xs) ≡ list_any (same_text r) (below n rows holders ys)
below_alike zero rows holders xs ys alike r = refl
below_alike (suc n) rows holders xs ys alike r =
    list_any-append (same_text r) xs (below n rows holders (flat_map (children rows holders) xs))
    ∙ ((λ j. alike r j || below_alike n rows holders (flat_map (children rows holders) xs) (flat_map (children rows holders) ys) (flat_map_alike text_total text_antisymmetric text_total text_antisymmetric (children rows holders) xs ys alike) r j)
    ∙ sym (list_any-append (same_text r) ys (below n rows holders (flat_map (children rows holders) ys))))
