-- Keys that rise: each next to the one after it, and what is tabulated from them.
use Rattle.std.proofs.Common.{◌≡◌, ℕ, zero, suc, ◌+◌, ◌<◌, ◌≤◌, List, [], ◌∷◌, length, drop, take, get_or, ◌++◌, cond, refl, sym, ap, subst, ◌∙◌, Ordering, Less, arith}
use Rattle.std.specs.declared.option.Option.{Option}
use Rattle.std.specs.declared.option.Option.TheVariants.{None, Some}
use Rattle.std.specs.Cmp.{IsTotalOrder}
use Rattle.std.specs.FinMap.{IsAntisymmetric}
use Rattle.std.specs.FinMap.Entries.{by_order}
use Rattle.std.specs.List.{AllByRecursion, cons_option, filter_map}
use Rattle.std.specs.List.Sorted.{IsStrictlySortedBy}
use Rattle.std.proofs.lemmas.List.{drop_more, take_more}
use Rattle.std.proofs.lemmas.List.Elements.{filter_map-append}
use Rattle.cat_collections.specs.Order.{in_order}
use Rattle.cat_collections.specs.Table.{put, put_some, tabulate}
use Rattle.cat_collections.proofs.Orders.{has-in_order}
use Rattle.cat_collections.proofs.Tables.{find-tabulate, same_tabulated}

-- the entry of a key and a value, if there is one
abbrev pub with_key : {K X : Type 0} → K → Option X → Option (K × X)
with_key k None = None
with_key k (Some v) = Some (k, v)

-- the entry of a key, where it has a value
abbrev pub entry : {K X : Type 0} → (K → Option X) → K → Option (K × X)
entry f k = with_key k (f k)

-- ---- keys that rise from one to the next

module _ {K : Type 0} {R : K → K → Ordering} (o : IsTotalOrder R) where
  above_too : (x y : K) (ks : List K) → R x y ≡ Less → AllByRecursion (λ z. R y z ≡ Less) ks → AllByRecursion (λ z. R x z ≡ Less) ks
  above_too x y [] e h = tt
  above_too x y (k ∷ ks) e h = (o.trans x y k e h.0, above_too x y ks e h.1)

  rise_next : (x y : K) (ks : List K) → R x y ≡ Less → IsStrictlySortedBy R (y ∷ ks) → IsStrictlySortedBy R (x ∷ y ∷ ks)
  unfolding IsStrictlySortedBy
  rise_next x y ks e h = ((e, above_too x y ks e h.0), h)

  two : (keys : List K) (i : ℕ) (x y : K) → i + 1 < length keys → x ≡ get_or keys i x → y ≡ get_or keys (i + 1) y → drop i keys ≡ x ∷ y ∷ drop (i + 1 + 1) keys
  two keys i x y h ex ey =
      drop_more keys i x (omega arith) ∙ ((λ j. sym ex j ∷ drop (i + 1) keys) ∙ ap (λ l. x ∷ l) (drop_more keys (i + 1) y h ∙ (λ j. sym ey j ∷ drop (i + 1 + 1) keys)))

  -- the key at a place is below the next, and those from the next on rise
  pub rise_at : (keys : List K) (i : ℕ) (x y : K) → i + 1 < length keys → x ≡ get_or keys i x → y ≡ get_or keys (i + 1) y → R x y ≡ Less
      → IsStrictlySortedBy R (drop (i + 1) keys) → IsStrictlySortedBy R (drop i keys)
  rise_at keys i x y h ex ey e rest =
      let after : drop (i + 1) keys ≡ y ∷ drop (i + 1 + 1) keys = drop_more keys (i + 1) y h ∙ (λ j. sym ey j ∷ drop (i + 1 + 1) keys) in
      subst (IsStrictlySortedBy R) (sym (two keys i x y h ex ey)) (rise_next x y (drop (i + 1 + 1) keys) e (subst (IsStrictlySortedBy R) after rest))

-- a key alone, or none
pub rise_last : {K : Type 0} (R : K → K → Ordering) (keys : List K) (i : ℕ) → length keys ≤ i + 1 → IsStrictlySortedBy R (drop i keys)
unfolding IsStrictlySortedBy
rise_last R [] zero h = tt
rise_last R [] (suc i) h = tt
rise_last R (k ∷ []) zero h = (tt, tt)
rise_last R (k ∷ j ∷ keys) zero h = absurd (omega arith)
rise_last R (k ∷ keys) (suc i) h = rise_last R keys i (omega arith)

-- ---- what is tabulated from keys that rise

-- the entries of the first keys, and of one more
pub entries_more : {K X : Type 0} (f : K → Option X) (ks : List K) (i : ℕ) (k : K) (v : Option X) → i < length ks → k ≡ get_or ks i k → v ≡ f k
    → filter_map (entry f) (take i ks) ++ cons_option (with_key k v) [] ≡ filter_map (entry f) (take (i + 1) ks)
entries_more f ks i k v h at is =
    (λ j. filter_map (entry f) (take i ks) ++ cons_option (with_key (at j) ((is ∙ ap f at) j)) [])
    ∙ sym (ap (filter_map (entry f)) (take_more ks i k h) ∙ filter_map-append (entry f) (take i ks) (get_or ks i k ∷ []))

module _ {K X : Type 0} (R : K → K → Ordering) (f : K → Option X) where
  -- a key below all that are tabulated goes to the front
  put_front : (k : K) (v : X) (ks : List K) → AllByRecursion (λ y. R k y ≡ Less) ks → put R k v (filter_map (entry f) ks) ≡ (k, v) ∷ filter_map (entry f) ks
  put_front k v [] h = refl
  put_front k v (x ∷ xs) h = go (f x) (put_front k v xs h.1)
    where
      go : (w : Option X) → put R k v (filter_map (entry f) xs) ≡ (k, v) ∷ filter_map (entry f) xs
          → put R k v (cons_option (with_key x w) (filter_map (entry f) xs)) ≡ (k, v) ∷ cons_option (with_key x w) (filter_map (entry f) xs)
      go None rest = rest
      go (Some w) rest = ap (λ r. by_order r ((k, v) ∷ (x, w) ∷ filter_map (entry f) xs) ((x, v) ∷ filter_map (entry f) xs) ((x, w) ∷ put R k v (filter_map (entry f) xs))) h.0

  -- keys that rise give their entries one after the other
  pub tabulate_rising : (ks : List K) → IsStrictlySortedBy R ks → tabulate R ks f ≡ filter_map (entry f) ks
  unfolding IsStrictlySortedBy
  tabulate_rising [] h = refl
  tabulate_rising (k ∷ ks) h = ap (put_some R k (f k)) (tabulate_rising ks h.1) ∙ go (f k)
    where
      go : (w : Option X) → put_some R k w (filter_map (entry f) ks) ≡ cons_option (with_key k w) (filter_map (entry f) ks)
      go None = refl
      go (Some v) = put_front k v ks h.0

-- ---- keys that are put in order first

-- in order or not, keys are tabulated to the same
pub tabulate-in_order : {K X : Type 0} {R : K → K → Ordering} → IsTotalOrder R → IsAntisymmetric R → (ks : List K) (f : K → Option X) → tabulate R (in_order R ks) f ≡ tabulate R ks f
tabulate-in_order {R = R} o s ks f =
    same_tabulated o s (in_order R ks) ks f f
    (λ q. find-tabulate o s q (in_order R ks) f ∙ (ap (λ b. cond b (f q) None) (has-in_order o s q ks) ∙ sym (find-tabulate o s q ks f)))
