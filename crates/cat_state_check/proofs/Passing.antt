-- A state of which all holds that holds between two events, with every record due and free, and nothing marked or stitched, passes as a candidate.
use Rattle.std.proofs.Common.{T, ◌≡◌, ◌⊎◌, inl, inr, ℕ, ◌≤◌, ◌^◌, Bool, true, false, not, ◌&&◌, cond, List, [], ◌∷◌, length, refl, sym, ap, ◌∙◌, is_none, is_some, unwrap_or, true≢false, eq-eqb, le-leb, lt-ltb, Ordering, Less, Equal, Greater}
use Rattle.std.specs.declared.option.Option.{Option}
use Rattle.std.specs.declared.option.Option.TheVariants.{None, Some}
use Rattle.std.specs.Cmp.{IsTotalOrder, nat_cmp_total}
use Rattle.std.specs.FinMap.{IsAntisymmetric, nat_cmp-IsAntisymmetric}
use Rattle.std.specs.FinMap.Entries.{below_all, find-put, is_sorted}
use Rattle.std.specs.List.{list_all}
use Rattle.std.specs.Option.{option_and_then}
use Rattle.std.specs.Ordering.{eq_by_cmp, is_eq, is_lt, nat_cmp, ordering_reverse}
use Rattle.cat_tree.proofs.Equality.{is_same-itself}
use Rattle.cat_collections.specs.Pairs.{pair_antisymmetric, pair_cmp, pair_total}
use Rattle.cat_collections.specs.Table.{Map, Text, find, get, put, same_text, text_cmp}
use Rattle.cat_collections.proofs.Tables.{and_first, and_second, same_is, same_self, some_or_none, text_antisymmetric, text_total}
use Rattle.cat_types.specs.declared.input.Offered.{Offered}
use Rattle.cat_types.specs.declared.work.Output.{Output}
use Rattle.cat_model.specs.Catalogue.{Ref, Rows, held, row_at}
use Rattle.cat_model.specs.Sound.{AreHolders, AreNumbers, AreOffers, HasRow, IsRowOf, its_number, number_in, offered}
use Rattle.cat_model.specs.Step.{is_offer}
use Rattle.cat_model.specs.declared.types.Origin.{Origin}
use Rattle.cat_model.specs.declared.types.Origin.TheVariants.{Provider, Entity}
use Rattle.cat_model.specs.declared.types.Orphan.{Orphan}
use Rattle.cat_model.specs.declared.types.ProviderInputs.{ProviderInputs}
use Rattle.cat_model.specs.declared.types.Record.{Record}
use Rattle.cat_model.specs.declared.types.Row.{Row}
use Rattle.cat_model.specs.declared.types.State.{State}
use Rattle.cat_model.proofs.Replaced.{same_origin-self}
use Rattle.cat_state_check.specs.declared.offers.RowIndex.{RowIndex}
use Rattle.cat_state_check.specs.Candidate.{are_counters_right, are_items_shown, are_offers_shown, are_tables_sorted, is_all_right, is_arrival, is_bare, is_candidate, is_name, is_offered, is_right_holder, is_right_number, is_right_orphan, is_right_record, is_right_row, is_row_of, is_shown, names_of}
use Rattle.cat_state_check.specs.Indexed.{Names, arrival_in, row_index, with_arrival, with_names, with_rows}
use Rattle.cat_state_check.proofs.Climbing.{climbs_is}

both : (a b : Bool) → a ≡ true → b ≡ true → (a && b) ≡ true
both true b h g = g
both false b h g = h

from_T : (b : Bool) → T b → b ≡ true
from_T true h = refl
from_T false h = absurd h

same_some : {A : Type 0} {x y : A} → Some x ≡ Some y → x ≡ y
same_some {x = x} e = ap (λ v. unwrap_or v x) e

none_some : {A : Type 0} {x : A} → None ≡ Some x → ⊥
none_some e = true≢false (sym (ap is_some e))

-- ---- what stands in a list

abbrev In : {A : Type 0} → A → List A → Type 0
In x [] = ⊥
In x (y ∷ ys) = (x ≡ y) ⊎ In x ys

all_pass : {A : Type 0} (p : A → Bool) (xs : List A) → ((x : A) → In x xs → p x ≡ true) → list_all p xs ≡ true
all_pass p [] f = refl
all_pass p (x ∷ xs) f = both (p x) (list_all p xs) (f x (inl refl)) (all_pass p xs (λ y g. f y (inr g)))

module _ {K X : Type 0} {R : K → K → Ordering} (o : IsTotalOrder R) (s : IsAntisymmetric R) where
  -- at a key of an entry something is found
  there : (m : List (K × X)) (e : K × X) → In e m → is_some (find R e.0 m) ≡ true
  there [] e g = absurd g
  there (d ∷ m) e (inl is) = ap (λ b. is_some (cond b (Some d.1) (find R e.0 m))) (ap (λ (c : K × X). eq_by_cmp R e.0 c.0) (sym is) ∙ same_self o s e.0)
  there (d ∷ m) e (inr g) = go (eq_by_cmp R e.0 d.0) (there m e g)
    where
      go : (b : Bool) → is_some (find R e.0 m) ≡ true → is_some (cond b (Some d.1) (find R e.0 m)) ≡ true
      go true h = refl
      go false h = h

  -- what is found is an entry
  entry : (m : List (K × X)) (k : K) (x : X) → find R k m ≡ Some x → In (k, x) m
  entry [] k x f = absurd (none_some f)
  entry (d ∷ m) k x f = go (eq_by_cmp R k d.0) refl f (entry m k x)
    where
      go : (b : Bool) → eq_by_cmp R k d.0 ≡ b → cond b (Some d.1) (find R k m) ≡ Some x → (find R k m ≡ Some x → In (k, x) m) → In (k, x) (d ∷ m)
      go true t g ih = inl (λ i. (same_is o s k d.0 t i, sym (same_some g) i))
      go false t g ih = inr (ih g)

-- ---- entries in order are found

less_is : (o : Ordering) → is_lt o ≡ true → o ≡ Less
less_is Less e = refl
less_is Equal e = absurd (true≢false (sym e))
less_is Greater e = absurd (true≢false (sym e))

module _ {K X : Type 0} {R : K → K → Ordering} (o : IsTotalOrder R) (s : IsAntisymmetric R) where
  above : (k : K) (es : List (K × X)) → below_all R k es ≡ true → (e : K × X) → In e es → eq_by_cmp R e.0 k ≡ false
  above k [] h e g = absurd g
  above k (d ∷ es) h e (inl is) = ap is_eq (o.antisymm e.0 k ∙ ap ordering_reverse (ap (λ (d : K × X). R k d.0) is ∙ less_is (R k d.0) (and_first _ _ h)))
  above k (d ∷ es) h e (inr g) = above k es (and_second (is_lt (R k d.0)) _ h) e g

  found_sorted : (m : List (K × X)) → is_sorted R m ≡ true → (e : K × X) → In e m → find R e.0 m ≡ Some e.1
  found_sorted [] h e g = absurd g
  found_sorted (d ∷ es) h e (inl is) =
      ap (λ b. cond b (Some d.1) (find R e.0 es)) (ap (λ k. eq_by_cmp R e.0 k) (sym (ap (λ (d : K × X). d.0) is)) ∙ same_self o s e.0) ∙ ap (λ (d : K × X). Some d.1) (sym is)
  found_sorted (d ∷ es) h e (inr g) =
      ap (λ b. cond b (Some d.1) (find R e.0 es)) (above d.0 es (and_first _ _ h) e g) ∙ found_sorted es (and_second (below_all R d.0 es) _ h) e g

-- ---- the arrival that is kept for an origin and a reference

pairs_total : IsTotalOrder (pair_cmp text_cmp text_cmp)
pairs_total = pair_total text_total text_total

pairs_antisymmetric : IsAntisymmetric (pair_cmp text_cmp text_cmp)
pairs_antisymmetric = pair_antisymmetric text_antisymmetric text_antisymmetric

-- what is kept of a row
record IsOf (a : ℕ) (o : Origin) (r : Ref) (b : ℕ) (p : Origin) (q : Ref) : Type 0 where
  origin : p ≡ o
  reference : q ≡ r
  arrival : b ≡ a

-- pairs that are one
abbrev SamePair : Text × Text → Text × Text → Type 0
SamePair k l = k ≡ l

-- what is kept by a pair is what was put, or was kept before
pair_from : (k l : Text × Text) (a b : ℕ) (m : List ((Text × Text) × ℕ)) → find (pair_cmp text_cmp text_cmp) l (put (pair_cmp text_cmp text_cmp) k a m) ≡ Some b
    → ((l ≡ k) × (b ≡ a)) ⊎ (find (pair_cmp text_cmp text_cmp) l m ≡ Some b)
pair_from k l a b m f = go (eq_by_cmp (pair_cmp text_cmp text_cmp) l k) refl (sym (find-put (pair_cmp text_cmp text_cmp) pairs_total l k a m) ∙ f)
  where
    go : (t : Bool) → eq_by_cmp (pair_cmp text_cmp text_cmp) l k ≡ t → cond t (Some a) (find (pair_cmp text_cmp text_cmp) l m) ≡ Some b
        → ((l ≡ k) × (b ≡ a)) ⊎ (find (pair_cmp text_cmp text_cmp) l m ≡ Some b)
    go true t g = inl (same_is pairs_total pairs_antisymmetric l k t, sym (same_some g))
    go false t g = inr g

pair_there : (k l : Text × Text) (a : ℕ) (m : List ((Text × Text) × ℕ)) → (l ≡ k) ⊎ (is_some (find (pair_cmp text_cmp text_cmp) l m) ≡ true)
    → is_some (find (pair_cmp text_cmp text_cmp) l (put (pair_cmp text_cmp text_cmp) k a m)) ≡ true
pair_there k l a m h = ap is_some (find-put (pair_cmp text_cmp text_cmp) pairs_total l k a m) ∙ go (eq_by_cmp (pair_cmp text_cmp text_cmp) l k) refl h
  where
    go : (t : Bool) → eq_by_cmp (pair_cmp text_cmp text_cmp) l k ≡ t → (l ≡ k) ⊎ (is_some (find (pair_cmp text_cmp text_cmp) l m) ≡ true)
        → is_some (cond t (Some a) (find (pair_cmp text_cmp text_cmp) l m)) ≡ true
    go true t g = refl
    go false t (inl e) = absurd (true≢false (sym (ap (λ x. eq_by_cmp (pair_cmp text_cmp text_cmp) x k) e ∙ same_self pairs_total pairs_antisymmetric k) ∙ t))
    go false t (inr g) = g

one_from : (o p : Origin) (r q : Ref) (a b : ℕ) (index : RowIndex) → arrival_in (with_arrival o r a index) p q ≡ Some b → IsOf a o r b p q ⊎ (arrival_in index p q ≡ Some b)
one_from (Provider n) (Provider l) r q a b index f = go (pair_from (n, r) (l, q) a b index.provided f)
  where
    go : (SamePair (l, q) (n, r) × (b ≡ a)) ⊎ (find (pair_cmp text_cmp text_cmp) (l, q) index.provided ≡ Some b) → IsOf a (Provider n) r b (Provider l) q ⊎ (arrival_in index (Provider l) q ≡ Some b)
    go (inl e) = inl (record { origin = ap (λ (x : Text × Text). Provider x.0) e.0; reference = ap (λ (x : Text × Text). x.1) e.0; arrival = e.1 })
    go (inr g) = inr g
one_from (Provider n) (Entity l) r q a b index f = inr f
one_from (Entity n) (Provider l) r q a b index f = inr f
one_from (Entity n) (Entity l) r q a b index f = go (pair_from (n, r) (l, q) a b index.emitted f)
  where
    go : (SamePair (l, q) (n, r) × (b ≡ a)) ⊎ (find (pair_cmp text_cmp text_cmp) (l, q) index.emitted ≡ Some b) → IsOf a (Entity n) r b (Entity l) q ⊎ (arrival_in index (Entity l) q ≡ Some b)
    go (inl e) = inl (record { origin = ap (λ (x : Text × Text). Entity x.0) e.0; reference = ap (λ (x : Text × Text). x.1) e.0; arrival = e.1 })
    go (inr g) = inr g

one_stays : (o p : Origin) (r q : Ref) (a : ℕ) (index : RowIndex) → is_some (arrival_in index p q) ≡ true → is_some (arrival_in (with_arrival o r a index) p q) ≡ true
one_stays (Provider n) (Provider l) r q a index h = pair_there (n, r) (l, q) a index.provided (inr h)
one_stays (Provider n) (Entity l) r q a index h = h
one_stays (Entity n) (Provider l) r q a index h = h
one_stays (Entity n) (Entity l) r q a index h = pair_there (n, r) (l, q) a index.emitted (inr h)

one_there : (o : Origin) (r : Ref) (a : ℕ) (index : RowIndex) → is_some (arrival_in (with_arrival o r a index) o r) ≡ true
one_there (Provider n) r a index = pair_there (n, r) (n, r) a index.provided (inl refl)
one_there (Entity n) r a index = pair_there (n, r) (n, r) a index.emitted (inl refl)

-- a kept arrival is that of a row
record IsKeptOf (es : Rows) (b : ℕ) (p : Origin) (q : Ref) : Type 0 where
  row : Row
  at : In (b, row) es
  origin : row.origin ≡ p
  reference : row.reference ≡ q

all_from : (es : Rows) (index : RowIndex) (p : Origin) (q : Ref) (b : ℕ) → arrival_in (with_rows es index) p q ≡ Some b → IsKeptOf es b p q ⊎ (arrival_in index p q ≡ Some b)
all_from [] index p q b f = inr f
all_from (e ∷ es) index p q b f = go (all_from es (with_arrival e.1.origin e.1.reference e.0 index) p q b f)
  where
    at : IsOf e.0 e.1.origin e.1.reference b p q ⊎ (arrival_in index p q ≡ Some b) → IsKeptOf (e ∷ es) b p q ⊎ (arrival_in index p q ≡ Some b)
    at (inl k) = inl (record { row = e.1; at = inl (λ i. (k.arrival i, e.1)); origin = sym k.origin; reference = sym k.reference })
    at (inr g) = inr g

    go : IsKeptOf es b p q ⊎ (arrival_in (with_arrival e.1.origin e.1.reference e.0 index) p q ≡ Some b) → IsKeptOf (e ∷ es) b p q ⊎ (arrival_in index p q ≡ Some b)
    go (inl k) = inl (record { row = k.row; at = inr k.at; origin = k.origin; reference = k.reference })
    go (inr g) = at (one_from e.1.origin p e.1.reference q e.0 b index g)

all_stay : (es : Rows) (index : RowIndex) (p : Origin) (q : Ref) → is_some (arrival_in index p q) ≡ true → is_some (arrival_in (with_rows es index) p q) ≡ true
all_stay [] index p q h = h
all_stay (e ∷ es) index p q h = all_stay es (with_arrival e.1.origin e.1.reference e.0 index) p q (one_stays e.1.origin p e.1.reference q e.0 index h)

all_there : (es : Rows) (index : RowIndex) (e : ℕ × Row) → In e es → is_some (arrival_in (with_rows es index) e.1.origin e.1.reference) ≡ true
all_there [] index e g = absurd g
all_there (d ∷ es) index e (inl is) =
    all_stay es (with_arrival d.1.origin d.1.reference d.0 index) e.1.origin e.1.reference
    (ap (λ (c : ℕ × Row). is_some (arrival_in (with_arrival d.1.origin d.1.reference d.0 index) c.1.origin c.1.reference)) is ∙ one_there d.1.origin d.1.reference d.0 index)
all_there (d ∷ es) index e (inr g) = all_there es (with_arrival d.1.origin d.1.reference d.0 index) e g

-- ---- the reference that is kept for a number

module _ {X : Type 0} (number : X → ℕ) where
  record IsNamed (es : Map X) (k : ℕ) (r : Ref) : Type 0 where
    value : X
    at : In (r, value) es
    is : number value ≡ k

  names_from : (es : Map X) (names : Names) (k : ℕ) (r : Ref) → find nat_cmp k (with_names number es names) ≡ Some r → IsNamed es k r ⊎ (find nat_cmp k names ≡ Some r)
  names_from [] names k r f = inr f
  names_from (e ∷ es) names k r f = go (names_from es (put nat_cmp (number e.1) e.0 names) k r f)
    where
      at : (b : Bool) → eq_by_cmp nat_cmp k (number e.1) ≡ b → cond b (Some e.0) (find nat_cmp k names) ≡ Some r → IsNamed (e ∷ es) k r ⊎ (find nat_cmp k names ≡ Some r)
      at true t g = inl (record { value = e.1; at = inl (λ i. (sym (same_some g) i, e.1)); is = sym (same_is nat_cmp_total nat_cmp-IsAntisymmetric k (number e.1) t) })
      at false t g = inr g

      go : IsNamed es k r ⊎ (find nat_cmp k (put nat_cmp (number e.1) e.0 names) ≡ Some r) → IsNamed (e ∷ es) k r ⊎ (find nat_cmp k names ≡ Some r)
      go (inl n) = inl (record { value = n.value; at = inr n.at; is = n.is })
      go (inr g) = at (eq_by_cmp nat_cmp k (number e.1)) refl (sym (find-put nat_cmp nat_cmp_total k (number e.1) e.0 names) ∙ g)

  name_stays : (k j : ℕ) (r : Ref) (names : Names) → is_some (find nat_cmp k names) ≡ true → is_some (find nat_cmp k (put nat_cmp j r names)) ≡ true
  name_stays k j r names h = ap is_some (find-put nat_cmp nat_cmp_total k j r names) ∙ go (eq_by_cmp nat_cmp k j)
    where
      go : (b : Bool) → is_some (cond b (Some r) (find nat_cmp k names)) ≡ true
      go true = refl
      go false = h

  names_stay : (es : Map X) (names : Names) (k : ℕ) → is_some (find nat_cmp k names) ≡ true → is_some (find nat_cmp k (with_names number es names)) ≡ true
  names_stay [] names k h = h
  names_stay (e ∷ es) names k h = names_stay es (put nat_cmp (number e.1) e.0 names) k (name_stays k (number e.1) e.0 names h)

  names_there : (es : Map X) (names : Names) (e : Ref × X) → In e es → is_some (find nat_cmp (number e.1) (with_names number es names)) ≡ true
  names_there [] names e g = absurd g
  names_there (d ∷ es) names e (inl is) =
      names_stay es (put nat_cmp (number d.1) d.0 names) (number e.1)
      (ap is_some (find-put nat_cmp nat_cmp_total (number e.1) (number d.1) d.0 names)
      ∙ ap (λ b. is_some (cond b (Some d.0) (find nat_cmp (number e.1) names))) (ap (λ (c : Ref × X). eq_by_cmp nat_cmp (number c.1) (number d.1)) is ∙ same_self nat_cmp_total nat_cmp-IsAntisymmetric (number d.1)))
  names_there (d ∷ es) names e (inr g) = names_there es (put nat_cmp (number d.1) d.0 names) e g

-- ---- the whole

-- all holds of a state that holds between two events, but that its records are due and free, and nothing is marked or stitched
pub record IsResting (m : State) : Type 0 where
  pub offers : AreOffers m
  pub holders : AreHolders m.rows m.holders
  pub records : (r : Ref) → is_some (get m.records r) ≡ held m.holders r
  pub orphans : (r : Ref) → held m.holders r ≡ true → get m.orphans r ≡ None
  pub numbers : AreNumbers m
  pub due : (r : Ref) (x : Record) → get m.records r ≡ Some x → (x.due ≡ 0) × (x.lease ≡ None)
  pub rows_in_order : T (is_sorted nat_cmp m.rows)
  pub holders_in_order : T (is_sorted text_cmp m.holders)
  pub records_in_order : T (is_sorted text_cmp m.records)
  pub orphans_in_order : T (is_sorted text_cmp m.orphans)
  pub providers_in_order : T (is_sorted text_cmp m.providers)
  pub bare : is_bare m ≡ true
  pub begun : 1 ≤ m.arrival
  pub arrival_small : m.arrival ≤ 2 ^ 59
  pub number_small : m.number ≤ 2 ^ 59

module _ (m : State) (g : IsResting m) where
  abbrev index : RowIndex
  index = row_index m.rows

  -- ---- rows

  row_found : (e : ℕ × Row) → In e m.rows → row_at m.rows e.0 ≡ Some e.1
  row_found e i = found_sorted nat_cmp_total nat_cmp-IsAntisymmetric m.rows (from_T _ g.rows_in_order) e i

  kept_at : (a : ℕ) (row : Row) → row_at m.rows a ≡ Some row → arrival_in index row.origin row.reference ≡ Some a
  kept_at a row f = go (some_or_none (arrival_in index row.origin row.reference) (all_there m.rows (record { provided = []; emitted = [] }) (a, row) (entry nat_cmp_total nat_cmp-IsAntisymmetric m.rows a row f)))
    where
      none_kept : (o : Origin) (b : ℕ) → arrival_in (record { provided = []; emitted = [] }) o row.reference ≡ Some b → ⊥
      none_kept (Provider p) b e = none_some e
      none_kept (Entity q) b e = none_some e

      at : (b : ℕ) → arrival_in index row.origin row.reference ≡ Some b → IsKeptOf m.rows b row.origin row.reference ⊎ (arrival_in (record { provided = []; emitted = [] }) row.origin row.reference ≡ Some b)
          → arrival_in index row.origin row.reference ≡ Some a
      at b e (inl k) = e ∙ ap Some (sym (g.offers.once a b row k.row f (row_found (b, k.row) k.at) (sym k.origin) (sym k.reference)))
      at b e (inr h) = absurd (none_kept row.origin b h)

      go : (b : ℕ) × (arrival_in index row.origin row.reference ≡ Some b) → arrival_in index row.origin row.reference ≡ Some a
      go b = at b.0 b.1 (all_from m.rows (record { provided = []; emitted = [] }) row.origin row.reference b.0 b.1)

  offered_passes : (x : Offered) (v : Option Offered) → v ≡ Some x → is_offered x v ≡ true
  offered_passes x v e = ap (is_offered x) e ∙ both _ _ (same_self text_total text_antisymmetric x.key) (is_same-itself x.tree)

  arrival_passes : (a : ℕ) (v : Option ℕ) → v ≡ Some a → is_arrival a v ≡ true
  arrival_passes a v e = ap (is_arrival a) e ∙ eq-eqb a a refl

  row_passes : (e : ℕ × Row) → In e m.rows → is_right_row m index e ≡ true
  row_passes e i =
      let f = row_found e i in
      both _ _ (both _ _ (both _ _ (offered_passes e.1.offered _ (g.offers.given e.0 e.1 f)) (arrival_passes e.0 _ (kept_at e.0 e.1 f))) (lt-ltb e.0 m.arrival (g.offers.below e.0 e.1 f)))
      (g.holders.all_held e.0 e.1 f)

  shown : (o : Origin) (r : Ref) → is_some (offered m o r) ≡ true → is_shown m.rows index o r ≡ true
  shown o r h = go (some_or_none (offered m o r) h)
    where
      at : (x : Offered) → HasRow m.rows o r x → is_shown m.rows index o r ≡ true
      at x k =
          let row : Row = record { origin = o; reference = r; offered = x } in
          ap (λ v. is_offer o r (option_and_then (row_at m.rows) v)) (kept_at k.arrival row k.row)
          ∙ (ap (is_offer o r) k.row ∙ both _ _ (same_origin-self o) (same_self text_total text_antisymmetric r))

      go : (x : Offered) × (offered m o r ≡ Some x) → is_shown m.rows index o r ≡ true
      go x = at x.0 (g.offers.shown o r x.0 x.1)

  -- ---- providers

  items_pass : (e : Text × ProviderInputs) → In e m.providers → are_items_shown m.rows index e ≡ true
  items_pass e i =
      let f = found_sorted text_total text_antisymmetric m.providers (from_T _ g.providers_in_order) e i in
      all_pass (λ x. is_shown m.rows index (Provider e.0) x.0) e.1.items
      (λ x j. shown (Provider e.0) x.0 (ap (λ v. is_some (option_and_then (λ (y : ProviderInputs). get y.items x.0) v)) f ∙ there text_total text_antisymmetric e.1.items x j))

  -- ---- holders

  holder_passes : (e : Text × ℕ) → In e m.holders → is_right_holder m e ≡ true
  holder_passes e i =
      let f = found_sorted text_total text_antisymmetric m.holders (from_T _ g.holders_in_order) e i in
      let k : IsRowOf m.rows e.0 e.1 = g.holders.rows_of e.0 e.1 f in
      both _ _
      (both _ _ (ap (is_row_of e.0) k.at ∙ (ap (λ r. same_text r e.0) k.names ∙ same_self text_total text_antisymmetric e.0))
      (sym (climbs_is m.rows m.holders (length m.holders) e.0 e.1 f) ∙ g.holders.all_rooted e.0 (ap is_some f)))
      (g.records e.0 ∙ ap is_some f)

  -- ---- numbers

  abbrev names : Names
  names = names_of m

  abbrev records_named : Names
  records_named = with_names (λ (x : Record). x.number) m.records []

  unheld : (r : Ref) (x : Orphan) → get m.orphans r ≡ Some x → held m.holders r ≡ false
  unheld r x f = go (held m.holders r) refl
    where
      go : (b : Bool) → held m.holders r ≡ b → b ≡ false
      go false e = refl
      go true e = absurd (none_some (sym (g.orphans r e) ∙ f))

  orphan_number : (r : Ref) (x : Orphan) → get m.orphans r ≡ Some x → its_number m r ≡ Some x.number
  orphan_number r x f = go (get m.records r) refl
    where
      go : (v : Option Record) → get m.records r ≡ v → number_in v (get m.orphans r) ≡ Some x.number
      go None e = ap (number_in None) f
      go (Some y) e = absurd (true≢false (sym (sym (g.records r) ∙ ap is_some e) ∙ unheld r x f))

  record_number : (r : Ref) (x : Record) → get m.records r ≡ Some x → its_number m r ≡ Some x.number
  record_number r x f = ap (λ v. number_in v (get m.orphans r)) f

  named : (k : ℕ) (r : Ref) → find nat_cmp k names ≡ Some r → its_number m r ≡ Some k
  named k r f = go (names_from (λ (x : Orphan). x.number) m.orphans records_named k r f)
    where
      by_orphan : IsNamed (λ (x : Orphan). x.number) m.orphans k r → its_number m r ≡ Some k
      by_orphan n = orphan_number r n.value (found_sorted text_total text_antisymmetric m.orphans (from_T _ g.orphans_in_order) (r, n.value) n.at) ∙ ap Some n.is

      by_record : IsNamed (λ (x : Record). x.number) m.records k r → its_number m r ≡ Some k
      by_record n = record_number r n.value (found_sorted text_total text_antisymmetric m.records (from_T _ g.records_in_order) (r, n.value) n.at) ∙ ap Some n.is

      at : IsNamed (λ (x : Record). x.number) m.records k r ⊎ (None ≡ Some r) → its_number m r ≡ Some k
      at (inl n) = by_record n
      at (inr e) = absurd (none_some e)

      go : IsNamed (λ (x : Orphan). x.number) m.orphans k r ⊎ (find nat_cmp k records_named ≡ Some r) → its_number m r ≡ Some k
      go (inl n) = by_orphan n
      go (inr h) = at (names_from (λ (x : Record). x.number) m.records [] k r h)

  number_passes : (r : Ref) (k : ℕ) → its_number m r ≡ Some k → is_some (find nat_cmp k names) ≡ true → is_right_number m.number names k r ≡ true
  number_passes r k f h =
      both _ _ (both _ _ (le-leb 1 k (g.numbers.from_one r k f)) (lt-ltb k m.number (g.numbers.below r k f))) (go (some_or_none (find nat_cmp k names) h))
    where
      go : (q : Ref) × (find nat_cmp k names ≡ Some q) → is_name r (find nat_cmp k names) ≡ true
      go q = ap (is_name r) q.1 ∙ (ap (λ x. same_text x r) (g.numbers.differ q.0 r k (named k q.0 q.1) f) ∙ same_self text_total text_antisymmetric r)

  -- ---- records and orphans

  offers_pass : (r : Ref) (x : Record) → get m.records r ≡ Some x → (v : Option Output) → x.output ≡ v → are_offers_shown m.rows index r v ≡ true
  offers_pass r x f None e = refl
  offers_pass r x f (Some output) e =
      all_pass (λ y. is_shown m.rows index (Entity r) y.0) output.offers
      (λ y j. shown (Entity r) y.0
      (ap (λ v. is_some (option_and_then (λ (z : Output). get z.offers y.0) (option_and_then (λ (z : Record). z.output) v))) f
      ∙ (ap (λ v. is_some (option_and_then (λ (z : Output). get z.offers y.0) v)) e ∙ there text_total text_antisymmetric output.offers y j)))

  record_passes : (e : Text × Record) → In e m.records → is_right_record m index names e ≡ true
  record_passes e i =
      let f = found_sorted text_total text_antisymmetric m.records (from_T _ g.records_in_order) e i in
      let d = g.due e.0 e.1 f in
      both _ _
      (both _ _ (both _ _ (both _ _ (eq-eqb e.1.due 0 d.0) (ap is_none d.1)) (sym (g.records e.0) ∙ ap is_some f))
      (number_passes e.0 e.1.number (record_number e.0 e.1 f) (names_stay (λ (x : Orphan). x.number) m.orphans records_named e.1.number (names_there (λ (x : Record). x.number) m.records [] e i))))
      (offers_pass e.0 e.1 f e.1.output refl)

  orphan_passes : (e : Text × Orphan) → In e m.orphans → is_right_orphan m names e ≡ true
  orphan_passes e i =
      let f = found_sorted text_total text_antisymmetric m.orphans (from_T _ g.orphans_in_order) e i in
      both _ _ (ap not (unheld e.0 e.1 f)) (number_passes e.0 e.1.number (orphan_number e.0 e.1 f) (names_there (λ (x : Orphan). x.number) m.orphans records_named e i))

  -- ---- all

  sorted : are_tables_sorted m ≡ true
  sorted = both _ _ (both _ _ (both _ _ (from_T _ g.rows_in_order) (from_T _ g.holders_in_order)) (from_T _ g.records_in_order)) (from_T _ g.orphans_in_order)

  counters : are_counters_right m ≡ true
  counters = both _ _ (both _ _ (both _ _ (le-leb 1 m.arrival g.begun) (le-leb m.arrival (2 ^ 59) g.arrival_small)) (le-leb 1 m.number g.numbers.begun)) (le-leb m.number (2 ^ 59) g.number_small)

  all_right : is_all_right m index names ≡ true
  all_right =
      both _ _ (both _ _ (both _ _ (both _ _ (all_pass (is_right_row m index) m.rows row_passes) (all_pass (is_right_holder m) m.holders holder_passes))
      (all_pass (is_right_record m index names) m.records record_passes)) (all_pass (is_right_orphan m names) m.orphans orphan_passes))
      (all_pass (are_items_shown m.rows index) m.providers items_pass)

  pub passes : is_candidate m ≡ true
  unfolding is_candidate
  passes = both _ _ (both _ _ (both _ _ g.bare counters) sorted) all_right
