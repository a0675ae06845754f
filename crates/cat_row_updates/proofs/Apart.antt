-- What a key that isn't among those of the places tells: what stands at it was not reached.
use Rattle.std.proofs.Common.{◌≡◌, ◌⊎◌, inl, inr, ℕ, Bool, true, false, List, [], ◌∷◌, ◌++◌, refl, sym, ap, subst, true≢false}
use Rattle.std.specs.Prelude.{if◌then◌else◌}
use Rattle.std.specs.declared.option.Option.{Option}
use Rattle.std.specs.declared.option.Option.TheVariants.{None, Some}
use Rattle.std.specs.List.{flat_map}
use Rattle.cat_collections.specs.Table.{Text}
use Rattle.cat_collections.proofs.Tables.{same_is, text_antisymmetric, text_total}
use Rattle.cat_model.specs.Catalogue.{Ref, row_at}
use Rattle.cat_model.specs.Rows.{Rows, named}
use Rattle.cat_model.specs.declared.types.Origin.{Origin}
use Rattle.cat_model.specs.declared.types.Origin.TheVariants.{Provider as OfProvider, Entity}
use Rattle.cat_model.specs.declared.types.Row.{Row}
use Rattle.cat_model.specs.declared.types.State.{State}
use Rattle.cat_keeper.specs.Store.{RowKey}
use Rattle.cat_row_format.specs.declared.row.StoredCounter.{StoredCounter}
use Rattle.cat_row_format.specs.declared.row.StoredCounter.TheVariants.{Arrival, Number}
use Rattle.cat_stored_rows.proofs.In.{In, from_flat, in_either, in_flat, in_left, in_right}
use Rattle.cat_affected.specs.Reach.{has}
use Rattle.cat_row_updates.specs.Places.{fixed_places, giver_places, is_of, key_of, name_places, named_places, places, places_at, provider_places, reference_places, row_places}
use Rattle.cat_row_updates.specs.Renewed.{IsKept, is_it}
use Rattle.cat_row_updates.specs.declared.place.Place.{Place}
use Rattle.cat_row_updates.specs.declared.place.Place.TheVariants.{Counter, Settings, Provider, Shelf, Record, Orphan, Tree, Item}
use Rattle.cat_row_updates.specs.declared.reached.Reached.{Reached}
use Rattle.cat_row_updates.proofs.Members.{in_named, in_refs}
use Rattle.cat_row_updates.proofs.Standing.{fits, is_named}
use Rattle.cat_row_updates.proofs.Under.{IsFit}

-- the key is that of nothing that was reached: of the rows of m whose references were reached it is neither that of their trees nor that of what
-- gave them, unless n has the offer of an entity too
pub record IsApart (key : RowKey) (x : Reached) (m n : State) : Type 0 where
  pub counters : (c : StoredCounter) → key_of (Counter c) ≡ key → ⊥
  pub settings : key_of Settings ≡ key → ⊥
  pub providers : (p : Text) → key_of (Provider p) ≡ key → is_it p x.provider ≡ false
  pub shelf : (t : Text) → key_of (Shelf t) ≡ key → is_it t x.name ≡ false
  pub records : (r : Ref) → key_of (Record r) ≡ key → has r x.references.items ≡ false
  pub orphans : (r : Ref) → key_of (Orphan r) ≡ key → has r x.references.items ≡ false
  pub trees : (a : ℕ) (row : Row) → row_at m.rows a ≡ Some row → key_of (Tree a) ≡ key → has row.reference x.references.items ≡ false
  pub items : (a : ℕ) (row : Row) (p : Text) → row_at m.rows a ≡ Some row → row.origin ≡ OfProvider p → key_of (Item p row.reference a) ≡ key → has row.reference x.references.items ≡ false
  pub givers : (a : ℕ) (row : Row) (e : Ref) → row_at m.rows a ≡ Some row → row.origin ≡ Entity e → key_of (Record e) ≡ key → has row.reference x.references.items ≡ true
      → is_of (Entity e) row.reference (row_at n.rows a) ≡ true

-- ---- places of a row

is_not : (b : Bool) → (b ≡ true → ⊥) → b ≡ false
is_not true never = absurd (never refl)
is_not false never = refl

provider_in : (p : Text) (v : Option Text) → is_it p v ≡ true → In (Provider p) (provider_places v)
provider_in p None h = absurd (true≢false (sym h))
provider_in p (Some q) h = inl (ap Provider (same_is text_total text_antisymmetric p q h))

name_in : (t : Text) (v : Option Text) → is_it t v ≡ true → In (Shelf t) (name_places v)
name_in t None h = absurd (true≢false (sym h))
name_in t (Some q) h = inl (ap Shelf (same_is text_total text_antisymmetric t q h))

module _ (rows others : Rows) where
  row_in : (a : ℕ) (row : Row) → row_at rows a ≡ Some row → (p : Place) → In p (row_places (row_at others a) a (Some row)) → In p (named_places rows others row.reference)
  row_in a row at p h =
      in_flat (places_at rows others) a p (named rows row.reference) (in_named rows row.reference a row at refl)
      (subst (λ v. In p (row_places (row_at others a) a v)) (sym at) h)

  item_in : (a : ℕ) (row : Row) (p : Text) → row.origin ≡ OfProvider p → In (Item p row.reference a) (giver_places (row_at others a) a row.reference row.origin)
  item_in a row p from = subst (λ o. In (Item p row.reference a) (giver_places (row_at others a) a row.reference o)) (sym from) (inl refl)

  giver_in : (a : ℕ) (row : Row) (e : Ref) → row.origin ≡ Entity e → is_of (Entity e) row.reference (row_at others a) ≡ false → In (Record e) (giver_places (row_at others a) a row.reference row.origin)
  giver_in a row e from not =
      subst (λ o. In (Record e) (giver_places (row_at others a) a row.reference o)) (sym from)
      (subst (λ b. In (Record e) (if b then [] else Record e ∷ [])) (sym not) (inl refl))

-- ---- a key apart from places among which are those of what was reached

module _ (key : RowKey) (x : Reached) (m n : State) (all : List Place) (out : (p : Place) → In p all → key_of p ≡ key → ⊥)
    (fixed : (p : Place) → In p fixed_places → In p all) (provider : (p : Place) → In p (provider_places x.provider) → In p all) (name : (p : Place) → In p (name_places x.name) → In p all)
    (record' : (r : Ref) → has r x.references.items ≡ true → In (Record r) all) (orphan : (r : Ref) → has r x.references.items ≡ true → In (Orphan r) all)
    (rows : (r : Ref) → has r x.references.items ≡ true → (p : Place) → In p (named_places m.rows n.rows r) → In p all) where
  counter_in : (c : StoredCounter) → In (Counter c) fixed_places
  counter_in Arrival = inl refl
  counter_in Number = inr (inl refl)

  its_row : (a : ℕ) (row : Row) → row_at m.rows a ≡ Some row → has row.reference x.references.items ≡ true → (p : Place) → In p (row_places (row_at n.rows a) a (Some row)) → In p all
  its_row a row at h p g = rows row.reference h p (row_in m.rows n.rows a row at p g)

  offers_it : (a : ℕ) (row : Row) (e : Ref) → row_at m.rows a ≡ Some row → row.origin ≡ Entity e → key_of (Record e) ≡ key → has row.reference x.references.items ≡ true
      → (b : Bool) → is_of (Entity e) row.reference (row_at n.rows a) ≡ b → b ≡ true
  offers_it a row e at from is h true f = refl
  offers_it a row e at from is h false f = absurd (out (Record e) (its_row a row at h (Record e) (inr (giver_in m.rows n.rows a row e from f))) is)

  apart : IsApart key x m n
  apart = record {
    counters = λ c is. out (Counter c) (fixed (Counter c) (counter_in c)) is;
    settings = λ is. out Settings (fixed Settings (inr (inr (inl refl)))) is;
    providers = λ p is. is_not (is_it p x.provider) (λ h. out (Provider p) (provider (Provider p) (provider_in p x.provider h)) is);
    shelf = λ t is. is_not (is_it t x.name) (λ h. out (Shelf t) (name (Shelf t) (name_in t x.name h)) is);
    records = λ r is. is_not (has r x.references.items) (λ h. out (Record r) (record' r h) is);
    orphans = λ r is. is_not (has r x.references.items) (λ h. out (Orphan r) (orphan r h) is);
    trees = λ a row at is. is_not (has row.reference x.references.items) (λ h. out (Tree a) (its_row a row at h (Tree a) (inl refl)) is);
    items = λ a row p at from is. is_not (has row.reference x.references.items) (λ h. out (Item p row.reference a) (its_row a row at h (Item p row.reference a) (inr (item_in m.rows n.rows a row p from))) is);
    givers = λ a row e at from is h. offers_it a row e at from is h (is_of (Entity e) row.reference (row_at n.rows a)) refl;
  }

-- ---- all places

module _ (x : Reached) (m n : State) where
  abbrev of_refs : List Place
  of_refs = flat_map (reference_places m n) x.references.items

  from_provider : (p : Place) → In p (provider_places x.provider ++ (name_places x.name ++ of_refs)) → In p (places x m n)
  from_provider p h = in_right p fixed_places (provider_places x.provider ++ (name_places x.name ++ of_refs)) h

  from_name : (p : Place) → In p (name_places x.name ++ of_refs) → In p (places x m n)
  from_name p h = from_provider p (in_right p (provider_places x.provider) (name_places x.name ++ of_refs) h)

  from_refs : (r : Ref) → has r x.references.items ≡ true → (p : Place) → In p (reference_places m n r) → In p (places x m n)
  from_refs r h p g = from_name p (in_right p (name_places x.name) of_refs (in_flat (reference_places m n) r p x.references.items (in_refs r x.references.items h) g))

  -- a key that isn't among them is apart, before and after
  pub both_apart : (key : RowKey) → ((p : Place) → In p (places x m n) → key_of p ≡ key → ⊥) → IsApart key x m n × IsApart key x n m
  both_apart key out = (
    apart key x m n (places x m n) out fixed provider name record' orphan
        (λ r h p g. from_refs r h p (inr (inr (in_left p (named_places m.rows n.rows r) (named_places n.rows m.rows r) g)))),
    apart key x n m (places x m n) out fixed provider name record' orphan
        (λ r h p g. from_refs r h p (inr (inr (in_right p (named_places m.rows n.rows r) (named_places n.rows m.rows r) g)))),
  )
    where
      fixed : (p : Place) → In p fixed_places → In p (places x m n)
      fixed p h = in_left p fixed_places (provider_places x.provider ++ (name_places x.name ++ of_refs)) h

      provider : (p : Place) → In p (provider_places x.provider) → In p (places x m n)
      provider p h = from_provider p (in_left p (provider_places x.provider) (name_places x.name ++ of_refs) h)

      name : (p : Place) → In p (name_places x.name) → In p (places x m n)
      name p h = from_name p (in_left p (name_places x.name) of_refs h)

      record' : (r : Ref) → has r x.references.items ≡ true → In (Record r) (places x m n)
      record' r h = from_refs r h (Record r) (inl refl)

      orphan : (r : Ref) → has r x.references.items ≡ true → In (Orphan r) (places x m n)
      orphan r h = from_refs r h (Orphan r) (inr (inl refl))

  -- ---- each place has a key of its own

  module _ (j : IsKept m) (k : IsKept n) where
    fit_giver : (s : State) → IsKept s → (v : Option Row) (a : ℕ) (row : Row) → row_at s.rows a ≡ Some row → (o : Origin) → row.origin ≡ o → (p : Place) → In p (giver_places v a row.reference o) → IsFit p
    fit_giver s l v a row at (OfProvider q) from p (inl is) = subst IsFit (sym is) (is_named s l a row q at from)
    fit_giver s l v a row at (OfProvider q) from p (inr h) = absurd h
    fit_giver s l v a row at (Entity e) from p h = go (is_of (Entity e) row.reference v) h
      where
        go : (b : Bool) → In p (if b then [] else Record e ∷ []) → IsFit p
        go true h = absurd h
        go false (inl is) = subst IsFit (sym is) tt
        go false (inr h) = absurd h

    fit_row : (s : State) → IsKept s → (v : Option Row) (a : ℕ) (w : Option Row) → row_at s.rows a ≡ w → (p : Place) → In p (row_places v a w) → IsFit p
    fit_row s l v a None at p h = absurd h
    fit_row s l v a (Some row) at p (inl is) = subst IsFit (sym is) (fits s l a row at)
    fit_row s l v a (Some row) at p (inr h) = fit_giver s l v a row at row.origin refl p h

    fit_named : (s t : State) → IsKept s → (r : Ref) (p : Place) → In p (named_places s.rows t.rows r) → IsFit p
    fit_named s t l r p h = let f = from_flat (places_at s.rows t.rows) p (named s.rows r) h in fit_row s l (row_at t.rows f.0) f.0 (row_at s.rows f.0) refl p f.2

    fit_reference : (r : Ref) (p : Place) → In p (reference_places m n r) → IsFit p
    fit_reference r p (inl is) = subst IsFit (sym is) tt
    fit_reference r p (inr (inl is)) = subst IsFit (sym is) tt
    fit_reference r p (inr (inr h)) = go (in_either p (named_places m.rows n.rows r) (named_places n.rows m.rows r) h)
      where
        go : In p (named_places m.rows n.rows r) ⊎ In p (named_places n.rows m.rows r) → IsFit p
        go (inl g) = fit_named m n j r p g
        go (inr g) = fit_named n m k r p g

    fit_fixed : (p : Place) → In p fixed_places → IsFit p
    fit_fixed p (inl is) = subst IsFit (sym is) tt
    fit_fixed p (inr (inl is)) = subst IsFit (sym is) tt
    fit_fixed p (inr (inr (inl is))) = subst IsFit (sym is) tt
    fit_fixed p (inr (inr (inr h))) = absurd h

    fit_provider : (v : Option Text) (p : Place) → In p (provider_places v) → IsFit p
    fit_provider None p h = absurd h
    fit_provider (Some q) p (inl is) = subst IsFit (sym is) tt
    fit_provider (Some q) p (inr h) = absurd h

    fit_name : (v : Option Text) (p : Place) → In p (name_places v) → IsFit p
    fit_name None p h = absurd h
    fit_name (Some q) p (inl is) = subst IsFit (sym is) tt
    fit_name (Some q) p (inr h) = absurd h

    pub all_fit : (p : Place) → In p (places x m n) → IsFit p
    all_fit p h = of_all (in_either p fixed_places (provider_places x.provider ++ (name_places x.name ++ of_refs)) h)
      where
        of_named : In p (name_places x.name) ⊎ In p of_refs → IsFit p
        of_named (inl g) = fit_name x.name p g
        of_named (inr g) = let f = from_flat (reference_places m n) p x.references.items g in fit_reference f.0 p f.2

        of_provided : In p (provider_places x.provider) ⊎ In p (name_places x.name ++ of_refs) → IsFit p
        of_provided (inl g) = fit_provider x.provider p g
        of_provided (inr g) = of_named (in_either p (name_places x.name) of_refs g)

        of_all : In p fixed_places ⊎ In p (provider_places x.provider ++ (name_places x.name ++ of_refs)) → IsFit p
        of_all (inl g) = fit_fixed p g
        of_all (inr g) = of_provided (in_either p (provider_places x.provider) (name_places x.name ++ of_refs) g)
