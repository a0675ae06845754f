-- What a state in order says of each of its rows, and that no two rows stand at one place.
use Rattle.std.proofs.Common.{T, ◌≡◌, ◌^◌, ◌<◌, ◌⊎◌, arith, inl, inr, ℕ, Bool, true, false, [], ◌∷◌, map, refl, sym, ap, subst, ◌∙◌, true≢false}
use Rattle.std.specs.Prelude.{IsTrue}
use Rattle.std.specs.declared.option.Option.{Option}
use Rattle.std.specs.declared.option.Option.TheVariants.{None, Some}
use Rattle.std.specs.Option.{option_and_then}
use Rattle.std.specs.Cmp.{nat_cmp_total}
use Rattle.std.specs.FinMap.{nat_cmp-IsAntisymmetric}
use Rattle.std.specs.List.{flat_map}
use Rattle.cat_types.specs.Names.{is_name}
use Rattle.cat_collections.specs.Table.{Text, get}
use Rattle.cat_collections.proofs.Tables.{text_antisymmetric, text_total}
use Rattle.cat_model.specs.Catalogue.{row_at}
use Rattle.cat_model.specs.Sound.{offered}
use Rattle.cat_model.specs.declared.types.Origin.{Origin}
use Rattle.cat_model.specs.declared.types.Origin.TheVariants.{Provider as OfProvider, Entity}
use Rattle.cat_model.specs.declared.types.OrphanRule.{OrphanRule}
use Rattle.cat_model.specs.declared.types.ProviderInputs.{ProviderInputs}
use Rattle.cat_model.specs.declared.types.Row.{Row}
use Rattle.cat_model.specs.declared.types.State.{State}
use Rattle.cat_keeper.specs.declared.table.Table.{Table}
use Rattle.cat_keeper.specs.declared.table.Table.TheVariants as table
use Rattle.cat_row_format.specs.Text.{row_key, row_table}
use Rattle.cat_row_format.specs.declared.row.StoredCounter.TheVariants.{Arrival, Number}
use Rattle.cat_row_format.specs.declared.row.StoredRow.{StoredRow}
use Rattle.cat_row_format.specs.declared.row.StoredRow.TheVariants.{Counter, Provider, Item, Shelf, Orphan as OrphanRow, Settings, Tree}
use Rattle.cat_stored_rows.specs.Stored.{all_rows, counter_rows, emitted, given_rows, item_rows, kept_in, orphan_row, provider_row, record_row, rule_of, shelf_row}
use Rattle.cat_stored_rows.specs.declared.version.Version.TheVariants.{Two}
use Rattle.cat_stored_rows.proofs.In.{In, found_in, from_flat, from_map, in_either, none_some, same_some}
use Rattle.cat_row_updates.proofs.Rows.{AreApart}
use Rattle.cat_row_updates.proofs.Values.{one_arrival, one_counter, one_item}
use Rattle.cat_row_updates.proofs.Views.{Is, by_parts, next_of}
use Rattle.cat_row_updates.specs.Renewed.{AreSorted, IsKept}

pub to_T : (b : Bool) → IsTrue b → T b
to_T true h = tt
to_T false h = absurd (true≢false (sym h))

module _ (rule : OrphanRule) (m : State) (o : AreSorted m) where
  -- ---- each row is that of something that stands in the state

  -- a row of a table, by what it is
  seen : (b c : StoredRow) → b ≡ c → Is rule m (row_table c) b → Is rule m (row_table b) b
  seen b c e h = subst (λ k. Is rule m k b) (sym (ap row_table e)) h

  is_counter : (b : StoredRow) → In b (counter_rows m) → Is rule m (row_table b) b
  is_counter b (inl e) = seen b (Counter Arrival m.arrival) e (Arrival, e)
  is_counter b (inr (inl e)) = seen b (Counter Number m.number) e (Number, e)
  is_counter b (inr (inr h)) = absurd h

  is_provider : (b : StoredRow) → In b (map provider_row m.providers) → Is rule m (row_table b) b
  is_provider b h =
      let f = from_map provider_row b m.providers h in
      seen b (provider_row f.0) f.2 (f.0.0, f.0.1, found_in text_total text_antisymmetric m.providers (to_T _ o.providers) f.0.0 f.0.1 f.1, f.2)

  is_item : (b : StoredRow) (a : ℕ) (row : Row) (q : Origin) → row.origin ≡ q → row_at m.rows a ≡ Some row → In b (item_rows a row.reference row.offered.key q) → Is rule m (row_table b) b
  is_item b a row (OfProvider p) e f (inl is) = seen b (Item p row.reference a row.offered.key) is (a, row, p, f, e, is)
  is_item b a row (OfProvider p) e f (inr h) = absurd h
  is_item b a row (Entity r) e f h = absurd h

  is_given : (b : StoredRow) → In b (flat_map given_rows m.rows) → Is rule m (row_table b) b
  is_given b h =
      let f = from_flat given_rows b m.rows h in
      go f.0.0 f.0.1 (found_in nat_cmp_total nat_cmp-IsAntisymmetric m.rows (to_T _ o.rows) f.0.0 f.0.1 f.1)
      (in_either b (item_rows f.0.0 f.0.1.reference f.0.1.offered.key f.0.1.origin) (Tree f.0.0 f.0.1.offered.tree ∷ []) f.2)
    where
      go : (a : ℕ) (row : Row) → row_at m.rows a ≡ Some row → In b (item_rows a row.reference row.offered.key row.origin) ⊎ In b (Tree a row.offered.tree ∷ []) → Is rule m (row_table b) b
      go a row f (inl g) = is_item b a row row.origin refl f g
      go a row f (inr (inl is)) = seen b (Tree a row.offered.tree) is (a, row, f, is)
      go a row f (inr (inr g)) = absurd g

  is_text : (b : StoredRow) → In b (map shelf_row m.shelf) → Is rule m (row_table b) b
  is_text b h =
      let f = from_map shelf_row b m.shelf h in
      seen b (shelf_row f.0) f.2 (f.0.0, f.0.1, found_in text_total text_antisymmetric m.shelf (to_T _ o.shelf) f.0.0 f.0.1 f.1, f.2)

  is_record : (b : StoredRow) → In b (map (record_row m.holders (emitted m.rows)) m.records) → Is rule m (row_table b) b
  is_record b h =
      let f = from_map (record_row m.holders (emitted m.rows)) b m.records h in
      seen b (record_row m.holders (emitted m.rows) f.0) f.2 (f.0.0, f.0.1, found_in text_total text_antisymmetric m.records (to_T _ o.records) f.0.0 f.0.1 f.1, f.2)

  is_orphan : (b : StoredRow) → In b (map orphan_row m.orphans) → Is rule m (row_table b) b
  is_orphan b h =
      let f = from_map orphan_row b m.orphans h in
      seen b (orphan_row f.0) f.2 (f.0.0, f.0.1, found_in text_total text_antisymmetric m.orphans (to_T _ o.orphans) f.0.0 f.0.1 f.1, f.2)

  pub what_is : (b : StoredRow) → In b (all_rows rule m) → Is rule m (row_table b) b
  what_is b h = go (in_either b (counter_rows m) (Settings (rule_of rule) ∷ kept_in Two m) h)
    where
      go : In b (counter_rows m) ⊎ In b (Settings (rule_of rule) ∷ kept_in Two m) → Is rule m (row_table b) b
      go (inl g) = is_counter b g
      go (inr (inl e)) = seen b (Settings (rule_of rule)) e e
      go (inr (inr g)) = by_parts Two m (λ c. Is rule m (row_table c) c) is_provider is_given is_text is_record is_orphan b g

-- ---- names and arrival numbers that rows have

module _ (m : State) (k : IsKept m) where
  pub is_named : (a : ℕ) (row : Row) (p : Text) → row_at m.rows a ≡ Some row → row.origin ≡ OfProvider p → IsTrue (is_name p)
  is_named a row p f e = go (get m.providers p) (k.names p) (ap (λ o. offered m o row.reference) (sym e) ∙ k.offers.given a row f)
    where
      go : (v : Option ProviderInputs) → ((x : ProviderInputs) → v ≡ Some x → IsTrue (is_name p)) → option_and_then (λ x. get x.items row.reference) v ≡ Some row.offered → IsTrue (is_name p)
      go None h g = absurd (none_some g)
      go (Some x) h g = h x refl

  pub fits : (a : ℕ) (row : Row) → row_at m.rows a ≡ Some row → a < 2 ^ 64
  fits a row f = let below = k.offers.below a row f in omega (arith, below, k.small)

-- ---- no two rows stand at one place

module _ (rule : OrphanRule) (m : State) (k : IsKept m) where
  one_at : (s : Table) (b c : StoredRow) → Is rule m s b → Is rule m s c → row_key b ≡ row_key c → b ≡ c
  one_at table.Counters b c h i e =
      let same : h.0 ≡ i.0 = one_counter h.0 i.0 (sym (ap row_key h.1) ∙ (e ∙ ap row_key i.1)) in
      h.1 ∙ (ap (λ c. Counter c (next_of m c)) same ∙ sym i.1)
  one_at table.Providers b c h i e =
      let key : h.0 ≡ i.0 = sym (ap row_key h.3) ∙ (e ∙ ap row_key i.3) in
      let same : h.1 ≡ i.1 = same_some (sym h.2 ∙ (ap (get m.providers) key ∙ i.2)) in
      h.3 ∙ ((λ j. Provider (key j) (same j).serial) ∙ sym i.3)
  one_at table.Items b c h i e =
      let key = one_item h.2 i.2 h.1.reference i.1.reference (is_named m k h.0 h.1 h.2 h.3 h.4) (is_named m k i.0 i.1 i.2 i.3 i.4) (sym (ap row_key h.5) ∙ (e ∙ ap row_key i.5)) in
      let same : h.0 ≡ i.0 = k.offers.once h.0 i.0 h.1 i.1 h.3 i.3 (h.4 ∙ (ap OfProvider key.0 ∙ sym i.4)) key.1 in
      let row : h.1 ≡ i.1 = same_some (sym h.3 ∙ (ap (row_at m.rows) same ∙ i.3)) in
      h.5 ∙ ((λ j. Item (key.0 j) (key.1 j) (same j) (row j).offered.key) ∙ sym i.5)
  one_at table.Shelf b c h i e =
      let key : h.0 ≡ i.0 = sym (ap row_key h.3) ∙ (e ∙ ap row_key i.3) in
      let same : h.1 ≡ i.1 = same_some (sym h.2 ∙ (ap (get m.shelf) key ∙ i.2)) in
      h.3 ∙ ((λ j. Shelf (key j) (same j)) ∙ sym i.3)
  one_at table.Records b c h i e =
      let key : h.0 ≡ i.0 = sym (ap row_key h.3) ∙ (e ∙ ap row_key i.3) in
      let same : h.1 ≡ i.1 = same_some (sym h.2 ∙ (ap (get m.records) key ∙ i.2)) in
      h.3 ∙ ((λ j. record_row m.holders (emitted m.rows) (key j, same j)) ∙ sym i.3)
  one_at table.Orphans b c h i e =
      let key : h.0 ≡ i.0 = sym (ap row_key h.3) ∙ (e ∙ ap row_key i.3) in
      let same : h.1 ≡ i.1 = same_some (sym h.2 ∙ (ap (get m.orphans) key ∙ i.2)) in
      h.3 ∙ ((λ j. OrphanRow (key j) (same j).entity (same j).number) ∙ sym i.3)
  one_at table.Settings b c h i e = h ∙ sym i
  one_at table.Trees b c h i e =
      let same : h.0 ≡ i.0 = one_arrival h.0 i.0 h.1.offered.tree i.1.offered.tree (fits m k h.0 h.1 h.2) (fits m k i.0 i.1 i.2) (sym (ap row_key h.3) ∙ (e ∙ ap row_key i.3)) in
      let row : h.1 ≡ i.1 = same_some (sym h.2 ∙ (ap (row_at m.rows) same ∙ i.2)) in
      h.3 ∙ ((λ j. Tree (same j) (row j).offered.tree) ∙ sym i.3)

  pub all_apart : AreSorted m → AreApart (all_rows rule m)
  all_apart o b c g h at =
      let same_table : Is rule m (row_table c) b = subst (λ s. Is rule m s b) (ap (λ p. p.0) at) (what_is rule m o b g) in
      one_at (row_table c) b c same_table (what_is rule m o c h) (ap (λ p. p.1) at)
