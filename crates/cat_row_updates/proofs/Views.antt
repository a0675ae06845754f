-- What a state says of each of its rows.
use Rattle.std.proofs.Common.{◌≡◌, ◌^◌, ◌<◌, ◌≤◌, ◌⊎◌, arith, inl, inr, ℕ, List, [], ◌∷◌, ◌++◌, map, refl, sym, ap, subst, ◌∙◌, unwrap_or}
use Rattle.std.specs.Prelude.{IsTrue}
use Rattle.std.specs.declared.option.Option.{Option}
use Rattle.std.specs.declared.option.Option.TheVariants.{None, Some}
use Rattle.std.specs.Option.{option_and_then}
use Rattle.std.specs.Cmp.{nat_cmp_total}
use Rattle.std.specs.FinMap.{nat_cmp-IsAntisymmetric}
use Rattle.std.specs.List.{flat_map}
use Rattle.cat_types.specs.Names.{is_name}
use Rattle.cat_tree.specs.Proper.{IsNarrow}
use Rattle.cat_collections.specs.Table.{Text, get}
use Rattle.cat_collections.proofs.Tables.{text_antisymmetric, text_total}
use Rattle.cat_model.specs.Catalogue.{Ref, row_at}
use Rattle.cat_model.specs.Sound.{offered}
use Rattle.cat_model.specs.declared.types.Origin.{Origin}
use Rattle.cat_model.specs.declared.types.Origin.TheVariants.{Provider as OfProvider, Entity}
use Rattle.cat_model.specs.declared.types.Orphan.{Orphan}
use Rattle.cat_model.specs.declared.types.OrphanRule.{OrphanRule}
use Rattle.cat_model.specs.declared.types.ProviderInputs.{ProviderInputs}
use Rattle.cat_model.specs.declared.types.Record.{Record as Recorded}
use Rattle.cat_model.specs.declared.types.Row.{Row}
use Rattle.cat_model.specs.declared.types.State.{State}
use Rattle.cat_keeper.specs.declared.table.Table.{Table}
use Rattle.cat_keeper.specs.declared.table.Table.TheVariants as table
use Rattle.cat_row_format.specs.Names.{counter_text}
use Rattle.cat_row_format.specs.Text.{row_data, row_key, row_table}
use Rattle.cat_row_format.specs.declared.row.StoredCounter.{StoredCounter}
use Rattle.cat_row_format.specs.declared.row.StoredCounter.TheVariants.{Arrival, Number}
use Rattle.cat_row_format.specs.declared.row.StoredRow.{StoredRow}
use Rattle.cat_row_format.specs.declared.row.StoredRow.TheVariants.{Counter, Provider, Item, Shelf, Record, Orphan as OrphanRow, Settings, Tree}
use Rattle.cat_stored_rows.specs.Stored.{all_rows, counter_rows, emitted, given_in, given_rows, item_rows, kept_in, orphan_row, provider_row, put_rows, record_in, record_row, rule_of, shelf_row, text_in, texts_of}
use Rattle.cat_stored_rows.specs.declared.version.Version.{Version}
use Rattle.cat_stored_rows.specs.declared.version.Version.TheVariants.{Two}
use Rattle.cat_stored_rows.specs.Told.{IsTold}
use Rattle.cat_stored_rows.proofs.In.{In, found_in, from_flat, from_map, in_either, in_flat, in_found, in_left, in_map, in_right, none_some, same_some}
use Rattle.cat_row_updates.proofs.Rows.{AreApart, AreMet, meets, place}
use Rattle.cat_row_updates.proofs.Texts.{one_text}
use Rattle.cat_row_updates.proofs.Values.{counter_value, item_value, one_arrival, one_counter, one_item, orphan_value, provider_value, record_value, rule_value, text_value}

-- the next number of a counter
abbrev pub next_of : State → StoredCounter → ℕ
next_of m Arrival = m.arrival
next_of m Number = m.number

-- a row of each table is made of what stands in the state
abbrev pub Is : OrphanRule → State → Table → StoredRow → Type 0
Is rule m table.Counters b = (c : StoredCounter) × (b ≡ Counter c (next_of m c))
Is rule m table.Providers b = (p : Text) × (x : ProviderInputs) × (get m.providers p ≡ Some x) × (b ≡ Provider p x.serial)
Is rule m table.Items b = (a : ℕ) × (row : Row) × (p : Text) × (row_at m.rows a ≡ Some row) × (row.origin ≡ OfProvider p) × (b ≡ Item p row.reference a row.offered.key)
Is rule m table.Shelf b = (name : Text) × (body : Text) × (get m.shelf name ≡ Some body) × (b ≡ Shelf name body)
Is rule m table.Records b = (r : Ref) × (x : Recorded) × (get m.records r ≡ Some x) × (b ≡ record_row m.holders (emitted m.rows) (r, x))
Is rule m table.Orphans b = (r : Ref) × (x : Orphan) × (get m.orphans r ≡ Some x) × (b ≡ OrphanRow r x.entity x.number)
Is rule m table.Settings b = b ≡ Settings (rule_of rule)
Is rule m table.Trees b = (a : ℕ) × (row : Row) × (row_at m.rows a ≡ Some row) × (b ≡ Tree a row.offered.tree)

-- providers have names, and arrival numbers have 64 bits
pub record AreKeyed (m : State) : Type 0 where
  pub names : (p : Text) (x : ProviderInputs) → get m.providers p ≡ Some x → IsTrue (is_name p)
  pub small : m.arrival ≤ 2 ^ 64

-- ---- the parts of what a state keeps, in either version

module _ (version : Version) (m : State) where
  abbrev orphans : List StoredRow
  orphans = map orphan_row m.orphans

  abbrev records : List StoredRow
  records = map (record_in version m.holders (emitted m.rows)) m.records ++ orphans

  abbrev shelf : List StoredRow
  shelf = map shelf_row m.shelf ++ records

  abbrev given : List StoredRow
  given = flat_map (given_in version) m.rows ++ shelf

  pub kept_provider : (p : Text) (x : ProviderInputs) → get m.providers p ≡ Some x → In (Provider p x.serial) (kept_in version m)
  kept_provider p x f = in_left _ (map provider_row m.providers) given (in_map provider_row (p, x) m.providers (in_found text_total text_antisymmetric p m.providers x f))

  from_given : (b : StoredRow) → In b given → In b (kept_in version m)
  from_given b h = in_right b (map provider_row m.providers) given h

  pub kept_given : (a : ℕ) (row : Row) (b : StoredRow) → row_at m.rows a ≡ Some row → In b (given_in version (a, row)) → In b (kept_in version m)
  kept_given a row b f h =
      from_given b (in_left b (flat_map (given_in version) m.rows) shelf (in_flat (given_in version) (a, row) b m.rows (in_found nat_cmp_total nat_cmp-IsAntisymmetric a m.rows row f) h))

  from_shelf : (b : StoredRow) → In b shelf → In b (kept_in version m)
  from_shelf b h = from_given b (in_right b (flat_map (given_in version) m.rows) shelf h)

  pub kept_text : (name body : Text) → get m.shelf name ≡ Some body → In (Shelf name body) (kept_in version m)
  kept_text name body f = from_shelf _ (in_left _ (map shelf_row m.shelf) records (in_map shelf_row (name, body) m.shelf (in_found text_total text_antisymmetric name m.shelf body f)))

  from_records : (b : StoredRow) → In b records → In b (kept_in version m)
  from_records b h = from_shelf b (in_right b (map shelf_row m.shelf) records h)

  pub kept_record : (r : Ref) (x : Recorded) → get m.records r ≡ Some x → In (record_in version m.holders (emitted m.rows) (r, x)) (kept_in version m)
  kept_record r x f =
      from_records _ (in_left _ (map (record_in version m.holders (emitted m.rows)) m.records) orphans
      (in_map (record_in version m.holders (emitted m.rows)) (r, x) m.records (in_found text_total text_antisymmetric r m.records x f)))

  pub kept_orphan : (r : Ref) (x : Orphan) → get m.orphans r ≡ Some x → In (OrphanRow r x.entity x.number) (kept_in version m)
  kept_orphan r x f =
      from_records _ (in_right _ (map (record_in version m.holders (emitted m.rows)) m.records) orphans (in_map orphan_row (r, x) m.orphans (in_found text_total text_antisymmetric r m.orphans x f)))

  -- what holds of the rows of each part holds of all
  pub by_parts : (P : StoredRow → Type 0) → ((b : StoredRow) → In b (map provider_row m.providers) → P b) → ((b : StoredRow) → In b (flat_map (given_in version) m.rows) → P b)
      → ((b : StoredRow) → In b (map shelf_row m.shelf) → P b) → ((b : StoredRow) → In b (map (record_in version m.holders (emitted m.rows)) m.records) → P b)
      → ((b : StoredRow) → In b (map orphan_row m.orphans) → P b) → (b : StoredRow) → In b (kept_in version m) → P b
  by_parts P by_provider by_given by_text by_record by_orphan b h = of_all (in_either b (map provider_row m.providers) given h)
    where
      of_records : In b (map (record_in version m.holders (emitted m.rows)) m.records) ⊎ In b orphans → P b
      of_records (inl g) = by_record b g
      of_records (inr g) = by_orphan b g

      of_shelf : In b (map shelf_row m.shelf) ⊎ In b records → P b
      of_shelf (inl g) = by_text b g
      of_shelf (inr g) = of_records (in_either b (map (record_in version m.holders (emitted m.rows)) m.records) orphans g)

      of_given : In b (flat_map (given_in version) m.rows) ⊎ In b shelf → P b
      of_given (inl g) = by_given b g
      of_given (inr g) = of_shelf (in_either b (map shelf_row m.shelf) records g)

      of_all : In b (map provider_row m.providers) ⊎ In b given → P b
      of_all (inl g) = by_provider b g
      of_all (inr g) = of_given (in_either b (flat_map (given_in version) m.rows) shelf g)

module _ (rule : OrphanRule) (m : State) where
  later : (b : StoredRow) → In b (kept_in Two m) → In b (all_rows rule m)
  later b h = in_right b (counter_rows m) (Settings (rule_of rule) ∷ kept_in Two m) (inr h)

  -- ---- what stands in the state has its row

  pub has_counter : (c : StoredCounter) → In (Counter c (next_of m c)) (all_rows rule m)
  has_counter Arrival = inl refl
  has_counter Number = inr (inl refl)

  pub has_settings : In (Settings (rule_of rule)) (all_rows rule m)
  has_settings = inr (inr (inl refl))

  pub has_provider : (p : Text) (x : ProviderInputs) → get m.providers p ≡ Some x → In (Provider p x.serial) (all_rows rule m)
  has_provider p x f = later _ (kept_provider Two m p x f)

  item_in : (a : ℕ) (r key : Text) (o : Origin) (p : Text) → o ≡ OfProvider p → In (Item p r a key) (item_rows a r key o)
  item_in a r key o p e = subst (λ o. In (Item p r a key) (item_rows a r key o)) (sym e) (inl refl)

  pub has_item : (a : ℕ) (row : Row) (p : Text) → row_at m.rows a ≡ Some row → row.origin ≡ OfProvider p → In (Item p row.reference a row.offered.key) (all_rows rule m)
  has_item a row p f e =
      later _ (kept_given Two m a row _ f (in_left _ (item_rows a row.reference row.offered.key row.origin) (Tree a row.offered.tree ∷ []) (item_in a row.reference row.offered.key row.origin p e)))

  pub has_tree : (a : ℕ) (row : Row) → row_at m.rows a ≡ Some row → In (Tree a row.offered.tree) (all_rows rule m)
  has_tree a row f = later _ (kept_given Two m a row _ f (in_right _ (item_rows a row.reference row.offered.key row.origin) (Tree a row.offered.tree ∷ []) (inl refl)))

  pub has_text : (name body : Text) → get m.shelf name ≡ Some body → In (Shelf name body) (all_rows rule m)
  has_text name body f = later _ (kept_text Two m name body f)

  pub has_record : (r : Ref) (x : Recorded) → get m.records r ≡ Some x → In (record_row m.holders (emitted m.rows) (r, x)) (all_rows rule m)
  has_record r x f = later _ (kept_record Two m r x f)

  pub has_orphan : (r : Ref) (x : Orphan) → get m.orphans r ≡ Some x → In (OrphanRow r x.entity x.number) (all_rows rule m)
  has_orphan r x f = later _ (kept_orphan Two m r x f)

  -- ---- each row is that of something that stands in the state

  module _ (t : IsTold m) where
    -- a row of a table, by what it is
    seen : (b c : StoredRow) → b ≡ c → Is rule m (row_table c) b → Is rule m (row_table b) b
    seen b c e h = subst (λ k. Is rule m k b) (sym (ap row_table e)) h

    is_counter : (b : StoredRow) → In b (counter_rows m) → Is rule m (row_table b) b
    is_counter b (inl e) = seen b (Counter Arrival m.arrival) e (Arrival, e)
    is_counter b (inr (inl e)) = seen b (Counter Number m.number) e (Number, e)
    is_counter b (inr (inr h)) = absurd h

    is_provider : (b : StoredRow) → In b (map provider_row m.providers) → Is rule m (row_table b) b
    is_provider b h =
        let f = from_map provider_row b m.providers h in
        seen b (provider_row f.0) f.2 (f.0.0, f.0.1, found_in text_total text_antisymmetric m.providers t.providers_in_order f.0.0 f.0.1 f.1, f.2)

    is_item : (b : StoredRow) (a : ℕ) (row : Row) (o : Origin) → row.origin ≡ o → row_at m.rows a ≡ Some row → In b (item_rows a row.reference row.offered.key o) → Is rule m (row_table b) b
    is_item b a row (OfProvider p) e f (inl is) = seen b (Item p row.reference a row.offered.key) is (a, row, p, f, e, is)
    is_item b a row (OfProvider p) e f (inr h) = absurd h
    is_item b a row (Entity r) e f h = absurd h

    is_given : (b : StoredRow) → In b (flat_map given_rows m.rows) → Is rule m (row_table b) b
    is_given b h =
        let f = from_flat given_rows b m.rows h in
        go f.0.0 f.0.1 (found_in nat_cmp_total nat_cmp-IsAntisymmetric m.rows t.rows_in_order f.0.0 f.0.1 f.1)
        (in_either b (item_rows f.0.0 f.0.1.reference f.0.1.offered.key f.0.1.origin) (Tree f.0.0 f.0.1.offered.tree ∷ []) f.2)
      where
        go : (a : ℕ) (row : Row) → row_at m.rows a ≡ Some row → In b (item_rows a row.reference row.offered.key row.origin) ⊎ In b (Tree a row.offered.tree ∷ []) → Is rule m (row_table b) b
        go a row f (inl g) = is_item b a row row.origin refl f g
        go a row f (inr (inl is)) = seen b (Tree a row.offered.tree) is (a, row, f, is)
        go a row f (inr (inr g)) = absurd g

    is_text : (b : StoredRow) → In b (map shelf_row m.shelf) → Is rule m (row_table b) b
    is_text b h =
        let f = from_map shelf_row b m.shelf h in
        seen b (shelf_row f.0) f.2 (f.0.0, f.0.1, found_in text_total text_antisymmetric m.shelf t.shelf_in_order f.0.0 f.0.1 f.1, f.2)

    is_record : (b : StoredRow) → In b (map (record_row m.holders (emitted m.rows)) m.records) → Is rule m (row_table b) b
    is_record b h =
        let f = from_map (record_row m.holders (emitted m.rows)) b m.records h in
        seen b (record_row m.holders (emitted m.rows) f.0) f.2 (f.0.0, f.0.1, found_in text_total text_antisymmetric m.records t.records_in_order f.0.0 f.0.1 f.1, f.2)

    is_orphan : (b : StoredRow) → In b (map orphan_row m.orphans) → Is rule m (row_table b) b
    is_orphan b h =
        let f = from_map orphan_row b m.orphans h in
        seen b (orphan_row f.0) f.2 (f.0.0, f.0.1, found_in text_total text_antisymmetric m.orphans t.orphans_in_order f.0.0 f.0.1 f.1, f.2)

    pub what_is : (b : StoredRow) → In b (all_rows rule m) → Is rule m (row_table b) b
    what_is b h = go (in_either b (counter_rows m) (Settings (rule_of rule) ∷ kept_in Two m) h)
      where
        go : In b (counter_rows m) ⊎ In b (Settings (rule_of rule) ∷ kept_in Two m) → Is rule m (row_table b) b
        go (inl g) = is_counter b g
        go (inr (inl e)) = seen b (Settings (rule_of rule)) e e
        go (inr (inr g)) = by_parts Two m (λ c. Is rule m (row_table c) c) is_provider is_given is_text is_record is_orphan b g

    module _ (k : AreKeyed m) where
      -- ---- names and arrival numbers that rows have

      pub named : (a : ℕ) (row : Row) (p : Text) → row_at m.rows a ≡ Some row → row.origin ≡ OfProvider p → IsTrue (is_name p)
      named a row p f e = go (get m.providers p) (k.names p) (ap (λ o. offered m o row.reference) (sym e) ∙ t.offers.given a row f)
        where
          go : (v : Option ProviderInputs) → ((x : ProviderInputs) → v ≡ Some x → IsTrue (is_name p)) → option_and_then (λ x. get x.items row.reference) v ≡ Some row.offered → IsTrue (is_name p)
          go None h g = absurd (none_some g)
          go (Some x) h g = h x refl

      fits : (a : ℕ) (row : Row) → row_at m.rows a ≡ Some row → a < 2 ^ 64
      fits a row f = let below = t.offers.below a row f in omega (arith, below, k.small)

      -- ---- no two rows stand at one place

      pub one_at : (s : Table) (b c : StoredRow) → Is rule m s b → Is rule m s c → row_key b ≡ row_key c → b ≡ c
      one_at table.Counters b c h i e =
          let same : h.0 ≡ i.0 = one_counter h.0 i.0 (sym (ap row_key h.1) ∙ (e ∙ ap row_key i.1)) in
          h.1 ∙ (ap (λ c. Counter c (next_of m c)) same ∙ sym i.1)
      one_at table.Providers b c h i e =
          let key : h.0 ≡ i.0 = sym (ap row_key h.3) ∙ (e ∙ ap row_key i.3) in
          let same : h.1 ≡ i.1 = same_some (sym h.2 ∙ (ap (get m.providers) key ∙ i.2)) in
          h.3 ∙ ((λ j. Provider (key j) (same j).serial) ∙ sym i.3)
      one_at table.Items b c h i e =
          let key = one_item h.2 i.2 h.1.reference i.1.reference (named h.0 h.1 h.2 h.3 h.4) (named i.0 i.1 i.2 i.3 i.4) (sym (ap row_key h.5) ∙ (e ∙ ap row_key i.5)) in
          let same : h.0 ≡ i.0 = t.offers.once h.0 i.0 h.1 i.1 h.3 i.3 (h.4 ∙ (ap OfProvider key.0 ∙ sym i.4)) key.1 in
          let row : h.1 ≡ i.1 = same_some (sym h.3 ∙ (ap (row_at m.rows) same ∙ i.3)) in
          h.5 ∙ ((λ j. Item (key.0 j) (key.1 j) (same j) (row j).offered.key) ∙ sym i.5)
      one_at table.Shelf b c h i e =
          let key : h.0 ≡ i.0 = sym (ap row_key h.3) ∙ (e ∙ ap row_key i.3) in
          let same : h.1 ≡ i.1 = same_some (sym h.2 ∙ (ap (get m.shelf) key ∙ i.2)) in
          h.3 ∙ ((λ j. Shelf (key j) (same j)) ∙ sym i.3)
      one_at table.Records b c h i e =
          let key : h.0 ≡ i.0 = sym (ap row_key h.3) ∙ (e ∙ ap row_key i.3) in
          let same : h.1 ≡ i.1 = same_some (sym h.2 ∙ (ap (get m.records) key ∙ i.2)) in
          h.3 ∙ ((λ j. record_row m.holders (emitted m.rows) (key j, same j)) ∙ sym i.3)
      one_at table.Orphans b c h i e =
          let key : h.0 ≡ i.0 = sym (ap row_key h.3) ∙ (e ∙ ap row_key i.3) in
          let same : h.1 ≡ i.1 = same_some (sym h.2 ∙ (ap (get m.orphans) key ∙ i.2)) in
          h.3 ∙ ((λ j. OrphanRow (key j) (same j).entity (same j).number) ∙ sym i.3)
      one_at table.Settings b c h i e = h ∙ sym i
      one_at table.Trees b c h i e =
          let same : h.0 ≡ i.0 = one_arrival h.0 i.0 h.1.offered.tree i.1.offered.tree (fits h.0 h.1 h.2) (fits i.0 i.1 i.2) (sym (ap row_key h.3) ∙ (e ∙ ap row_key i.3)) in
          let row : h.1 ≡ i.1 = same_some (sym h.2 ∙ (ap (row_at m.rows) same ∙ i.2)) in
          h.3 ∙ ((λ j. Tree (same j) (row j).offered.tree) ∙ sym i.3)

      pub all_apart : AreApart (all_rows rule m)
      all_apart b c g h at =
          let same_table : Is rule m (row_table c) b = subst (λ s. Is rule m s b) (ap (λ p. p.0) at) (what_is b g) in
          one_at (row_table c) b c same_table (what_is c h) (ap (λ p. p.1) at)

-- ---- a row of one state is that of another at its place, where their values are one

module _ (rule other : OrphanRule) (m n : State) (t : IsTold m) (u : IsTold n) (k : AreKeyed m) (l : AreKeyed n) where
  pub one_value : (s : Table) (b c : StoredRow) → Is rule m s b → Is other n s c → row_key b ≡ row_key c → row_data b ≡ row_data c → b ≡ c
  one_value table.Counters b c h i e d =
      let key : h.0 ≡ i.0 = one_counter h.0 i.0 (sym (ap row_key h.1) ∙ (e ∙ ap row_key i.1)) in
      let value : next_of m h.0 ≡ next_of n i.0 = counter_value h.0 i.0 (next_of m h.0) (next_of n i.0) (sym (ap row_data h.1) ∙ (d ∙ ap row_data i.1)) in
      h.1 ∙ ((λ j. Counter (key j) (value j)) ∙ sym i.1)
  one_value table.Providers b c h i e d =
      let key : h.0 ≡ i.0 = sym (ap row_key h.3) ∙ (e ∙ ap row_key i.3) in
      let value : h.1.serial ≡ i.1.serial = provider_value h.0 i.0 h.1.serial i.1.serial (sym (ap row_data h.3) ∙ (d ∙ ap row_data i.3)) in
      h.3 ∙ ((λ j. Provider (key j) (value j)) ∙ sym i.3)
  one_value table.Items b c h i e d =
      let key = one_item h.2 i.2 h.1.reference i.1.reference (named rule m t k h.0 h.1 h.2 h.3 h.4) (named other n u l i.0 i.1 i.2 i.3 i.4) (sym (ap row_key h.5) ∙ (e ∙ ap row_key i.5)) in
      let value = item_value h.2 i.2 h.1.reference i.1.reference h.0 i.0 h.1.offered.key i.1.offered.key (sym (ap row_data h.5) ∙ (d ∙ ap row_data i.5)) in
      h.5 ∙ ((λ j. Item (key.0 j) (key.1 j) (value.0 j) (value.1 j)) ∙ sym i.5)
  one_value table.Shelf b c h i e d =
      let key : h.0 ≡ i.0 = sym (ap row_key h.3) ∙ (e ∙ ap row_key i.3) in
      let value : h.1 ≡ i.1 = text_value h.0 i.0 h.1 i.1 (sym (ap row_data h.3) ∙ (d ∙ ap row_data i.3)) in
      h.3 ∙ ((λ j. Shelf (key j) (value j)) ∙ sym i.3)
  one_value table.Records b c h i e d =
      let key : h.0 ≡ i.0 = sym (ap row_key h.3) ∙ (e ∙ ap row_key i.3) in
      let value = record_value (emitted m.rows) (emitted n.rows) h.0 i.0 Two (unwrap_or (get m.holders h.0) 0) (unwrap_or (get n.holders i.0) 0) h.1.issues i.1.issues h.1.number i.1.number
      h.1.output i.1.output (sym (ap row_data h.3) ∙ (d ∙ ap row_data i.3)) in
      h.3 ∙ ((λ j. Record (key j) (value.0 j) (value.1 j) (value.2 j) (value.3 j)) ∙ sym i.3)
  one_value table.Orphans b c h i e d =
      let key : h.0 ≡ i.0 = sym (ap row_key h.3) ∙ (e ∙ ap row_key i.3) in
      let value = orphan_value h.0 i.0 h.1.entity i.1.entity h.1.number i.1.number (sym (ap row_data h.3) ∙ (d ∙ ap row_data i.3)) in
      h.3 ∙ ((λ j. OrphanRow (key j) (value.0 j) (value.1 j)) ∙ sym i.3)
  one_value table.Settings b c h i e d =
      h ∙ (ap Settings (rule_value (rule_of rule) (rule_of other) (sym (ap row_data h) ∙ (d ∙ ap row_data i))) ∙ sym i)
  one_value table.Trees b c h i e d =
      let key : h.0 ≡ i.0 = one_arrival h.0 i.0 h.1.offered.tree i.1.offered.tree (fits rule m t k h.0 h.1 h.2) (fits other n u l i.0 i.1 i.2) (sym (ap row_key h.3) ∙ (e ∙ ap row_key i.3)) in
      let value : h.1.offered.tree ≡ i.1.offered.tree = sym (ap row_data h.3) ∙ (d ∙ ap row_data i.3) in
      h.3 ∙ ((λ j. Tree (key j) (value j)) ∙ sym i.3)

  pub one_row : (b c : StoredRow) → In b (all_rows rule m) → In c (all_rows other n) → IsNarrow (row_data b) → IsNarrow (row_data c) → place b ≡ place c → text_in b ≡ text_in c → b ≡ c
  one_row b c g h p q at text =
      let same_table : Is rule m (row_table c) b = subst (λ s. Is rule m s b) (ap (λ p. p.0) at) (what_is rule m t b g) in
      one_value (row_table c) b c same_table (what_is other n u c h) (ap (λ p. p.1) at) (one_text (row_data b) (row_data c) p q text)

-- ---- names and arrival numbers of a state are those of another whose rows have its texts

module _ (rule other : OrphanRule) (m n : State) (t : IsTold m) (u : IsTold n) (k : AreKeyed m)
    (narrow : (b : StoredRow) → In b (all_rows rule m) → IsNarrow (row_data b)) (others : (b : StoredRow) → In b (all_rows other n) → IsNarrow (row_data b))
    (same : texts_of (put_rows (all_rows rule m) []) ≡ texts_of (put_rows (all_rows other n) [])) where
  name_there : (p : Text) (x : ProviderInputs) → get n.providers p ≡ Some x → IsTrue (is_name p)
  name_there p x f = go (meets (all_rows rule m) (all_rows other n) same (Provider p x.serial) (has_provider other n p x f))
    where
      go : AreMet (all_rows rule m) (all_rows other n) (table.Providers, p) → IsTrue (is_name p)
      go met =
          let is : Is rule m table.Providers met.mine = subst (λ s. Is rule m s met.mine) (ap (λ q. q.0) met.at_mine) (what_is rule m t met.mine met.in_mine) in
          let key : is.0 ≡ p = sym (ap row_key is.3) ∙ ap (λ q. q.1) met.at_mine in
          subst (λ q. IsTrue (is_name q)) key (k.names is.0 is.1 is.2)

  -- the row of the counter of arrivals
  counted : (rule : OrphanRule) (m : State) → IsTold m → (b : StoredRow) → In b (all_rows rule m) → place b ≡ (table.Counters, counter_text Arrival) → b ≡ Counter Arrival m.arrival
  counted rule m t b h at =
      let is : Is rule m table.Counters b = subst (λ s. Is rule m s b) (ap (λ q. q.0) at) (what_is rule m t b h) in
      let one : is.0 ≡ Arrival = one_counter is.0 Arrival (sym (ap row_key is.1) ∙ ap (λ q. q.1) at) in
      is.1 ∙ ap (λ c. Counter c (next_of m c)) one

  arrival_there : m.arrival ≡ n.arrival
  arrival_there = go (meets (all_rows rule m) (all_rows other n) same (Counter Arrival n.arrival) (has_counter other n Arrival))
    where
      go : AreMet (all_rows rule m) (all_rows other n) (table.Counters, counter_text Arrival) → m.arrival ≡ n.arrival
      go met =
          let mine : met.mine ≡ Counter Arrival m.arrival = counted rule m t met.mine met.in_mine met.at_mine in
          let yours : met.yours ≡ Counter Arrival n.arrival = counted other n u met.yours met.in_yours met.at_yours in
          let value : row_data met.mine ≡ row_data met.yours = one_text (row_data met.mine) (row_data met.yours) (narrow met.mine met.in_mine) (others met.yours met.in_yours) met.text in
          counter_value Arrival Arrival m.arrival n.arrival (sym (ap row_data mine) ∙ (value ∙ ap row_data yours))

  pub keyed_too : AreKeyed n
  keyed_too = record { names = name_there; small = subst (λ a. a ≤ 2 ^ 64) arrival_there k.small }
