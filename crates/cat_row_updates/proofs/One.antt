-- What a state says of each of its rows in the first version.
use Rattle.std.proofs.Common.{◌≡◌, ◌≤◌, ◌^◌, ◌⊎◌, inl, inr, ℕ, Bool, true, false, List, [], map, refl, sym, ap, subst, ◌∙◌, unwrap_or}
use Rattle.std.specs.Prelude.{IsTrue, if◌then◌else◌}
use Rattle.std.specs.declared.option.Option.{Option}
use Rattle.std.specs.declared.option.Option.TheVariants.{None, Some}
use Rattle.std.specs.Cmp.{nat_cmp_total}
use Rattle.std.specs.FinMap.{nat_cmp-IsAntisymmetric}
use Rattle.std.specs.List.{flat_map}
use Rattle.std.specs.Option.{option_map}
use Rattle.cat_types.specs.Names.{is_name}
use Rattle.cat_tree.specs.Data.{Data}
use Rattle.cat_tree.specs.Proper.{IsNarrow}
use Rattle.cat_collections.specs.Table.{Text, get}
use Rattle.cat_collections.proofs.Tables.{text_antisymmetric, text_total}
use Rattle.cat_types.specs.declared.issue.Issue.{Issue}
use Rattle.cat_model.specs.Catalogue.{Ref, row_at}
use Rattle.cat_model.specs.declared.types.Origin.{Origin}
use Rattle.cat_model.specs.declared.types.Origin.TheVariants.{Provider as OfProvider, Entity}
use Rattle.cat_model.specs.declared.types.Orphan.{Orphan}
use Rattle.cat_model.specs.declared.types.OrphanRule.TheVariants.{Keep}
use Rattle.cat_model.specs.declared.types.ProviderInputs.{ProviderInputs}
use Rattle.cat_model.specs.declared.types.Record.{Record as Recorded}
use Rattle.cat_model.specs.declared.types.Row.{Row}
use Rattle.cat_model.specs.declared.types.State.{State}
use Rattle.cat_keeper.specs.Store.{RowKey}
use Rattle.cat_keeper.specs.declared.table.Table.{Table}
use Rattle.cat_keeper.specs.declared.table.Table.TheVariants as table
use Rattle.cat_row_format.specs.Formed.{is_any}
use Rattle.cat_row_format.specs.Names.{counter_text}
use Rattle.cat_row_format.specs.Text.{record_data, row_data, row_key, row_table}
use Rattle.cat_row_format.specs.declared.row.StoredCounter.{StoredCounter}
use Rattle.cat_row_format.specs.declared.row.StoredCounter.TheVariants.{Arrival, Number}
use Rattle.cat_row_format.specs.declared.row.StoredOutput.{StoredOutput}
use Rattle.cat_row_format.specs.declared.row.StoredRow.{StoredRow}
use Rattle.cat_row_format.specs.declared.row.StoredRow.TheVariants.{Counter, Provider, Shelf, Record, Orphan as OrphanRow, ItemOne, RecordOne}
use Rattle.cat_stored_rows.specs.First.{all_first}
use Rattle.cat_stored_rows.specs.Stored.{counter_rows, emitted, given_in, item_with, kept_in, orphan_row, output_in, provider_row, put_rows, record_in, record_one, shelf_row, text_in, texts_of}
use Rattle.cat_stored_rows.specs.declared.version.Version.TheVariants.{One}
use Rattle.cat_stored_rows.specs.Told.{IsTold}
use Rattle.cat_stored_rows.proofs.In.{In, found_in, from_flat, from_map, in_either, in_left, in_right, same_some}
use Rattle.cat_row_updates.proofs.Rows.{AreApart, AreMet, meets, place}
use Rattle.cat_row_updates.proofs.Texts.{one_text}
use Rattle.cat_row_updates.proofs.Values.{counter_value, item_one_value, one_counter, one_item, record_value}
use Rattle.cat_row_updates.proofs.Views.{AreKeyed, Is, by_parts, kept_given, kept_orphan, kept_provider, kept_record, kept_text, named, next_of, one_at, one_value}

-- a row of each table is made of what stands in the state
abbrev pub IsOne : State → Table → StoredRow → Type 0
IsOne m table.Counters b = Is Keep m table.Counters b
IsOne m table.Providers b = Is Keep m table.Providers b
IsOne m table.Items b = (a : ℕ) × (row : Row) × (p : Text) × (row_at m.rows a ≡ Some row) × (row.origin ≡ OfProvider p) × (b ≡ ItemOne p row.reference a row.offered.key row.offered.tree)
IsOne m table.Shelf b = Is Keep m table.Shelf b
IsOne m table.Records b = (r : Ref) × (x : Recorded) × (get m.records r ≡ Some x) × (b ≡ record_in One m.holders (emitted m.rows) (r, x))
IsOne m table.Orphans b = Is Keep m table.Orphans b
IsOne m table.Settings b = ⊥
IsOne m table.Trees b = ⊥

-- ---- a record has its place and its value whatever form its row has

module _ (r : Ref) (holder : ℕ) (issues : List Issue) (n : ℕ) where
  one_place : (v : Option StoredOutput) → place (record_one r holder issues n v) ≡ (table.Records, r)
  one_place None = refl
  one_place (Some output) = go (is_any output.offers)
    where
      go : (b : Bool) → place (if b then RecordOne r holder issues n output else Record r holder issues n (Some output)) ≡ (table.Records, r)
      go true = refl
      go false = refl

  one_data : (v : Option StoredOutput) → row_data (record_one r holder issues n v) ≡ record_data holder issues n v
  one_data None = refl
  one_data (Some output) = go (is_any output.offers)
    where
      go : (b : Bool) → row_data (if b then RecordOne r holder issues n output else Record r holder issues n (Some output)) ≡ record_data holder issues n (Some output)
      go true = refl
      go false = refl

module _ (m : State) where
  pub record_place : (r : Ref) (x : Recorded) → place (record_in One m.holders (emitted m.rows) (r, x)) ≡ (table.Records, r)
  record_place r x = one_place r (unwrap_or (get m.holders r) 0) x.issues x.number (option_map (output_in One (emitted m.rows) r) x.output)

  pub data_of : (r : Ref) (x : Recorded) → row_data (record_in One m.holders (emitted m.rows) (r, x))
      ≡ record_data (unwrap_or (get m.holders r) 0) x.issues x.number (option_map (output_in One (emitted m.rows) r) x.output)
  data_of r x = one_data r (unwrap_or (get m.holders r) 0) x.issues x.number (option_map (output_in One (emitted m.rows) r) x.output)

  -- ---- what stands in the state has its row

  pub first_counter : (c : StoredCounter) → In (Counter c (next_of m c)) (all_first m)
  first_counter Arrival = inl refl
  first_counter Number = inr (inl refl)

  later : (b : StoredRow) → In b (kept_in One m) → In b (all_first m)
  later b h = in_right b (counter_rows m) (kept_in One m) h

  pub first_provider : (p : Text) (x : ProviderInputs) → get m.providers p ≡ Some x → In (Provider p x.serial) (all_first m)
  first_provider p x f = later _ (kept_provider One m p x f)

  item_in : (a : ℕ) (r key : Text) (tree : Data) (o : Origin) (p : Text) → o ≡ OfProvider p → In (ItemOne p r a key tree) (item_with a r key (Some tree) o)
  item_in a r key tree o p e = subst (λ o. In (ItemOne p r a key tree) (item_with a r key (Some tree) o)) (sym e) (inl refl)

  pub first_item : (a : ℕ) (row : Row) (p : Text) → row_at m.rows a ≡ Some row → row.origin ≡ OfProvider p → In (ItemOne p row.reference a row.offered.key row.offered.tree) (all_first m)
  first_item a row p f e =
      later _ (kept_given One m a row _ f (in_left _ (item_with a row.reference row.offered.key (Some row.offered.tree) row.origin) [] (item_in a row.reference row.offered.key row.offered.tree row.origin p e)))

  pub first_text : (name body : Text) → get m.shelf name ≡ Some body → In (Shelf name body) (all_first m)
  first_text name body f = later _ (kept_text One m name body f)

  pub first_record : (r : Ref) (x : Recorded) → get m.records r ≡ Some x → In (record_in One m.holders (emitted m.rows) (r, x)) (all_first m)
  first_record r x f = later _ (kept_record One m r x f)

  pub first_orphan : (r : Ref) (x : Orphan) → get m.orphans r ≡ Some x → In (OrphanRow r x.entity x.number) (all_first m)
  first_orphan r x f = later _ (kept_orphan One m r x f)

  -- ---- each row is that of something that stands in the state

  module _ (t : IsTold m) where
    -- a row of a table, by what it is
    seen : (b c : StoredRow) → b ≡ c → IsOne m (row_table c) b → IsOne m (row_table b) b
    seen b c e h = subst (λ k. IsOne m k b) (sym (ap row_table e)) h

    is_counter : (b : StoredRow) → In b (counter_rows m) → IsOne m (row_table b) b
    is_counter b (inl e) = seen b (Counter Arrival m.arrival) e (Arrival, e)
    is_counter b (inr (inl e)) = seen b (Counter Number m.number) e (Number, e)
    is_counter b (inr (inr h)) = absurd h

    is_provider : (b : StoredRow) → In b (map provider_row m.providers) → IsOne m (row_table b) b
    is_provider b h =
        let f = from_map provider_row b m.providers h in
        seen b (provider_row f.0) f.2 (f.0.0, f.0.1, found_in text_total text_antisymmetric m.providers t.providers_in_order f.0.0 f.0.1 f.1, f.2)

    is_item : (b : StoredRow) (a : ℕ) (row : Row) (o : Origin) → row.origin ≡ o → row_at m.rows a ≡ Some row → In b (item_with a row.reference row.offered.key (Some row.offered.tree) o) → IsOne m (row_table b) b
    is_item b a row (OfProvider p) e f (inl is) = seen b (ItemOne p row.reference a row.offered.key row.offered.tree) is (a, row, p, f, e, is)
    is_item b a row (OfProvider p) e f (inr h) = absurd h
    is_item b a row (Entity r) e f h = absurd h

    is_given : (b : StoredRow) → In b (flat_map (given_in One) m.rows) → IsOne m (row_table b) b
    is_given b h =
        let f = from_flat (given_in One) b m.rows h in
        go f.0.0 f.0.1 (found_in nat_cmp_total nat_cmp-IsAntisymmetric m.rows t.rows_in_order f.0.0 f.0.1 f.1)
        (in_either b (item_with f.0.0 f.0.1.reference f.0.1.offered.key (Some f.0.1.offered.tree) f.0.1.origin) [] f.2)
      where
        go : (a : ℕ) (row : Row) → row_at m.rows a ≡ Some row → In b (item_with a row.reference row.offered.key (Some row.offered.tree) row.origin) ⊎ In b [] → IsOne m (row_table b) b
        go a row f (inl g) = is_item b a row row.origin refl f g
        go a row f (inr g) = absurd g

    is_text : (b : StoredRow) → In b (map shelf_row m.shelf) → IsOne m (row_table b) b
    is_text b h =
        let f = from_map shelf_row b m.shelf h in
        seen b (shelf_row f.0) f.2 (f.0.0, f.0.1, found_in text_total text_antisymmetric m.shelf t.shelf_in_order f.0.0 f.0.1 f.1, f.2)

    is_record : (b : StoredRow) → In b (map (record_in One m.holders (emitted m.rows)) m.records) → IsOne m (row_table b) b
    is_record b h =
        let f = from_map (record_in One m.holders (emitted m.rows)) b m.records h in
        let one : IsOne m table.Records b = (f.0.0, f.0.1, found_in text_total text_antisymmetric m.records t.records_in_order f.0.0 f.0.1 f.1, f.2) in
        subst (λ k. IsOne m k b) (sym (ap row_table f.2 ∙ ap (λ q. q.0) (record_place f.0.0 f.0.1))) one

    is_orphan : (b : StoredRow) → In b (map orphan_row m.orphans) → IsOne m (row_table b) b
    is_orphan b h =
        let f = from_map orphan_row b m.orphans h in
        seen b (orphan_row f.0) f.2 (f.0.0, f.0.1, found_in text_total text_antisymmetric m.orphans t.orphans_in_order f.0.0 f.0.1 f.1, f.2)

    pub what_first : (b : StoredRow) → In b (all_first m) → IsOne m (row_table b) b
    what_first b h = go (in_either b (counter_rows m) (kept_in One m) h)
      where
        go : In b (counter_rows m) ⊎ In b (kept_in One m) → IsOne m (row_table b) b
        go (inl g) = is_counter b g
        go (inr g) = by_parts One m (λ c. IsOne m (row_table c) c) is_provider is_given is_text is_record is_orphan b g

    module _ (k : AreKeyed m) where
      -- ---- no two rows stand at one place

      first_at : (s : Table) (b c : StoredRow) → IsOne m s b → IsOne m s c → row_key b ≡ row_key c → b ≡ c
      first_at table.Counters b c h i e = one_at Keep m t k table.Counters b c h i e
      first_at table.Providers b c h i e = one_at Keep m t k table.Providers b c h i e
      first_at table.Items b c h i e =
          let key = one_item h.2 i.2 h.1.reference i.1.reference (named Keep m t k h.0 h.1 h.2 h.3 h.4) (named Keep m t k i.0 i.1 i.2 i.3 i.4) (sym (ap row_key h.5) ∙ (e ∙ ap row_key i.5)) in
          let same : h.0 ≡ i.0 = t.offers.once h.0 i.0 h.1 i.1 h.3 i.3 (h.4 ∙ (ap OfProvider key.0 ∙ sym i.4)) key.1 in
          let row : h.1 ≡ i.1 = same_some (sym h.3 ∙ (ap (row_at m.rows) same ∙ i.3)) in
          h.5 ∙ ((λ j. ItemOne (key.0 j) (key.1 j) (same j) (row j).offered.key (row j).offered.tree) ∙ sym i.5)
      first_at table.Shelf b c h i e = one_at Keep m t k table.Shelf b c h i e
      first_at table.Records b c h i e =
          let key : h.0 ≡ i.0 = sym (ap row_key h.3 ∙ ap (λ q. q.1) (record_place h.0 h.1)) ∙ (e ∙ (ap row_key i.3 ∙ ap (λ q. q.1) (record_place i.0 i.1))) in
          let same : h.1 ≡ i.1 = same_some (sym h.2 ∙ (ap (get m.records) key ∙ i.2)) in
          h.3 ∙ ((λ j. record_in One m.holders (emitted m.rows) (key j, same j)) ∙ sym i.3)
      first_at table.Orphans b c h i e = one_at Keep m t k table.Orphans b c h i e
      first_at table.Settings b c h i e = absurd h
      first_at table.Trees b c h i e = absurd h

      pub first_apart : AreApart (all_first m)
      first_apart b c g h at =
          let same_table : IsOne m (row_table c) b = subst (λ s. IsOne m s b) (ap (λ p. p.0) at) (what_first b g) in
          first_at (row_table c) b c same_table (what_first c h) (ap (λ p. p.1) at)

-- ---- a row of one state is that of another at its place, where their values are one

module _ (m n : State) (t : IsTold m) (u : IsTold n) (k : AreKeyed m) (l : AreKeyed n) where
  first_value : (s : Table) (b c : StoredRow) → IsOne m s b → IsOne n s c → row_key b ≡ row_key c → row_data b ≡ row_data c → b ≡ c
  first_value table.Counters b c h i e d = one_value Keep Keep m n t u k l table.Counters b c h i e d
  first_value table.Providers b c h i e d = one_value Keep Keep m n t u k l table.Providers b c h i e d
  first_value table.Items b c h i e d =
      let key = one_item h.2 i.2 h.1.reference i.1.reference (named Keep m t k h.0 h.1 h.2 h.3 h.4) (named Keep n u l i.0 i.1 i.2 i.3 i.4) (sym (ap row_key h.5) ∙ (e ∙ ap row_key i.5)) in
      let value = item_one_value h.2 i.2 h.1.reference i.1.reference h.0 i.0 h.1.offered.key i.1.offered.key h.1.offered.tree i.1.offered.tree (sym (ap row_data h.5) ∙ (d ∙ ap row_data i.5)) in
      h.5 ∙ ((λ j. ItemOne (key.0 j) (key.1 j) (value.0 j) (value.1 j) (value.2 j)) ∙ sym i.5)
  first_value table.Shelf b c h i e d = one_value Keep Keep m n t u k l table.Shelf b c h i e d
  first_value table.Records b c h i e d =
      let key : h.0 ≡ i.0 = sym (ap row_key h.3 ∙ ap (λ q. q.1) (record_place m h.0 h.1)) ∙ (e ∙ (ap row_key i.3 ∙ ap (λ q. q.1) (record_place n i.0 i.1))) in
      let value = record_value (emitted m.rows) (emitted n.rows) h.0 i.0 One (unwrap_or (get m.holders h.0) 0) (unwrap_or (get n.holders i.0) 0) h.1.issues i.1.issues h.1.number i.1.number
      h.1.output i.1.output (sym (ap row_data h.3 ∙ data_of m h.0 h.1) ∙ (d ∙ (ap row_data i.3 ∙ data_of n i.0 i.1))) in
      h.3 ∙ ((λ j. record_one (key j) (value.0 j) (value.1 j) (value.2 j) (value.3 j)) ∙ sym i.3)
  first_value table.Orphans b c h i e d = one_value Keep Keep m n t u k l table.Orphans b c h i e d
  first_value table.Settings b c h i e d = absurd h
  first_value table.Trees b c h i e d = absurd h

  pub one_first : (b c : StoredRow) → In b (all_first m) → In c (all_first n) → IsNarrow (row_data b) → IsNarrow (row_data c) → place b ≡ place c → text_in b ≡ text_in c → b ≡ c
  one_first b c g h p q at text =
      let same_table : IsOne m (row_table c) b = subst (λ s. IsOne m s b) (ap (λ p. p.0) at) (what_first m t b g) in
      first_value (row_table c) b c same_table (what_first n u c h) (ap (λ p. p.1) at) (one_text (row_data b) (row_data c) p q text)

-- ---- names and arrival numbers of a state are those of another whose rows have its texts

module _ (m n : State) (t : IsTold m) (u : IsTold n) (k : AreKeyed m)
    (narrow : (b : StoredRow) → In b (all_first m) → IsNarrow (row_data b)) (others : (b : StoredRow) → In b (all_first n) → IsNarrow (row_data b))
    (same : texts_of (put_rows (all_first m) []) ≡ texts_of (put_rows (all_first n) [])) where
  -- a row at a place is one of its table
  at_table : (m : State) → IsTold m → (b : StoredRow) → In b (all_first m) → (at : RowKey) → place b ≡ at → IsOne m at.0 b
  at_table m t b h at e = subst (λ s. IsOne m s b) (ap (λ q. q.0) e) (what_first m t b h)

  name_there : (p : Text) (x : ProviderInputs) → get n.providers p ≡ Some x → IsTrue (is_name p)
  name_there p x f = go (meets (all_first m) (all_first n) same (Provider p x.serial) (first_provider n p x f))
    where
      go : AreMet (all_first m) (all_first n) (table.Providers, p) → IsTrue (is_name p)
      go met =
          let is : Is Keep m table.Providers met.mine = at_table m t met.mine met.in_mine (table.Providers, p) met.at_mine in
          let key : is.0 ≡ p = sym (ap row_key is.3) ∙ ap (λ q. q.1) met.at_mine in
          subst (λ q. IsTrue (is_name q)) key (k.names is.0 is.1 is.2)

  -- the row of the counter of arrivals
  counted : (m : State) → IsTold m → (b : StoredRow) → In b (all_first m) → place b ≡ (table.Counters, counter_text Arrival) → b ≡ Counter Arrival m.arrival
  counted m t b h at =
      let is : Is Keep m table.Counters b = at_table m t b h (table.Counters, counter_text Arrival) at in
      let one : is.0 ≡ Arrival = one_counter is.0 Arrival (sym (ap row_key is.1) ∙ ap (λ q. q.1) at) in
      is.1 ∙ ap (λ c. Counter c (next_of m c)) one

  arrival_there : m.arrival ≡ n.arrival
  arrival_there = go (meets (all_first m) (all_first n) same (Counter Arrival n.arrival) (first_counter n Arrival))
    where
      go : AreMet (all_first m) (all_first n) (table.Counters, counter_text Arrival) → m.arrival ≡ n.arrival
      go met =
          let mine : met.mine ≡ Counter Arrival m.arrival = counted m t met.mine met.in_mine met.at_mine in
          let yours : met.yours ≡ Counter Arrival n.arrival = counted n u met.yours met.in_yours met.at_yours in
          let value : row_data met.mine ≡ row_data met.yours = one_text (row_data met.mine) (row_data met.yours) (narrow met.mine met.in_mine) (others met.yours met.in_yours) met.text in
          counter_value Arrival Arrival m.arrival n.arrival (sym (ap row_data mine) ∙ (value ∙ ap row_data yours))

  pub keyed_first : AreKeyed n
  keyed_first = record { names = name_there; small = subst (λ a. a ≤ 2 ^ 64) arrival_there k.small }
