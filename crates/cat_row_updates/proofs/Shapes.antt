-- What the rows of a state are, in either version, and what they give to the tables of a state.
use Rattle.std.proofs.Common.{◌≡◌, ◌⊎◌, inl, inr, ℕ, Bool, true, false, List, [], ◌∷◌, ◌++◌, map, refl, sym, ap, subst, ◌∙◌, unwrap_or}
use Rattle.std.specs.Prelude.{if◌then◌else◌}
use Rattle.std.specs.declared.option.Option.{Option}
use Rattle.std.specs.declared.option.Option.TheVariants.{None, Some}
use Rattle.std.specs.Cmp.{nat_cmp_total}
use Rattle.std.specs.FinMap.{nat_cmp-IsAntisymmetric}
use Rattle.std.specs.List.{flat_map}
use Rattle.std.specs.Option.{option_map}
use Rattle.cat_tree.specs.Data.{Data}
use Rattle.cat_collections.specs.Table.{Text, get}
use Rattle.cat_collections.proofs.Tables.{text_antisymmetric, text_total}
use Rattle.cat_types.specs.declared.issue.Issue.{Issue}
use Rattle.cat_model.specs.Catalogue.{Ref, row_at}
use Rattle.cat_model.specs.declared.types.Origin.{Origin}
use Rattle.cat_model.specs.declared.types.Origin.TheVariants.{Provider as OfProvider, Entity}
use Rattle.cat_model.specs.declared.types.Orphan.{Orphan}
use Rattle.cat_model.specs.declared.types.OrphanRule.{OrphanRule}
use Rattle.cat_model.specs.declared.types.ProviderInputs.{ProviderInputs}
use Rattle.cat_model.specs.declared.types.Record.{Record as Recorded}
use Rattle.cat_model.specs.declared.types.Row.{Row}
use Rattle.cat_model.specs.declared.types.State.{State}
use Rattle.cat_row_format.specs.Formed.{is_any}
use Rattle.cat_row_format.specs.Parsed.{item_row}
use Rattle.cat_row_format.specs.declared.row.StoredCounter.{StoredCounter}
use Rattle.cat_row_format.specs.declared.row.StoredOutput.{StoredOutput}
use Rattle.cat_row_format.specs.declared.row.StoredRow.{StoredRow}
use Rattle.cat_row_format.specs.declared.row.StoredRow.TheVariants.{Counter, Provider, Item, Shelf, Record, RecordOne, Orphan as OrphanRow, Settings, Tree, ItemOne}
use Rattle.cat_stored_rows.specs.Stored.{emitted, given_in, item_with, kept_in, orphan_row, output_in, provider_row, record_as, record_in, rule_of, shelf_row, tree_beside, tree_rows}
use Rattle.cat_stored_rows.specs.Told.{IsTold}
use Rattle.cat_stored_rows.specs.declared.version.Version.{Version}
use Rattle.cat_stored_rows.specs.declared.version.Version.TheVariants.{One, Two}
use Rattle.cat_stored_rows.proofs.In.{In, found_in, from_flat, from_map, in_either}
use Rattle.cat_row_updates.proofs.Views.{by_parts, next_of}

-- ---- records and items have one form for all that is made of them

module _ {A : Type 0} (f : StoredRow → A) where
  -- what is made of a record, by what it gave last
  pub at_record : (g : Option StoredOutput → A) (version : Version) (r : Text) (h : ℕ) (issues : List Issue) (n : ℕ) (v : Option StoredOutput)
      → ((w : Option StoredOutput) → f (Record r h issues n w) ≡ g w) → ((output : StoredOutput) → f (RecordOne r h issues n output) ≡ g (Some output)) → f (record_as version r h issues n v) ≡ g v
  at_record g Two r h issues n v two one = two v
  at_record g One r h issues n None two one = two None
  at_record g One r h issues n (Some output) two one = go (is_any output.offers)
    where
      go : (b : Bool) → f (if b then RecordOne r h issues n output else Record r h issues n (Some output)) ≡ g (Some output)
      go true = one output
      go false = two (Some output)

  -- what is made of an item, by the tree beside it
  pub at_item : (g : Option Data → A) (p r : Text) (a : ℕ) (key : Text) (beside : Option Data)
      → f (Item p r a key) ≡ g None → ((tree : Data) → f (ItemOne p r a key tree) ≡ g (Some tree)) → f (item_row p r a key beside) ≡ g beside
  at_item g p r a key None two one = two
  at_item g p r a key (Some tree) two one = one tree

-- ---- the rows of a state

module _ (version : Version) (m : State) where
  -- the row of a record
  abbrev pub row_of : Ref → Recorded → StoredRow
  row_of r x = record_in version m.holders (emitted m.rows) (r, x)

  -- the row of an item
  abbrev pub item_of : ℕ → Row → Text → StoredRow
  item_of a row p = item_row p row.reference a row.offered.key (tree_beside version row.offered.tree)

module _ (version : Version) (rule : OrphanRule) (m : State) where
  -- what a row is made of
  pub data Shape (b : StoredRow) : Type 0 where
    Counting : (c : StoredCounter) → b ≡ Counter c (next_of m c) → Shape b
    Ruling : b ≡ Settings (rule_of rule) → Shape b
    Serving : (p : Text) (x : ProviderInputs) → get m.providers p ≡ Some x → b ≡ Provider p x.serial → Shape b
    Giving : (a : ℕ) (row : Row) (p : Text) → row_at m.rows a ≡ Some row → row.origin ≡ OfProvider p → b ≡ item_of version m a row p → Shape b
    Growing : (a : ℕ) (row : Row) → row_at m.rows a ≡ Some row → b ≡ Tree a row.offered.tree → Shape b
    Shelving : (name body : Text) → get m.shelf name ≡ Some body → b ≡ Shelf name body → Shape b
    Keeping : (r : Ref) (x : Recorded) → get m.records r ≡ Some x → b ≡ row_of version m r x → Shape b
    Leaving : (r : Ref) (x : Orphan) → get m.orphans r ≡ Some x → b ≡ OrphanRow r x.entity x.number → Shape b

  module _ (t : IsTold m) where
    of_provider : (b : StoredRow) → In b (map provider_row m.providers) → Shape b
    of_provider b h =
        let f = from_map provider_row b m.providers h in
        Serving f.0.0 f.0.1 (found_in text_total text_antisymmetric m.providers t.providers_in_order f.0.0 f.0.1 f.1) f.2

    item_shape : (b : StoredRow) (a : ℕ) (row : Row) (o : Origin) → row.origin ≡ o → row_at m.rows a ≡ Some row
        → In b (item_with a row.reference row.offered.key (tree_beside version row.offered.tree) o) → Shape b
    item_shape b a row (OfProvider p) e f (inl is) = Giving a row p f e is
    item_shape b a row (OfProvider p) e f (inr h) = absurd h
    item_shape b a row (Entity r) e f h = absurd h

    tree_shape : (b : StoredRow) (a : ℕ) (row : Row) (v : Version) → row_at m.rows a ≡ Some row → In b (tree_rows v a row.offered.tree) → Shape b
    tree_shape b a row One f h = absurd h
    tree_shape b a row Two f (inl is) = Growing a row f is
    tree_shape b a row Two f (inr h) = absurd h

    of_given : (b : StoredRow) → In b (flat_map (given_in version) m.rows) → Shape b
    of_given b h =
        let f = from_flat (given_in version) b m.rows h in
        let at = found_in nat_cmp_total nat_cmp-IsAntisymmetric m.rows t.rows_in_order f.0.0 f.0.1 f.1 in
        go f.0.0 f.0.1 at (in_either b (item_with f.0.0 f.0.1.reference f.0.1.offered.key (tree_beside version f.0.1.offered.tree) f.0.1.origin) (tree_rows version f.0.0 f.0.1.offered.tree) f.2)
      where
        go : (a : ℕ) (row : Row) → row_at m.rows a ≡ Some row
            → In b (item_with a row.reference row.offered.key (tree_beside version row.offered.tree) row.origin) ⊎ In b (tree_rows version a row.offered.tree) → Shape b
        go a row at (inl g) = item_shape b a row row.origin refl at g
        go a row at (inr g) = tree_shape b a row version at g

    of_text : (b : StoredRow) → In b (map shelf_row m.shelf) → Shape b
    of_text b h =
        let f = from_map shelf_row b m.shelf h in
        Shelving f.0.0 f.0.1 (found_in text_total text_antisymmetric m.shelf t.shelf_in_order f.0.0 f.0.1 f.1) f.2

    of_record : (b : StoredRow) → In b (map (record_in version m.holders (emitted m.rows)) m.records) → Shape b
    of_record b h =
        let f = from_map (record_in version m.holders (emitted m.rows)) b m.records h in
        Keeping f.0.0 f.0.1 (found_in text_total text_antisymmetric m.records t.records_in_order f.0.0 f.0.1 f.1) f.2

    of_orphan : (b : StoredRow) → In b (map orphan_row m.orphans) → Shape b
    of_orphan b h =
        let f = from_map orphan_row b m.orphans h in
        Leaving f.0.0 f.0.1 (found_in text_total text_antisymmetric m.orphans t.orphans_in_order f.0.0 f.0.1 f.1) f.2

    pub kept_shape : (b : StoredRow) → In b (kept_in version m) → Shape b
    kept_shape b h = by_parts version m Shape of_provider of_given of_text of_record of_orphan b h

  -- ---- what rows give to a table

  -- what a function that gives entries gives of each row that is made of the state's parts
  pub record Gives {E : Type 0} (f : StoredRow → List E) (Q : E → Type 0) : Type 0 where
    pub counters : (c : StoredCounter) (e : E) → In e (f (Counter c (next_of m c))) → Q e
    pub settings : (e : E) → In e (f (Settings (rule_of rule))) → Q e
    pub providers : (p : Text) (x : ProviderInputs) → get m.providers p ≡ Some x → (e : E) → In e (f (Provider p x.serial)) → Q e
    pub items : (a : ℕ) (row : Row) (p : Text) → row_at m.rows a ≡ Some row → row.origin ≡ OfProvider p → (e : E) → In e (f (item_of version m a row p)) → Q e
    pub trees : (a : ℕ) (row : Row) → row_at m.rows a ≡ Some row → (e : E) → In e (f (Tree a row.offered.tree)) → Q e
    pub shelf : (name body : Text) → get m.shelf name ≡ Some body → (e : E) → In e (f (Shelf name body)) → Q e
    pub records : (r : Ref) (x : Recorded) → get m.records r ≡ Some x → (e : E) → In e (f (row_of version m r x)) → Q e
    pub orphans : (r : Ref) (x : Orphan) → get m.orphans r ≡ Some x → (e : E) → In e (f (OrphanRow r x.entity x.number)) → Q e

  module _ {E : Type 0} (f : StoredRow → List E) (Q : E → Type 0) (g : Gives f Q) where
    by_shape : (b : StoredRow) (e : E) → Shape b → In e (f b) → Q e
    by_shape b e (Counting c is) h = g.counters c e (subst (λ b. In e (f b)) is h)
    by_shape b e (Ruling is) h = g.settings e (subst (λ b. In e (f b)) is h)
    by_shape b e (Serving p x at is) h = g.providers p x at e (subst (λ b. In e (f b)) is h)
    by_shape b e (Giving a row p at o is) h = g.items a row p at o e (subst (λ b. In e (f b)) is h)
    by_shape b e (Growing a row at is) h = g.trees a row at e (subst (λ b. In e (f b)) is h)
    by_shape b e (Shelving name body at is) h = g.shelf name body at e (subst (λ b. In e (f b)) is h)
    by_shape b e (Keeping r x at is) h = g.records r x at e (subst (λ b. In e (f b)) is h)
    by_shape b e (Leaving r x at is) h = g.orphans r x at e (subst (λ b. In e (f b)) is h)

    -- so of rows that are made of them
    pub given_by_rows : (xs : List StoredRow) → ((b : StoredRow) → In b xs → Shape b) → (e : E) → In e (flat_map f xs) → Q e
    given_by_rows xs shapes e h = let from = from_flat f e xs h in by_shape from.0 e (shapes from.0 from.1) from.2
