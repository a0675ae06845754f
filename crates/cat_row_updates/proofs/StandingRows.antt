-- What the rows of a state stand for is the state as it is stored.
use Rattle.std.proofs.Common.{T, ◌≡◌, ◌⊎◌, inl, inr, ℕ, ◌≤◌, ◌^◌, ◌<◌, Bool, true, false, ◌&&◌, nat_le, cond, List, [], ◌∷◌, ◌++◌, map, refl, sym, ap, subst, ◌∙◌, is_some, unwrap_or, true≢false, arith}
use Rattle.std.specs.Prelude.{if◌then◌else◌}
use Rattle.std.specs.declared.option.Option.{Option}
use Rattle.std.specs.declared.option.Option.TheVariants.{None, Some}
use Rattle.std.specs.Cmp.{nat_cmp_total}
use Rattle.std.specs.FinMap.{nat_cmp-IsAntisymmetric}
use Rattle.std.specs.FinMap.Entries.{is_sorted}
use Rattle.std.specs.List.{flat_map}
use Rattle.std.specs.Option.{option_and_then, option_map}
use Rattle.std.specs.Ordering.{nat_cmp}
use Rattle.cat_tree.specs.Data.{Data}
use Rattle.cat_collections.specs.Table.{Map, Text, find, get, keys, over, puts, text_cmp}
use Rattle.cat_collections.proofs.Tables.{find-over, is_sorted-tabulate, some_or_none, text_antisymmetric, text_total}
use Rattle.cat_types.specs.declared.input.Offered.{Offered}
use Rattle.cat_types.specs.declared.issue.Issue.{Issue}
use Rattle.cat_types.specs.declared.work.Output.{Output}
use Rattle.cat_model.specs.Catalogue.{Ref, Rows, due_now, row_at}
use Rattle.cat_model.specs.Sound.{HasRow, offered}
use Rattle.cat_model.specs.declared.types.Origin.{Origin}
use Rattle.cat_model.specs.declared.types.Origin.TheVariants.{Provider as OfProvider, Entity}
use Rattle.cat_model.specs.declared.types.Orphan.{Orphan}
use Rattle.cat_model.specs.declared.types.OrphanRule.{OrphanRule}
use Rattle.cat_model.specs.declared.types.ProviderInputs.{ProviderInputs}
use Rattle.cat_model.specs.declared.types.Record.{Record as Recorded}
use Rattle.cat_model.specs.declared.types.Row.{Row}
use Rattle.cat_model.specs.declared.types.State.{State}
use Rattle.cat_row_format.specs.declared.row.StoredOffer.{StoredOffer}
use Rattle.cat_row_format.specs.declared.row.StoredOutput.{StoredOutput}
use Rattle.cat_row_format.specs.declared.row.StoredRow.{StoredRow}
use Rattle.cat_row_format.specs.declared.row.StoredRow.TheVariants.{Counter, Provider, Item, Shelf, Record, RecordOne, Orphan as OrphanRow, Settings, Tree, ItemOne}
use Rattle.cat_stored_rows.specs.Stored.{emitted, given_in, item_with, kept_in, offer_in, output_in, pairs_cmp, tree_beside, tree_rows}
use Rattle.cat_stored_rows.specs.Told.{IsTold}
use Rattle.cat_stored_rows.specs.declared.version.Version.{Version}
use Rattle.cat_stored_rows.specs.declared.version.Version.TheVariants.{One, Two}
use Rattle.cat_stored_rows.proofs.In.{In, found_puts, from_flat, from_map, in_flat, in_found, in_left, in_map, in_right, none_some, same_some}
use Rattle.cat_row_reader.specs.Standing as standing
use Rattle.cat_row_updates.specs.Told.{IsPlaced}
use Rattle.cat_row_updates.proofs.Making.{Item as Entry, items_make, own, puts_make, rows_make, with_all}
use Rattle.cat_row_updates.proofs.Narrow.{stands}
use Rattle.cat_row_updates.proofs.Offers.{emitted_at}
use Rattle.cat_row_updates.proofs.Opening.{record_at}
use Rattle.cat_row_updates.proofs.Parts.{IsOffered, is_offered, offers_are}
use Rattle.cat_row_updates.proofs.Same.{due_records}
use Rattle.cat_row_updates.proofs.Shapes.{Gives, Shape, at_item, at_record, given_by_rows, item_of, row_of}
use Rattle.cat_row_updates.proofs.Views.{kept_given, kept_orphan, kept_provider, kept_record, kept_text}

none_in : {A : Type 0} (x : A) (xs : List A) → xs ≡ [] → In x xs → ⊥
none_in x xs e h = subst (In x) e h

-- an item of a row, by its provider and its reference
abbrev entry_with : Text → Text → Option Offered → List Entry
entry_with p r None = []
entry_with p r (Some x) = ((p, r), x) ∷ []

abbrev entry_in : standing.Trees → StoredRow → List Entry
entry_in trees (Item p r a key) = entry_with p r (standing.offered_by trees a key None)
entry_in trees (ItemOne p r a key tree) = entry_with p r (standing.offered_by trees a key (Some tree))
entry_in trees row = []

put_entry : (p r : Text) (v : Option Offered) (items : Map (Map Offered)) → standing.with_item p r v items ≡ with_all (entry_with p r v) items
put_entry p r None items = refl
put_entry p r (Some x) items = refl

put_entries : (trees : standing.Trees) (row : StoredRow) (items : Map (Map Offered)) → standing.item_with trees row items ≡ with_all (entry_in trees row) items
put_entries trees (Counter c n) items = refl
put_entries trees (Provider name serial) items = refl
put_entries trees (Item p r a key) items = put_entry p r (standing.offered_by trees a key None) items
put_entries trees (Shelf name body) items = refl
put_entries trees (Record r h issues n v) items = refl
put_entries trees (OrphanRow r entity n) items = refl
put_entries trees (Settings rule) items = refl
put_entries trees (Tree a tree) items = refl
put_entries trees (ItemOne p r a key tree) items = put_entry p r (standing.offered_by trees a key (Some tree)) items
put_entries trees (RecordOne r h issues n output) items = refl

all_parts : (xs ys : List Entry) (items : Map (Map Offered)) → with_all (xs ++ ys) items ≡ with_all ys (with_all xs items)
all_parts [] ys items = refl
all_parts (x ∷ xs) ys items = all_parts xs ys (with_all (x ∷ []) items)

all_entries : (trees : standing.Trees) (rows : List StoredRow) (items : Map (Map Offered)) → standing.told_by (standing.item_with trees) rows items ≡ with_all (flat_map (entry_in trees) rows) items
all_entries trees [] items = refl
all_entries trees (row ∷ rows) items =
    ap (standing.told_by (standing.item_with trees) rows) (put_entries trees row items)
    ∙ (all_entries trees rows (with_all (entry_in trees row) items)
    ∙ sym (all_parts (entry_in trees row) (flat_map (entry_in trees) rows) items))

module _ (version : Version) (rule : OrphanRule) (m : State) (t : IsTold m) (placed : IsPlaced m) (xs : List StoredRow)
    (has : (b : StoredRow) → In b (kept_in version m) → In b xs) (shapes : (b : StoredRow) → In b xs → Shape version rule m b) where
  -- ---- trees

  abbrev trees : standing.Trees
  trees = standing.trees_of xs

  -- what a row has of trees
  tree_gives : Gives version rule m standing.tree_in (λ e. (row : Row) × (row_at m.rows e.0 ≡ Some row) × (e.1 ≡ row.offered.tree))
  tree_gives = record {
    counters = λ c e h. absurd h;
    settings = λ e h. absurd h;
    providers = λ p x at e h. absurd h;
    items = λ a row p at o e h. absurd (none_in e _ (at_item standing.tree_in (λ v. []) p row.reference a row.offered.key (tree_beside version row.offered.tree) refl (λ tree. refl)) h);
    trees = λ a row at e h. tree_one a row at e h;
    shelf = λ name body at e h. absurd h;
    records = λ r x at e h. absurd (none_in e _ (at_record standing.tree_in (λ v. []) version r (unwrap_or (get m.holders r) 0) x.issues x.number (option_map (output_in version (emitted m.rows) r) x.output) (λ v. refl) (λ output. refl)) h);
    orphans = λ r x at e h. absurd h;
  }
    where
      tree_one : (a : ℕ) (row : Row) → row_at m.rows a ≡ Some row → (e : ℕ × Data) → In e ((a, row.offered.tree) ∷ []) → (row : Row) × (row_at m.rows e.0 ≡ Some row) × (e.1 ≡ row.offered.tree)
      tree_one a row at e (inl is) = (row, ap (λ (d : ℕ × Data). row_at m.rows d.0) is ∙ at, ap (λ (d : ℕ × Data). d.1) is)
      tree_one a row at e (inr h) = absurd h

  tree_row : (v : Version) (a : ℕ) (row : Row) → v ≡ Two → In (Tree a row.offered.tree) (tree_rows v a row.offered.tree)
  tree_row v a row e = subst (λ v. In (Tree a row.offered.tree) (tree_rows v a row.offered.tree)) (sym e) (inl refl)

  tree_found : version ≡ Two → (a : ℕ) (row : Row) → row_at m.rows a ≡ Some row → find nat_cmp a trees ≡ Some row.offered.tree
  tree_found e a row at =
      found_puts nat_cmp_total nat_cmp-IsAntisymmetric (flat_map standing.tree_in xs) a row.offered.tree alone
      (in_flat standing.tree_in (Tree a row.offered.tree) (a, row.offered.tree) xs
      (has (Tree a row.offered.tree) (kept_given version m a row (Tree a row.offered.tree) at (in_right _ (item_with a row.reference row.offered.key (tree_beside version row.offered.tree) row.origin) (tree_rows version a row.offered.tree) (tree_row version a row e))))
      (inl refl))
    where
      alone : (y : Data) → In (a, y) (flat_map standing.tree_in xs) → y ≡ row.offered.tree
      alone y h =
          let given = given_by_rows version rule m standing.tree_in (λ e. (row : Row) × (row_at m.rows e.0 ≡ Some row) × (e.1 ≡ row.offered.tree)) tree_gives xs shapes (a, y) h in
          given.2 ∙ ap (λ (x : Row). x.offered.tree) (same_some (sym given.1 ∙ at))

  tree_is : (a : ℕ) (row : Row) → row_at m.rows a ≡ Some row → standing.tree_for trees a (tree_beside version row.offered.tree) ≡ Some row.offered.tree
  tree_is a row at = go version refl
    where
      go : (v : Version) → version ≡ v → standing.tree_for trees a (tree_beside v row.offered.tree) ≡ Some row.offered.tree
      go One e = refl
      go Two e = tree_found e a row at

  -- what the row of an arrival number offers
  offer_is : (a : ℕ) (row : Row) → row_at m.rows a ≡ Some row → standing.offered_by trees a row.offered.key (tree_beside version row.offered.tree) ≡ Some row.offered
  offer_is a row at = ap (standing.offered_with row.offered.key) (tree_is a row at)

  -- an offer of a kept output, with its row
  record IsOut (r : Ref) (q : Ref) (y : Offered) : Type 0 where
    arrival : ℕ
    at : row_at m.rows arrival ≡ Some (record { origin = Entity r; reference = q; offered = y })
    is : unwrap_or (find pairs_cmp (r, q) (emitted m.rows)) 0 ≡ arrival

  is_out : (r q : Ref) (y : Offered) → offered m (Entity r) q ≡ Some y → IsOut r q y
  is_out r q y f =
      let shown : HasRow m.rows (Entity r) q y = t.offers.shown (Entity r) q y f in
      record {
        arrival = shown.arrival;
        at = shown.row;
        is = ap (λ v. unwrap_or v 0) (emitted_at m.rows t.rows_in_order t.offers.once shown.arrival (record { origin = Entity r; reference = q; offered = y }) r shown.row refl);
      }

  -- what a stored offer offers
  out_is : (r q : Ref) (y : Offered) → offered m (Entity r) q ≡ Some y
      → standing.offered_by trees (unwrap_or (find pairs_cmp (r, q) (emitted m.rows)) 0) y.key (tree_beside version y.tree) ≡ Some y
  out_is r q y f =
      let o = is_out r q y f in
      ap (λ a. standing.offered_by trees a y.key (tree_beside version y.tree)) o.is ∙ offer_is o.arrival (record { origin = Entity r; reference = q; offered = y }) o.at

  -- what stands among the offers of a kept output is offered
  among : (r : Ref) (x : Recorded) (output : Output) → get m.records r ≡ Some x → x.output ≡ Some output → (z : Text × Offered) → In z output.offers → offered m (Entity r) z.0 ≡ Some z.1
  among r x output at is z g = offers_are m r z.0 x output at is ∙ stands output.offers (placed.once r x output at is) z g

  -- ---- rows

  abbrev IsFound : ℕ × Row → Type 0
  IsFound e = row_at m.rows e.0 ≡ Some e.1

  found_one : (a : ℕ) (o : Origin) (r : Text) (x : Offered) (v : Option Offered) → v ≡ Some x → row_at m.rows a ≡ Some (record { origin = o; reference = r; offered = x })
      → (e : ℕ × Row) → In e (standing.row_with a o r v) → IsFound e
  found_one a o r x None is at e h = absurd (none_some is)
  found_one a o r x (Some y) is at e (inr h) = absurd h
  found_one a o r x (Some y) is at e (inl h) =
      let same : y ≡ x = same_some is in
      ap (λ (d : ℕ × Row). row_at m.rows d.0) h ∙ (at ∙ (ap (λ z. Some (record { origin = o; reference = r; offered = z })) (sym same) ∙ ap (λ (d : ℕ × Row). Some d.1) (sym h)))

  row_item : (a : ℕ) (row : Row) (p : Text) → row_at m.rows a ≡ Some row → row.origin ≡ OfProvider p → (e : ℕ × Row) → In e (standing.given_by trees (item_of version m a row p)) → IsFound e
  row_item a row p at o e h =
      let made = at_item (standing.given_by trees) (λ v. standing.row_with a (OfProvider p) row.reference (standing.offered_by trees a row.offered.key v)) p row.reference a row.offered.key (tree_beside version row.offered.tree) refl (λ tree. refl) in
      found_one a (OfProvider p) row.reference row.offered _ (offer_is a row at) (at ∙ (λ i. Some (record { origin = o i; reference = row.reference; offered = row.offered }))) e (subst (In e) made h)

  row_outputs : (r : Ref) (x : Recorded) → get m.records r ≡ Some x → (v : Option Output) → x.output ≡ v → (e : ℕ × Row)
      → In e (standing.output_given trees r (option_map (output_in version (emitted m.rows) r) v)) → IsFound e
  row_outputs r x at None is e h = absurd h
  row_outputs r x at (Some output) is e h =
      let f = from_flat (standing.offer_given trees r) e (map (offer_in version (emitted m.rows) r) output.offers) h in
      let g = from_map (offer_in version (emitted m.rows) r) f.0 output.offers f.1 in
      let z : Text × Offered = g.0 in
      let given : offered m (Entity r) z.0 ≡ Some z.1 = among r x output at is z g.1 in
      let o = is_out r z.0 z.1 given in
      found_one (unwrap_or (find pairs_cmp (r, z.0) (emitted m.rows)) 0) (Entity r) z.0 z.1 _ (out_is r z.0 z.1 given) (ap (row_at m.rows) o.is ∙ o.at) e
      (subst (λ s. In e (standing.offer_given trees r s)) g.2 f.2)

  row_record : (r : Ref) (x : Recorded) → get m.records r ≡ Some x → (e : ℕ × Row) → In e (standing.given_by trees (row_of version m r x)) → IsFound e
  row_record r x at e h =
      row_outputs r x at x.output refl e
      (subst (In e) (at_record (standing.given_by trees) (standing.output_given trees r) version r (unwrap_or (get m.holders r) 0) x.issues x.number (option_map (output_in version (emitted m.rows) r) x.output) (λ v. refl) (λ output. refl)) h)

  row_gives : Gives version rule m (standing.given_by trees) IsFound
  row_gives = record {
    counters = λ c e h. absurd h;
    settings = λ e h. absurd h;
    providers = λ p x at e h. absurd h;
    items = row_item;
    trees = λ a row at e h. absurd h;
    shelf = λ name body at e h. absurd h;
    records = row_record;
    orphans = λ r x at e h. absurd h;
  }

  -- an item and a record have their rows among those that are read
  has_item : (a : ℕ) (row : Row) (p : Text) → row_at m.rows a ≡ Some row → row.origin ≡ OfProvider p → In (item_of version m a row p) xs
  has_item a row p at o =
      has (item_of version m a row p)
      (kept_given version m a row (item_of version m a row p) at
      (in_left _ (item_with a row.reference row.offered.key (tree_beside version row.offered.tree) row.origin) (tree_rows version a row.offered.tree)
      (subst (λ o. In (item_of version m a row p) (item_with a row.reference row.offered.key (tree_beside version row.offered.tree) o)) (sym o) (inl refl))))

  has_record : (r : Ref) (x : Recorded) → get m.records r ≡ Some x → In (row_of version m r x) xs
  has_record r x at = has (row_of version m r x) (kept_record version m r x at)

  in_one : (a : ℕ) (o : Origin) (r : Text) (x : Offered) (v : Option Offered) → v ≡ Some x → In (a, record { origin = o; reference = r; offered = x }) (standing.row_with a o r v)
  in_one a o r x v is = subst (λ v. In (a, record { origin = o; reference = r; offered = x }) (standing.row_with a o r v)) (sym is) (inl refl)

  row_in_item : (a : ℕ) (row : Row) (p : Text) → row_at m.rows a ≡ Some row → row.origin ≡ OfProvider p → In (a, row) (flat_map (standing.given_by trees) xs)
  row_in_item a row p at o =
      let made = at_item (standing.given_by trees) (λ v. standing.row_with a (OfProvider p) row.reference (standing.offered_by trees a row.offered.key v)) p row.reference a row.offered.key (tree_beside version row.offered.tree) refl (λ tree. refl) in
      let one = in_one a (OfProvider p) row.reference row.offered _ (offer_is a row at) in
      in_flat (standing.given_by trees) (item_of version m a row p) (a, row) xs (has_item a row p at o)
      (subst (In (a, row)) (sym made) (subst (λ o. In (a, record { origin = o; reference = row.reference; offered = row.offered }) (standing.row_with a (OfProvider p) row.reference (standing.offered_by trees a row.offered.key (tree_beside version row.offered.tree)))) (sym o) one))

  row_in_output : (a : ℕ) (row : Row) (r : Ref) → row_at m.rows a ≡ Some row → row.origin ≡ Entity r → (x : Recorded) (output : Output) → get m.records r ≡ Some x → x.output ≡ Some output
      → get output.offers row.reference ≡ Some row.offered → In (a, row) (flat_map (standing.given_by trees) xs)
  row_in_output a row r at o x output kept is found =
      let z : Text × Offered = (row.reference, row.offered) in
      let given : offered m (Entity r) row.reference ≡ Some row.offered = offers_are m r row.reference x output kept is ∙ found in
      let arrival : unwrap_or (find pairs_cmp (r, row.reference) (emitted m.rows)) 0 ≡ a = ap (λ v. unwrap_or v 0) (emitted_at m.rows t.rows_in_order t.offers.once a row r at o) in
      let one = in_one (unwrap_or (find pairs_cmp (r, row.reference) (emitted m.rows)) 0) (Entity r) row.reference row.offered _ (out_is r row.reference row.offered given) in
      let this : In (a, row) (standing.offer_given trees r (offer_in version (emitted m.rows) r z)) =
      subst (λ e. In e (standing.offer_given trees r (offer_in version (emitted m.rows) r z))) (λ i. (arrival i, record { origin = sym o i; reference = row.reference; offered = row.offered })) one in
      let all : In (a, row) (standing.output_given trees r (option_map (output_in version (emitted m.rows) r) (Some output))) =
      in_flat (standing.offer_given trees r) (offer_in version (emitted m.rows) r z) (a, row) (map (offer_in version (emitted m.rows) r) output.offers)
      (in_map (offer_in version (emitted m.rows) r) z output.offers (in_found text_total text_antisymmetric row.reference output.offers row.offered found)) this in
      in_flat (standing.given_by trees) (row_of version m r x) (a, row) xs (has_record r x kept)
      (subst (In (a, row)) (sym (at_record (standing.given_by trees) (standing.output_given trees r) version r (unwrap_or (get m.holders r) 0) x.issues x.number (option_map (output_in version (emitted m.rows) r) x.output) (λ v. refl) (λ output. refl)))
      (subst (λ v. In (a, row) (standing.output_given trees r (option_map (output_in version (emitted m.rows) r) v))) (sym is) all))

  row_in : (a : ℕ) (row : Row) → row_at m.rows a ≡ Some row → In (a, row) (flat_map (standing.given_by trees) xs)
  row_in a row at = go row.origin refl
    where
      by_offer : (r : Ref) → row.origin ≡ Entity r → IsOffered m r row.reference row.offered → In (a, row) (flat_map (standing.given_by trees) xs)
      by_offer r o k = row_in_output a row r at o k.kept k.output k.at k.is k.found

      go : (o : Origin) → row.origin ≡ o → In (a, row) (flat_map (standing.given_by trees) xs)
      go (OfProvider p) o = row_in_item a row p at o
      go (Entity r) o = by_offer r o (is_offered m r row.reference row.offered (ap (λ o. offered m o row.reference) (sym o) ∙ t.offers.given a row at))

  pub rows_are : standing.rows_of trees xs ≡ m.rows
  rows_are = rows_make (flat_map (standing.given_by trees) xs) m.rows t.rows_in_order (given_by_rows version rule m (standing.given_by trees) IsFound row_gives xs shapes) row_in

  -- ---- providers

  abbrev IsGiven : Entry → Type 0
  IsGiven e = offered m (OfProvider e.0.0) e.0.1 ≡ Some e.1

  given_one : (p r : Text) (x : Offered) (v : Option Offered) → v ≡ Some x → offered m (OfProvider p) r ≡ Some x → (e : Entry) → In e (entry_with p r v) → IsGiven e
  given_one p r x None is f e h = absurd (none_some is)
  given_one p r x (Some y) is f e (inr h) = absurd h
  given_one p r x (Some y) is f e (inl h) =
      (λ i. offered m (OfProvider (h i).0.0) (h i).0.1) ∙ (f ∙ (ap Some (sym (same_some is)) ∙ ap (λ (d : Entry). Some d.1) (sym h)))

  entry_item : (a : ℕ) (row : Row) (p : Text) → row_at m.rows a ≡ Some row → row.origin ≡ OfProvider p → (e : Entry) → In e (entry_in trees (item_of version m a row p)) → IsGiven e
  entry_item a row p at o e h =
      let made = at_item (entry_in trees) (λ v. entry_with p row.reference (standing.offered_by trees a row.offered.key v)) p row.reference a row.offered.key (tree_beside version row.offered.tree) refl (λ tree. refl) in
      given_one p row.reference row.offered _ (offer_is a row at) (ap (λ o. offered m o row.reference) (sym o) ∙ t.offers.given a row at) e (subst (In e) made h)

  entry_gives : Gives version rule m (entry_in trees) IsGiven
  entry_gives = record {
    counters = λ c e h. absurd h;
    settings = λ e h. absurd h;
    providers = λ p x at e h. absurd h;
    items = entry_item;
    trees = λ a row at e h. absurd h;
    shelf = λ name body at e h. absurd h;
    records = λ r x at e h. absurd (none_in e _ (at_record (entry_in trees) (λ v. []) version r (unwrap_or (get m.holders r) 0) x.issues x.number (option_map (output_in version (emitted m.rows) r) x.output) (λ v. refl) (λ output. refl)) h);
    orphans = λ r x at e h. absurd h;
  }

  entry_there : (p r : Text) (x : Offered) → offered m (OfProvider p) r ≡ Some x → In ((p, r), x) (flat_map (entry_in trees) xs)
  entry_there p r x f =
      let shown : HasRow m.rows (OfProvider p) r x = t.offers.shown (OfProvider p) r x f in
      let row : Row = record { origin = OfProvider p; reference = r; offered = x } in
      let made = at_item (entry_in trees) (λ v. entry_with p r (standing.offered_by trees shown.arrival x.key v)) p r shown.arrival x.key (tree_beside version x.tree) refl (λ tree. refl) in
      in_flat (entry_in trees) (item_of version m shown.arrival row p) ((p, r), x) xs (has_item shown.arrival row p shown.row refl)
      (subst (In ((p, r), x)) (sym made) (subst (λ v. In ((p, r), x) (entry_with p r v)) (sym (offer_is shown.arrival row shown.row)) (inl refl)))

  abbrev items : Map (Map Offered)
  items = standing.told_by (standing.item_with trees) xs []

  items_are : (p : Text) (x : ProviderInputs) → get m.providers p ≡ Some x → own items p ≡ x.items
  items_are p x at =
      let of : (r : Text) → offered m (OfProvider p) r ≡ get x.items r = λ r. ap (option_and_then (λ (z : ProviderInputs). get z.items r)) at in
      ap (λ l. own l p) (all_entries trees xs [])
      ∙ items_make (flat_map (entry_in trees) xs) p x.items (t.items_in_order p x at)
      (λ r y h. sym (of r) ∙ given_by_rows version rule m (entry_in trees) IsGiven entry_gives xs shapes ((p, r), y) h)
      (λ r y f. entry_there p r y (of r ∙ f))

  abbrev IsServed : Text × ProviderInputs → Type 0
  IsServed e = get m.providers e.0 ≡ Some e.1

  served_one : (p : Text) (x : ProviderInputs) → get m.providers p ≡ Some x → (e : Text × ProviderInputs) → In e (standing.provider_in items (Provider p x.serial)) → IsServed e
  served_one p x at e (inr h) = absurd h
  served_one p x at e (inl h) =
      ap (λ (d : Text × ProviderInputs). get m.providers d.0) h
      ∙ (at ∙ ((λ i. Some (record { serial = x.serial; items = sym (items_are p x at) i })) ∙ ap (λ (d : Text × ProviderInputs). Some d.1) (sym h)))

  provider_gives : Gives version rule m (standing.provider_in items) IsServed
  provider_gives = record {
    counters = λ c e h. absurd h;
    settings = λ e h. absurd h;
    providers = served_one;
    items = λ a row p at o e h. absurd (none_in e _ (at_item (standing.provider_in items) (λ v. []) p row.reference a row.offered.key (tree_beside version row.offered.tree) refl (λ tree. refl)) h);
    trees = λ a row at e h. absurd h;
    shelf = λ name body at e h. absurd h;
    records = λ r x at e h. absurd (none_in e _ (at_record (standing.provider_in items) (λ v. []) version r (unwrap_or (get m.holders r) 0) x.issues x.number (option_map (output_in version (emitted m.rows) r) x.output) (λ v. refl) (λ output. refl)) h);
    orphans = λ r x at e h. absurd h;
  }

  pub providers_are : standing.providers_of trees xs ≡ m.providers
  providers_are =
      puts_make text_total text_antisymmetric (flat_map (standing.provider_in items) xs) m.providers t.providers_in_order
      (given_by_rows version rule m (standing.provider_in items) IsServed provider_gives xs shapes)
      (λ p x at. in_flat (standing.provider_in items) (Provider p x.serial) (p, x) xs (has (Provider p x.serial) (kept_provider version m p x at))
      (inl (λ i. (p, record { serial = x.serial; items = sym (items_are p x at) i }))))

  -- ---- the shelf and orphans

  abbrev IsShelved : Text × Text → Type 0
  IsShelved e = get m.shelf e.0 ≡ Some e.1

  shelved_one : (name body : Text) → get m.shelf name ≡ Some body → (e : Text × Text) → In e ((name, body) ∷ []) → IsShelved e
  shelved_one name body at e (inr h) = absurd h
  shelved_one name body at e (inl h) = ap (λ (d : Text × Text). get m.shelf d.0) h ∙ (at ∙ ap (λ (d : Text × Text). Some d.1) (sym h))

  shelf_gives : Gives version rule m standing.text_in IsShelved
  shelf_gives = record {
    counters = λ c e h. absurd h;
    settings = λ e h. absurd h;
    providers = λ p x at e h. absurd h;
    items = λ a row p at o e h. absurd (none_in e _ (at_item standing.text_in (λ v. []) p row.reference a row.offered.key (tree_beside version row.offered.tree) refl (λ tree. refl)) h);
    trees = λ a row at e h. absurd h;
    shelf = shelved_one;
    records = λ r x at e h. absurd (none_in e _ (at_record standing.text_in (λ v. []) version r (unwrap_or (get m.holders r) 0) x.issues x.number (option_map (output_in version (emitted m.rows) r) x.output) (λ v. refl) (λ output. refl)) h);
    orphans = λ r x at e h. absurd h;
  }

  pub shelf_is : standing.shelf_of xs ≡ m.shelf
  shelf_is =
      puts_make text_total text_antisymmetric (flat_map standing.text_in xs) m.shelf t.shelf_in_order (given_by_rows version rule m standing.text_in IsShelved shelf_gives xs shapes)
      (λ name body at. in_flat standing.text_in (Shelf name body) (name, body) xs (has (Shelf name body) (kept_text version m name body at)) (inl refl))

  abbrev IsLeft : Text × Orphan → Type 0
  IsLeft e = get m.orphans e.0 ≡ Some e.1

  left_one : (r : Ref) (x : Orphan) → get m.orphans r ≡ Some x → (e : Text × Orphan) → In e (standing.orphan_in (OrphanRow r x.entity x.number)) → IsLeft e
  left_one r x at e (inr h) = absurd h
  left_one r x at e (inl h) = ap (λ (d : Text × Orphan). get m.orphans d.0) h ∙ (at ∙ ap (λ (d : Text × Orphan). Some d.1) (sym h))

  orphan_gives : Gives version rule m standing.orphan_in IsLeft
  orphan_gives = record {
    counters = λ c e h. absurd h;
    settings = λ e h. absurd h;
    providers = λ p x at e h. absurd h;
    items = λ a row p at o e h. absurd (none_in e _ (at_item standing.orphan_in (λ v. []) p row.reference a row.offered.key (tree_beside version row.offered.tree) refl (λ tree. refl)) h);
    trees = λ a row at e h. absurd h;
    shelf = λ name body at e h. absurd h;
    records = λ r x at e h. absurd (none_in e _ (at_record standing.orphan_in (λ v. []) version r (unwrap_or (get m.holders r) 0) x.issues x.number (option_map (output_in version (emitted m.rows) r) x.output) (λ v. refl) (λ output. refl)) h);
    orphans = left_one;
  }

  pub orphans_are : standing.orphans_of xs ≡ m.orphans
  orphans_are =
      puts_make text_total text_antisymmetric (flat_map standing.orphan_in xs) m.orphans t.orphans_in_order (given_by_rows version rule m standing.orphan_in IsLeft orphan_gives xs shapes)
      (λ r x at. in_flat standing.orphan_in (OrphanRow r x.entity x.number) (r, x) xs (has (OrphanRow r x.entity x.number) (kept_orphan version m r x at)) (inl refl))

  -- ---- holders

  abbrev IsHeld : Text × ℕ → Type 0
  IsHeld e = get m.holders e.0 ≡ Some e.1

  held_is : (r : Ref) (x : Recorded) → get m.records r ≡ Some x → get m.holders r ≡ Some (unwrap_or (get m.holders r) 0)
  held_is r x at = go (some_or_none (get m.holders r) (sym (t.records r) ∙ ap is_some at))
    where
      go : (a : ℕ) × (get m.holders r ≡ Some a) → get m.holders r ≡ Some (unwrap_or (get m.holders r) 0)
      go a = a.1 ∙ ap (λ v. Some (unwrap_or v 0)) (sym a.1)

  held_one : (r : Ref) (a : ℕ) → get m.holders r ≡ Some a → (e : Text × ℕ) → In e ((r, a) ∷ []) → IsHeld e
  held_one r a at e (inr h) = absurd h
  held_one r a at e (inl h) = ap (λ (d : Text × ℕ). get m.holders d.0) h ∙ (at ∙ ap (λ (d : Text × ℕ). Some d.1) (sym h))

  holder_made : (r : Ref) (x : Recorded) → standing.holder_in (row_of version m r x) ≡ (r, unwrap_or (get m.holders r) 0) ∷ []
  holder_made r x = at_record standing.holder_in (λ v. (r, unwrap_or (get m.holders r) 0) ∷ []) version r (unwrap_or (get m.holders r) 0) x.issues x.number (option_map (output_in version (emitted m.rows) r) x.output) (λ v. refl) (λ output. refl)

  holder_gives : Gives version rule m standing.holder_in IsHeld
  holder_gives = record {
    counters = λ c e h. absurd h;
    settings = λ e h. absurd h;
    providers = λ p x at e h. absurd h;
    items = λ a row p at o e h. absurd (none_in e _ (at_item standing.holder_in (λ v. []) p row.reference a row.offered.key (tree_beside version row.offered.tree) refl (λ tree. refl)) h);
    trees = λ a row at e h. absurd h;
    shelf = λ name body at e h. absurd h;
    records = λ r x at e h. held_one r (unwrap_or (get m.holders r) 0) (held_is r x at) e (subst (In e) (holder_made r x) h);
    orphans = λ r x at e h. absurd h;
  }

  holder_there : (r : Ref) (a : ℕ) → get m.holders r ≡ Some a → In (r, a) (flat_map standing.holder_in xs)
  holder_there r a at = go (some_or_none (get m.records r) (t.records r ∙ ap is_some at))
    where
      go : (x : Recorded) × (get m.records r ≡ Some x) → In (r, a) (flat_map standing.holder_in xs)
      go x =
          in_flat standing.holder_in (row_of version m r x.0) (r, a) xs (has_record r x.0 x.1)
          (subst (In (r, a)) (sym (holder_made r x.0)) (inl (λ i. (r, unwrap_or (sym at i) 0))))

  pub holders_are : standing.holders_of xs ≡ m.holders
  holders_are = puts_make text_total text_antisymmetric (flat_map standing.holder_in xs) m.holders t.holders_in_order (given_by_rows version rule m standing.holder_in IsHeld holder_gives xs shapes) holder_there

  -- ---- records

  -- offers that each stand in a row are read back
  offers_back : (r : Ref) (zs : List (Text × Offered)) → ((z : Text × Offered) → In z zs → offered m (Entity r) z.0 ≡ Some z.1)
      → flat_map (standing.offer_in trees) (map (offer_in version (emitted m.rows) r) zs) ≡ zs
  offers_back r [] f = refl
  offers_back r (z ∷ zs) f =
      (λ i. standing.offer_with z.0 (out_is r z.0 z.1 (f z (inl refl)) i) ++ flat_map (standing.offer_in trees) (map (offer_in version (emitted m.rows) r) zs))
      ∙ ap (λ l. z ∷ l) (offers_back r zs (λ y g. f y (inr g)))

  output_back : (r : Ref) (x : Recorded) → get m.records r ≡ Some x → (v : Option Output) → x.output ≡ v
      → option_map (standing.output_in trees) (option_map (output_in version (emitted m.rows) r) v) ≡ v
  output_back r x at None is = refl
  output_back r x at (Some output) is = λ i. Some (record { entity = output.entity; offers = offers_back r output.offers (among r x output at is) i })

  abbrev IsDue : Text × Recorded → Type 0
  IsDue e = get (due_records m) e.0 ≡ Some e.1

  -- a record as it is read
  abbrev read_record : Ref → Recorded → Recorded
  read_record r x = standing.recorded_as x.issues x.number (option_map (standing.output_in trees) (option_map (output_in version (emitted m.rows) r) x.output))

  read_is : (r : Ref) (x : Recorded) → get m.records r ≡ Some x → read_record r x ≡ due_now x
  read_is r x at = ap (standing.recorded_as x.issues x.number) (output_back r x at x.output refl)

  record_made : (r : Ref) (x : Recorded) → standing.record_in trees (row_of version m r x) ≡ (r, read_record r x) ∷ []
  record_made r x =
      at_record (standing.record_in trees) (λ v. (r, standing.recorded_as x.issues x.number (option_map (standing.output_in trees) v)) ∷ []) version r (unwrap_or (get m.holders r) 0) x.issues x.number
      (option_map (output_in version (emitted m.rows) r) x.output) (λ v. refl) (λ output. refl)

  due_one : (r : Ref) (x : Recorded) → get m.records r ≡ Some x → (e : Text × Recorded) → In e ((r, read_record r x) ∷ []) → IsDue e
  due_one r x at e (inr h) = absurd h
  due_one r x at e (inl h) =
      ap (λ (d : Text × Recorded). get (due_records m) d.0) h ∙ (record_at m r ∙ (ap (option_map due_now) at ∙ (ap Some (sym (read_is r x at)) ∙ ap (λ (d : Text × Recorded). Some d.1) (sym h))))

  record_gives : Gives version rule m (standing.record_in trees) IsDue
  record_gives = record {
    counters = λ c e h. absurd h;
    settings = λ e h. absurd h;
    providers = λ p x at e h. absurd h;
    items = λ a row p at o e h. absurd (none_in e _ (at_item (standing.record_in trees) (λ v. []) p row.reference a row.offered.key (tree_beside version row.offered.tree) refl (λ tree. refl)) h);
    trees = λ a row at e h. absurd h;
    shelf = λ name body at e h. absurd h;
    records = λ r x at e h. due_one r x at e (subst (In e) (record_made r x) h);
    orphans = λ r x at e h. absurd h;
  }

  record_there : (r : Ref) (y : Recorded) → get (due_records m) r ≡ Some y → In (r, y) (flat_map (standing.record_in trees) xs)
  record_there r y f = go (get m.records r) refl (sym (record_at m r) ∙ f)
    where
      go : (v : Option Recorded) → get m.records r ≡ v → option_map due_now v ≡ Some y → In (r, y) (flat_map (standing.record_in trees) xs)
      go None at g = absurd (none_some g)
      go (Some x) at g =
          in_flat (standing.record_in trees) (row_of version m r x) (r, y) xs (has_record r x at)
          (subst (In (r, y)) (sym (record_made r x)) (inl (λ i. (r, (sym (same_some g) ∙ sym (read_is r x at)) i))))

  pub records_are : standing.records_of trees xs ≡ due_records m
  records_are =
      puts_make text_total text_antisymmetric (flat_map (standing.record_in trees) xs) (due_records m)
      (is_sorted-tabulate text_total text_antisymmetric (keys m.records) (λ k. option_and_then (λ x. Some (due_now x)) (get m.records k)))
      (given_by_rows version rule m (standing.record_in trees) IsDue record_gives xs shapes) record_there
