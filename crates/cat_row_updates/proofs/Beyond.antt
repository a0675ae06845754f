-- Beyond what was reached the rows of two states are the same.
use Rattle.std.proofs.Common.{◌≡◌, ℕ, Bool, true, false, refl, sym, ap, subst, ◌∙◌, unwrap_or}
use Rattle.std.specs.declared.option.Option.{Option}
use Rattle.std.specs.declared.option.Option.TheVariants.{None, Some}
use Rattle.std.specs.Option.{option_map}
use Rattle.cat_collections.specs.Table.{Text, find, get}
use Rattle.cat_model.specs.Catalogue.{Ref, due_now, row_at}
use Rattle.cat_model.specs.declared.types.Origin.TheVariants.{Entity}
use Rattle.cat_model.specs.declared.types.OrphanRule.{OrphanRule}
use Rattle.cat_model.specs.declared.types.Record.{Record as Recorded}
use Rattle.cat_model.specs.declared.types.State.{State}
use Rattle.cat_keeper.specs.Store.{RowKey, row_cmp}
use Rattle.cat_keeper.specs.declared.table.Table.{Table}
use Rattle.cat_keeper.specs.declared.table.Table.TheVariants as table
use Rattle.cat_row_format.specs.declared.row.StoredRow.{StoredRow}
use Rattle.cat_row_format.specs.declared.row.StoredRow.TheVariants as row
use Rattle.cat_stored_rows.specs.Stored.{all_rows, emitted, is_blank, pairs_cmp, record_row, stored}
use Rattle.cat_stored_rows.proofs.In.{In, alike, none_some, same_some}
use Rattle.cat_row_updates.proofs.Offers.{emitted_at}
use Rattle.cat_row_updates.proofs.Rows.{place}
use Rattle.cat_row_updates.proofs.Views.{Is, has_item, has_orphan, has_provider, has_record, has_text, has_tree}
use Rattle.cat_affected.specs.Reach.{has}
use Rattle.cat_row_updates.specs.Places.{key_of, output_with}
use Rattle.cat_row_updates.specs.Renewed.{AreSorted, IsBeyond, IsKept}
use Rattle.cat_row_updates.specs.declared.place.Place.TheVariants.{Record}
use Rattle.cat_row_updates.specs.declared.reached.Reached.{Reached}
use Rattle.cat_row_updates.proofs.Apart.{IsApart}
use Rattle.cat_row_updates.proofs.Found.{IsFound, finds, found_is, full_by_orphan, full_by_provider, full_by_record, full_by_row, full_by_text}
use Rattle.cat_row_updates.proofs.Members.{IsThatRow, is_of-tells}
use Rattle.cat_row_updates.proofs.Noted.{IsEmitted, emitted_from}
use Rattle.cat_row_updates.proofs.Standing.{to_T}

turned : (x : Reached) (m n : State) → IsBeyond x m n → IsBeyond x n m
turned x m n h = record {
  references = record {
    rows = h.references.none_new;
    none_new = h.references.rows;
    holders = λ r out. sym (h.references.holders r out);
    records = λ r out. sym (h.references.records r out);
    orphans = λ r out. sym (h.references.orphans r out);
  };
  providers = λ q out. sym (h.providers q out);
  shelf = λ t out. sym (h.shelf t out);
}

-- ---- the rows of an entity whose record wasn't reached have the same arrival numbers

module _ (x : Reached) (m n : State) (key : RowKey) (beyond : IsBeyond x m n) (apart : IsApart key x m n) (o : AreSorted m) (u : AreSorted n) (l : IsKept n) where
  given_too : (e : Ref) → key_of (Record e) ≡ key → (z : Text) (a : ℕ) → find pairs_cmp (e, z) (emitted m.rows) ≡ Some a → find pairs_cmp (e, z) (emitted n.rows) ≡ Some a
  given_too e is z a f = go (emitted_from m.rows (to_T _ o.rows) e z a f)
    where
      by : (w : IsEmitted m.rows e z a) (b : Bool) → has w.row.reference x.references.items ≡ b → find pairs_cmp (e, w.row.reference) (emitted n.rows) ≡ Some a
      by w true h =
          let that : IsThatRow (row_at n.rows a) (Entity e) w.row.reference = is_of-tells (Entity e) w.row.reference (row_at n.rows a) (apart.givers a w.row e w.at w.from is h) in
          ap (λ q. find pairs_cmp (e, q) (emitted n.rows)) (sym that.names) ∙ emitted_at n.rows (to_T _ u.rows) l.offers.once a that.row e that.is that.from
      by w false h = emitted_at n.rows (to_T _ u.rows) l.offers.once a w.row e (beyond.references.rows a w.row w.at h) w.from

      go : IsEmitted m.rows e z a → find pairs_cmp (e, z) (emitted n.rows) ≡ Some a
      go w = ap (λ q. find pairs_cmp (e, q) (emitted n.rows)) (sym w.names) ∙ by w (has w.row.reference x.references.items) refl

-- ---- a row at a key that is apart is one of the other state too

module _ (rule : OrphanRule) (x : Reached) (m n : State) (key : RowKey) (beyond : IsBeyond x m n) (apart : IsApart key x m n) (back : IsApart key x n m)
    (o : AreSorted m) (u : AreSorted n) (k : IsKept m) (l : IsKept n) where
  -- a record that wasn't reached has the same row
  module _ (r : Ref) (is : key_of (Record r) ≡ key) (y : Recorded) (at : get m.records r ≡ Some y) where
    same_given : (z : Text) → find pairs_cmp (r, z) (emitted m.rows) ≡ find pairs_cmp (r, z) (emitted n.rows)
    same_given z =
        alike (find pairs_cmp (r, z) (emitted m.rows)) (find pairs_cmp (r, z) (emitted n.rows))
        (given_too x m n key beyond apart o u l r is z) (given_too x n m key (turned x m n beyond) back u o k r is z)

    -- the record after the event, whose row is that of the record before it
    record IsSameRecord : Type 0 where
      kept : Recorded
      found : get n.records r ≡ Some kept
      row : record_row m.holders (emitted m.rows) (r, y) ≡ record_row n.holders (emitted n.rows) (r, kept)

    same_row : (z : Recorded) → due_now y ≡ due_now z → get m.holders r ≡ get n.holders r → record_row m.holders (emitted m.rows) (r, y) ≡ record_row n.holders (emitted n.rows) (r, z)
    same_row z due holder =
        λ i. row.Record r (unwrap_or (holder i) 0) (due i).issues (due i).number (option_map (output_with (λ q. same_given q i)) (due i).output)

    record_stays : IsSameRecord
    record_stays = go (get n.records r) refl (beyond.references.records r out ∙ ap (option_map due_now) at)
      where
        out : has r x.references.items ≡ false
        out = apart.records r is

        go : (v : Option Recorded) → get n.records r ≡ v → option_map due_now v ≡ Some (due_now y) → IsSameRecord
        go None e h = absurd (none_some h)
        go (Some z) e h = record { kept = z; found = e; row = same_row z (sym (same_some h)) (sym (beyond.references.holders r out)) }

  -- a row that is in the other state, at the key
  goes_with : (b c : StoredRow) → b ≡ c → place b ≡ key → In c (all_rows rule n) → is_blank rule n ≡ false → find row_cmp key (stored rule n) ≡ Some b
  goes_with b c is stands h full = finds rule n u l key b (record { row = subst (λ d. In d (all_rows rule n)) (sym is) h; stands = stands; full = full })

  goes : (b : StoredRow) → place b ≡ key → (s : Table) → Is rule m s b → find row_cmp key (stored rule n) ≡ Some b
  goes b at table.Counters is = absurd (apart.counters is.0 (ap place (sym is.1) ∙ at))
  goes b at table.Providers is =
      let there = beyond.providers is.0 (apart.providers is.0 (ap place (sym is.3) ∙ at)) ∙ is.2 in
      goes_with b (row.Provider is.0 is.1.serial) is.3 at (has_provider rule n is.0 is.1 there) (full_by_provider rule n is.0 is.1 there)
  goes b at table.Items is =
      let there = beyond.references.rows is.0 is.1 is.3 (apart.items is.0 is.1 is.2 is.3 is.4 (ap place (sym is.5) ∙ at)) in
      goes_with b (row.Item is.2 is.1.reference is.0 is.1.offered.key) is.5 at (has_item rule n is.0 is.1 is.2 there is.4) (full_by_row rule n l is.0 is.1 there)
  goes b at table.Shelf is =
      let there = beyond.shelf is.0 (apart.shelf is.0 (ap place (sym is.3) ∙ at)) ∙ is.2 in
      goes_with b (row.Shelf is.0 is.1) is.3 at (has_text rule n is.0 is.1 there) (full_by_text rule n is.0 is.1 there)
  goes b at table.Records is =
      let same = record_stays is.0 (ap place (sym is.3) ∙ at) is.1 is.2 in
      goes_with b (record_row n.holders (emitted n.rows) (is.0, same.kept)) (is.3 ∙ same.row) at (has_record rule n is.0 same.kept same.found) (full_by_record rule n is.0 same.kept same.found)
  goes b at table.Orphans is =
      let there = beyond.references.orphans is.0 (apart.orphans is.0 (ap place (sym is.3) ∙ at)) ∙ is.2 in
      goes_with b (row.Orphan is.0 is.1.entity is.1.number) is.3 at (has_orphan rule n is.0 is.1 there) (full_by_orphan rule n is.0 is.1 there)
  goes b at table.Settings is = absurd (apart.settings (ap place (sym is) ∙ at))
  goes b at table.Trees is =
      let there = beyond.references.rows is.0 is.1 is.2 (apart.trees is.0 is.1 is.2 (ap place (sym is.3) ∙ at)) in
      goes_with b (row.Tree is.0 is.1.offered.tree) is.3 at (has_tree rule n is.0 is.1 there) (full_by_row rule n l is.0 is.1 there)

  row_too : (b : StoredRow) → find row_cmp key (stored rule m) ≡ Some b → find row_cmp key (stored rule n) ≡ Some b
  row_too b f = let found : IsFound rule m key b = found_is rule m o key b f in goes b found.stands key.0 found.is

-- so at a key that is apart before and after nothing differs
pub same_at : (rule : OrphanRule) (x : Reached) (m n : State) (key : RowKey) → IsBeyond x m n → IsApart key x m n → IsApart key x n m → AreSorted m → AreSorted n → IsKept m → IsKept n
    → find row_cmp key (stored rule n) ≡ find row_cmp key (stored rule m)
same_at rule x m n key beyond apart back o u k l =
    alike (find row_cmp key (stored rule n)) (find row_cmp key (stored rule m))
    (row_too rule x n m key (turned x m n beyond) back apart u o l k) (row_too rule x m n key beyond apart back o u k l)
