-- A sound state that passes the test is told by its rows.
use Rattle.std.proofs.Common.{◌≡◌, ◌⊎◌, inl, inr, ℕ, ◌^◌, ◌<◌, Bool, true, false, ◌&&◌, nat_lt, List, [], ◌∷◌, ◌++◌, map, flat_map, refl, sym, ap, subst, unwrap_or, arith}
use Rattle.std.proofs.lemmas.Bool.{ltb-true}
use Rattle.std.specs.Prelude.{if◌then◌else◌}
use Rattle.std.specs.declared.option.Option.{Option}
use Rattle.std.specs.declared.option.Option.TheVariants.{None, Some}
use Rattle.std.specs.FinMap.Entries.{is_sorted}
use Rattle.std.specs.List.{AllByRecursion, list_all}
use Rattle.std.specs.Option.{option_map}
use Rattle.cat_tree.specs.Data.{Data, items_of}
use Rattle.cat_tree.specs.Proper.{IsNarrow, ItemsNarrow}
use Rattle.cat_collections.specs.Pairs.{pair_antisymmetric, pair_total}
use Rattle.cat_collections.specs.Table.{Text, find, get, text_cmp}
use Rattle.cat_collections.proofs.Tables.{and_first, and_second, text_antisymmetric, text_total}
use Rattle.cat_types.specs.declared.input.Offered.{Offered}
use Rattle.cat_types.specs.declared.issue.Issue.{Issue}
use Rattle.cat_types.specs.declared.work.Output.{Output}
use Rattle.cat_model.specs.Catalogue.{Ref, Rules}
use Rattle.cat_model.specs.Sound.{AreOrdered, AreSmall, IsRowOf, Sound}
use Rattle.cat_model.specs.declared.types.Origin.{Origin}
use Rattle.cat_model.specs.declared.types.Origin.TheVariants.{Provider as OfProvider, Entity}
use Rattle.cat_model.specs.declared.types.Orphan.{Orphan}
use Rattle.cat_model.specs.declared.types.OrphanRule.TheVariants.{Keep}
use Rattle.cat_model.specs.declared.types.Record.{Record as Recorded}
use Rattle.cat_model.specs.declared.types.Row.{Row}
use Rattle.cat_model.specs.declared.types.State.{State}
use Rattle.cat_row_format.specs.Formed.{is_any}
use Rattle.cat_row_format.specs.Text.{issue_data, kept_data, offer_data, row_data}
use Rattle.cat_row_format.specs.declared.row.StoredOutput.{StoredOutput}
use Rattle.cat_row_format.specs.declared.row.StoredRow.{StoredRow}
use Rattle.cat_row_format.specs.declared.row.StoredRow.TheVariants.{Record, RecordOne}
use Rattle.cat_state_check.proofs.Found.{T-true, found_passes}
use Rattle.cat_stored_rows.specs.First.{all_first}
use Rattle.cat_stored_rows.specs.Stored.{all_rows, emitted, emitted_as, emitted_by, given_in, is_blank, item_with, kept_in, offer_in, orphan_row, output_in, pairs_cmp, provider_row, record_as, record_in, shelf_row, tree_beside, tree_rows}
use Rattle.cat_stored_rows.specs.Told.{AreFirstNarrow, AreNarrow, IsTold}
use Rattle.cat_stored_rows.specs.declared.version.Version.{Version}
use Rattle.cat_stored_rows.specs.declared.version.Version.TheVariants.{One, Two}
use Rattle.cat_stored_rows.proofs.In.{In, from_flat, from_map, from_puts, in_all, in_either, in_passes, none_some}
use Rattle.cat_store.specs.Narrow.{is_narrow}
use Rattle.cat_store.specs.Tells.{is_narrow_offer, is_narrow_orphan, is_narrow_output, is_narrow_record, is_narrow_row, is_right_provider, is_telling}
use Rattle.cat_store.proofs.Narrowness.{narrow}

-- what a state that passes has passed
pub record IsPassed (m : State) : Type 0 where
  pub providers_sorted : is_sorted text_cmp m.providers ≡ true
  pub shelf_sorted : is_sorted text_cmp m.shelf ≡ true
  pub providers : list_all is_right_provider m.providers ≡ true
  pub rows : list_all is_narrow_row m.rows ≡ true
  pub records : list_all is_narrow_record m.records ≡ true
  pub orphans : list_all is_narrow_orphan m.orphans ≡ true

pub passed : (m : State) → is_telling m ≡ true → IsPassed m
unfolding is_telling
passed m h =
    let five = and_first _ _ h in
    let four = and_first _ _ five in
    let three = and_first _ _ four in
    let two = and_first _ _ three in
    let p = is_sorted text_cmp m.providers in
    let s = is_sorted text_cmp m.shelf in
    let g = list_all is_right_provider m.providers in
    let r = list_all is_narrow_row m.rows in
    let k = list_all is_narrow_record m.records in
    record {
      providers_sorted = and_first _ _ two;
      shelf_sorted = and_second p _ two;
      providers = and_second (p && s) _ three;
      rows = and_second (p && s && g) _ four;
      records = and_second (p && s && g && r) _ five;
      orphans = and_second (p && s && g && r && k) _ h;
    }

-- the numbers in the value of a row have 64 bits
abbrev HasNarrow : StoredRow → Type 0
HasNarrow row = IsNarrow (row_data row)

-- ---- items, trees and issues

given_narrow : (version : Version) (o : Origin) (a : ℕ) (reference key : Text) (tree : Data) → a < 2 ^ 64 → IsNarrow tree
    → (b : StoredRow) → In b (item_with a reference key (tree_beside version tree) o ++ tree_rows version a tree) → HasNarrow b
given_narrow One (OfProvider name) a reference key tree s n b (inl e) = subst HasNarrow (sym e) (s, (tt, (n, tt)))
given_narrow One (OfProvider name) a reference key tree s n b (inr h) = absurd h
given_narrow One (Entity emitter) a reference key tree s n b h = absurd h
given_narrow Two (OfProvider name) a reference key tree s n b (inl e) = subst HasNarrow (sym e) (s, (tt, tt))
given_narrow Two (OfProvider name) a reference key tree s n b (inr (inl e)) = subst HasNarrow (sym e) n
given_narrow Two (OfProvider name) a reference key tree s n b (inr (inr h)) = absurd h
given_narrow Two (Entity emitter) a reference key tree s n b (inl e) = subst HasNarrow (sym e) n
given_narrow Two (Entity emitter) a reference key tree s n b (inr h) = absurd h

issues_narrow : (issues : List Issue) → ItemsNarrow (items_of (map issue_data issues))
issues_narrow [] = tt
issues_narrow (x ∷ issues) = ((tt, (tt, (tt, tt))), issues_narrow issues)

-- ---- records, in the form that a version has for them

record_narrow : (version : Version) (r : Text) (holder : ℕ) (issues : List Issue) (n : ℕ) (v : Option StoredOutput) → holder < 2 ^ 64 → n < 2 ^ 64 → IsNarrow (kept_data v) → HasNarrow (record_as version r holder issues n v)
record_narrow Two r holder issues n v h g k = (h, (issues_narrow issues, (g, (k, tt))))
record_narrow One r holder issues n None h g k = (h, (issues_narrow issues, (g, (k, tt))))
record_narrow One r holder issues n (Some output) h g k = go (is_any output.offers)
  where
    go : (b : Bool) → HasNarrow (if b then RecordOne r holder issues n output else Record r holder issues n (Some output))
    go true = (h, (issues_narrow issues, (g, (k, tt))))
    go false = (h, (issues_narrow issues, (g, (k, tt))))

module _ (rules : Rules) (m : State) (sound : Sound rules m) (small : AreSmall m) (ordered : AreOrdered m) (p : IsPassed m) where
  -- ---- arrival numbers

  arrival_small : (e : ℕ × Row) → In e m.rows → e.0 < 2 ^ 64
  arrival_small e i = ltb-true e.0 (2 ^ 64) (and_first _ _ (in_passes is_narrow_row m.rows p.rows e i))

  holder_small : (r : Ref) → unwrap_or (get m.holders r) 0 < 2 ^ 64
  holder_small r = go (get m.holders r) refl
    where
      go : (v : Option ℕ) → get m.holders r ≡ v → unwrap_or v 0 < 2 ^ 64
      go None f = omega arith
      go (Some a) f =
          let of : IsRowOf m.rows r a = sound.holders.rows_of r a f in
          omega (arith, sound.offers.below a of.row of.at, small.arrival)

  noted : (k : Text × Text) (a b : ℕ) (reference : Text) (o : Origin) → In (k, a) (emitted_by b reference o) → a ≡ b
  noted k a b reference (OfProvider name) h = absurd h
  noted k a b reference (Entity emitter) (inl e) = ap (λ x. x.1) e
  noted k a b reference (Entity emitter) (inr h) = absurd h

  emitted_small : (k : Text × Text) → unwrap_or (find pairs_cmp k (emitted m.rows)) 0 < 2 ^ 64
  emitted_small k = go (find pairs_cmp k (emitted m.rows)) refl
    where
      at : (a : ℕ) → In (k, a) (flat_map emitted_as m.rows) ⊎ (None ≡ Some a) → a < 2 ^ 64
      at a (inl h) =
          let from = from_flat emitted_as (k, a) m.rows h in
          subst (λ b. b < 2 ^ 64) (sym (noted k a from.0.0 from.0.1.reference from.0.1.origin from.2)) (arrival_small from.0 from.1)
      at a (inr h) = absurd (none_some h)

      go : (v : Option ℕ) → find pairs_cmp k (emitted m.rows) ≡ v → unwrap_or v 0 < 2 ^ 64
      go None f = omega arith
      go (Some a) f = at a (from_puts (pair_total text_total text_total) (pair_antisymmetric text_antisymmetric text_antisymmetric) (flat_map emitted_as m.rows) [] k a f)

  -- ---- outputs

  offers_narrow : (version : Version) (r : Text) (xs : List (Text × Offered)) → list_all is_narrow_offer xs ≡ true → ItemsNarrow (items_of (map offer_data (map (offer_in version (emitted m.rows) r) xs)))
  offers_narrow version r [] h = tt
  offers_narrow One r (x ∷ xs) h = ((emitted_small (r, x.0), (tt, (tt, (narrow x.1.tree (and_first _ _ h), tt)))), offers_narrow One r xs (and_second (is_narrow_offer x) _ h))
  offers_narrow Two r (x ∷ xs) h = ((emitted_small (r, x.0), (tt, (tt, tt))), offers_narrow Two r xs (and_second (is_narrow_offer x) _ h))

  output_narrow : (version : Version) (r : Text) (v : Option Output) → is_narrow_output v ≡ true → IsNarrow (kept_data (option_map (output_in version (emitted m.rows) r) v))
  output_narrow version r None h = tt
  output_narrow version r (Some output) h =
      (narrow output.entity (and_first _ _ h), (offers_narrow version r output.offers (and_second (is_narrow output.entity) _ h), tt))

  -- ---- all rows

  module _ (version : Version) where
    provider_narrow : (b : StoredRow) → In b (map provider_row m.providers) → HasNarrow b
    provider_narrow b i =
        let from = from_map provider_row b m.providers i in
        let serial = ltb-true from.0.1.serial (2 ^ 64) (and_first _ _ (in_passes is_right_provider m.providers p.providers from.0 from.1)) in
        subst HasNarrow (sym from.2) (serial, tt)

    row_narrow : (b : StoredRow) → In b (flat_map (given_in version) m.rows) → HasNarrow b
    row_narrow b i =
        let from = from_flat (given_in version) b m.rows i in
        let row : Row = from.0.1 in
        let tree = narrow row.offered.tree (and_second (nat_lt from.0.0 (2 ^ 64)) _ (in_passes is_narrow_row m.rows p.rows from.0 from.1)) in
        given_narrow version row.origin from.0.0 row.reference row.offered.key row.offered.tree (arrival_small from.0 from.1) tree b from.2

    text_narrow : (b : StoredRow) → In b (map shelf_row m.shelf) → HasNarrow b
    text_narrow b i = subst HasNarrow (sym (from_map shelf_row b m.shelf i).2) tt

    kept_narrow : (b : StoredRow) → In b (map (record_in version m.holders (emitted m.rows)) m.records) → HasNarrow b
    kept_narrow b i =
        let from = from_map (record_in version m.holders (emitted m.rows)) b m.records i in
        let r : Text = from.0.0 in
        let x : Recorded = from.0.1 in
        let passes = in_passes is_narrow_record m.records p.records from.0 from.1 in
        subst HasNarrow (sym from.2)
        (record_narrow version r (unwrap_or (get m.holders r) 0) x.issues x.number (option_map (output_in version (emitted m.rows) r) x.output)
        (holder_small r) (ltb-true x.number (2 ^ 64) (and_first _ _ passes)) (output_narrow version r x.output (and_second (nat_lt x.number (2 ^ 64)) _ passes)))

    orphan_narrow : (b : StoredRow) → In b (map orphan_row m.orphans) → HasNarrow b
    orphan_narrow b i =
        let from = from_map orphan_row b m.orphans i in
        let x : Orphan = from.0.1 in
        let passes = in_passes is_narrow_orphan m.orphans p.orphans from.0 from.1 in
        subst HasNarrow (sym from.2) (narrow x.entity (and_second (nat_lt x.number (2 ^ 64)) _ passes), (ltb-true x.number (2 ^ 64) (and_first _ _ passes), tt))

    either : (xs ys : List StoredRow) → ((b : StoredRow) → In b xs → HasNarrow b) → ((b : StoredRow) → In b ys → HasNarrow b) → (b : StoredRow) → In b (xs ++ ys) → HasNarrow b
    either xs ys f g b i = go (in_either b xs ys i)
      where
        go : In b xs ⊎ In b ys → HasNarrow b
        go (inl h) = f b h
        go (inr h) = g b h

    all_kept_narrow : (b : StoredRow) → In b (kept_in version m) → HasNarrow b
    all_kept_narrow = either _ _ provider_narrow (either _ _ row_narrow (either _ _ text_narrow (either _ _ kept_narrow orphan_narrow)))

  arrival_next : m.arrival < 2 ^ 64
  arrival_next = omega (arith, small.arrival)

  number_next : m.number < 2 ^ 64
  number_next = omega (arith, small.number)

  rows_narrow : AreNarrow m
  rows_narrow rule = go (is_blank rule m)
    where
      go : (b : Bool) → AllByRecursion HasNarrow (if b then [] else all_rows rule m)
      go true = tt
      go false = (arrival_next, (number_next, ((tt, (omega arith, tt)), in_all HasNarrow (kept_in Two m) (all_kept_narrow Two))))

  pub first_rows_narrow : AreFirstNarrow m
  first_rows_narrow = go (is_blank Keep m)
    where
      go : (b : Bool) → AllByRecursion HasNarrow (if b then [] else all_first m)
      go true = tt
      go false = (arrival_next, (number_next, in_all HasNarrow (kept_in One m) (all_kept_narrow One)))

  pub is_told : IsTold m
  is_told = record {
    offers = sound.offers;
    records = sound.records;
    narrow = rows_narrow;
    items_in_order = λ name x f. T-true _ (and_second (nat_lt x.serial (2 ^ 64)) _ (found_passes text_total text_antisymmetric is_right_provider m.providers p.providers name x f));
    providers_in_order = T-true _ p.providers_sorted;
    shelf_in_order = T-true _ p.shelf_sorted;
    rows_in_order = sound.rows_in_order;
    holders_in_order = sound.holders_in_order;
    records_in_order = sound.in_order;
    orphans_in_order = ordered.orphans;
  }
