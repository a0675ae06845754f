-- States that are the same in all that is stored open again as one, and what opens again has the same rows.
use Rattle.std.proofs.Common.{T, ◌≡◌, Bool, ◌&&◌, ◌==◌, List, [], ◌∷◌, ◌++◌, length, map, refl, sym, ap, subst, ◌∙◌, is_some, suc}
use Rattle.std.specs.Prelude.{if◌then◌else◌}
use Rattle.std.specs.declared.option.Option.{Option}
use Rattle.std.specs.declared.option.Option.TheVariants.{None, Some}
use Rattle.std.specs.FinMap.Entries.{below_all, is_sorted, same_entries}
use Rattle.std.specs.List.{AllByRecursion, flat_map}
use Rattle.std.specs.Option.{option_and_then, option_map}
use Rattle.std.specs.Ordering.{is_lt}
use mathlib.Core.Path.{fun_ext}
use Rattle.cat_tree.specs.Proper.{IsNarrow}
use Rattle.cat_collections.specs.Table.{Map, Text, get, keys, tabulate, text_cmp}
use Rattle.cat_collections.proofs.Tables.{find-over, is_sorted-tabulate, text_antisymmetric, text_total}
use Rattle.cat_types.specs.declared.work.Output.{Output}
use Rattle.cat_model.specs.Catalogue.{Holders, Ref, Rules, Tree, due_now, emitted, output_of, parts_from}
use Rattle.cat_model.specs.Sound.{offered}
use Rattle.cat_model.specs.Step.{reopened}
use Rattle.cat_model.specs.declared.types.Origin.{Origin}
use Rattle.cat_model.specs.declared.types.Origin.TheVariants.{Provider, Entity}
use Rattle.cat_model.specs.declared.types.Orphan.{Orphan}
use Rattle.cat_model.specs.declared.types.OrphanRule.{OrphanRule}
use Rattle.cat_model.specs.declared.types.OrphanRule.TheVariants.{Keep}
use Rattle.cat_model.specs.declared.types.Record.{Record}
use Rattle.cat_model.specs.declared.types.State.{State}
use Rattle.cat_row_format.specs.Text.{row_data}
use Rattle.cat_row_format.specs.declared.row.StoredRow.{StoredRow}
use Rattle.cat_row_format.specs.declared.row.StoredRow.TheVariants.{Settings}
use Rattle.cat_stored_rows.specs.First.{first, first_rows_of}
use Rattle.cat_stored_rows.specs.Stored.{counter_rows, emitted as emitted_rows, given_in, is_keep, orphan_row, provider_row, put_rows, record_in, rows_of, rule_of, shelf_row, stored}
use Rattle.cat_stored_rows.specs.declared.version.Version.{Version}
use Rattle.cat_stored_rows.specs.declared.version.Version.TheVariants.{One, Two}
use Rattle.cat_row_reader.specs.Start.{IsAtStart}
use Rattle.cat_stored_rows.specs.Told.{IsTold}
use Rattle.cat_row_updates.specs.Told.{AreDue}
use Rattle.cat_stored_rows.proofs.In.{found_map}
use Rattle.cat_row_updates.proofs.Same.{AreSame, due_records}

-- ---- records that are due at once

and_then_is : (v : Option Record) → option_and_then (λ x. Some (due_now x)) v ≡ option_map due_now v
and_then_is None = refl
and_then_is (Some x) = refl

-- a record that is due at once, under its reference
abbrev due : Text × Record → Text × Record
due e = (e.0, due_now e.1)

module _ (m : State) where
  pub record_at : (r : Ref) → get (due_records m) r ≡ option_map due_now (get m.records r)
  record_at r = find-over text_total text_antisymmetric r m.records (λ r x. Some (due_now x)) ∙ and_then_is (get m.records r)

  below_due : (k : Text) (xs : List (Text × Record)) → below_all text_cmp k (map due xs) ≡ below_all text_cmp k xs
  below_due k [] = refl
  below_due k (x ∷ xs) = ap (λ b. is_lt (text_cmp k x.0) && b) (below_due k xs)

  sorted_due : (xs : List (Text × Record)) → is_sorted text_cmp (map due xs) ≡ is_sorted text_cmp xs
  sorted_due [] = refl
  sorted_due (x ∷ xs) = λ i. below_due x.0 xs i && sorted_due xs i

  -- in order, they stand where the records stand
  pub in_place : T (is_sorted text_cmp m.records) → due_records m ≡ map due m.records
  in_place h =
      same_entries text_cmp text_total text_antisymmetric (due_records m) (map due m.records)
      (is_sorted-tabulate text_total text_antisymmetric (keys m.records) (λ k. option_and_then (λ x. Some (due_now x)) (get m.records k)))
      (subst T (sym (sorted_due m.records)) h)
      (λ r. record_at r ∙ sym (found_map text_total text_antisymmetric due_now m.records r))

  keys_due : (xs : List (Text × Record)) → keys (map due xs) ≡ keys xs
  keys_due [] = refl
  keys_due (x ∷ xs) = ap (λ ks. x.0 ∷ ks) (keys_due xs)

  same_keys : T (is_sorted text_cmp m.records) → keys m.records ≡ keys (due_records m)
  same_keys h = sym (ap keys (in_place h) ∙ keys_due m.records)

  same_outputs : output_of m.records ≡ output_of (due_records m)
  same_outputs = fun_ext (λ r. sym (ap (option_and_then (λ (x : Record). x.output)) (record_at r) ∙ go (get m.records r)))
    where
      go : (v : Option Record) → option_and_then (λ (x : Record). x.output) (option_map due_now v) ≡ option_and_then (λ (x : Record). x.output) v
      go None = refl
      go (Some x) = refl

-- ---- documents

-- what the parts of each known reference are stitched to
abbrev documents_of : Rules → Map Record → Holders → Map Orphan → Map Tree
documents_of rules records holders orphans =
    tabulate text_cmp (keys (tabulate text_cmp (keys records ++ keys orphans) (λ r. Some (tt {0}))))
    (λ r. option_map rules.doc (parts_from rules (emitted rules (keys holders) (output_of records)) r (get orphans r) (get records r)))

module _ (rules : Rules) where
  -- the documents don't tell when records are due
  same_parts : (m : State) (outputs : Ref → Option Output) (r : Ref) → parts_from rules (emitted rules (keys m.holders) outputs) r (get m.orphans r) (get m.records r)
      ≡ parts_from rules (emitted rules (keys m.holders) outputs) r (get m.orphans r) (get (due_records m) r)
  same_parts m outputs r = sym (ap (parts_from rules (emitted rules (keys m.holders) outputs) r (get m.orphans r)) (record_at m r) ∙ go (get m.records r))
    where
      go : (v : Option Record) → parts_from rules (emitted rules (keys m.holders) outputs) r (get m.orphans r) (option_map due_now v) ≡ parts_from rules (emitted rules (keys m.holders) outputs) r (get m.orphans r) v
      go None = refl
      go (Some x) = refl

  documents_due : (m : State) → T (is_sorted text_cmp m.records) → (reopened rules m).documents ≡ documents_of rules (due_records m) m.holders m.orphans
  documents_due m h =
      (λ i. tabulate text_cmp (keys (tabulate text_cmp (same_keys m h i ++ keys m.orphans) (λ r. Some (tt {0}))))
      (λ r. option_map rules.doc (parts_from rules (emitted rules (keys m.holders) (same_outputs m i)) r (get m.orphans r) (get m.records r))))
      ∙ ap (tabulate text_cmp (keys (tabulate text_cmp (keys (due_records m) ++ keys m.orphans) (λ r. Some (tt {0})))))
      (fun_ext (λ r. ap (option_map rules.doc) (same_parts m (output_of (due_records m)) r)))

  pub opens_as_one : (m n : State) → T (is_sorted text_cmp m.records) → T (is_sorted text_cmp n.records) → AreSame m n → reopened rules m ≡ reopened rules n
  opens_as_one m n h g same =
      let documents : (reopened rules m).documents ≡ (reopened rules n).documents =
      documents_due m h ∙ ((λ i. documents_of rules (same.records i) (same.holders i) (same.orphans i)) ∙ sym (documents_due n g)) in
      λ i. record {
        providers = same.providers i;
        shelf = same.shelf i;
        rows = same.rows i;
        holders = same.holders i;
        records = same.records i;
        orphans = same.orphans i;
        marks = [];
        documents = documents i;
        arrival = same.arrival i;
        number = same.number i;
        token = 1;
        ticket = 1;
      }

  -- ---- what opens again has the same rows

  module _ (m : State) where
    -- there is nothing to tell of, by whether there are no records
    abbrev blank_with : OrphanRule → Bool → Bool
    blank_with rule none = ((length m.providers == 0 && length m.shelf == 0) && (none && length m.orphans == 0)) && ((m.arrival == 1 && m.number == 1) && is_keep rule)

    -- the rows of what the state keeps, by those of its records
    abbrev kept_with : Version → List StoredRow → List StoredRow
    kept_with version records =
        map provider_row m.providers
        ++ (flat_map (given_in version) m.rows
        ++ (map shelf_row m.shelf
        ++ (records
        ++ map orphan_row m.orphans)))

    lengths : (xs : List (Text × Record)) → length (map due xs) ≡ length xs
    lengths [] = refl
    lengths (x ∷ xs) = ap (λ n. suc n) (lengths xs)

    none_due : T (is_sorted text_cmp m.records) → (length (due_records m) == 0) ≡ (length m.records == 0)
    none_due h = ap (λ n. n == 0) (ap length (in_place m h) ∙ lengths m.records)

    record_rows : (version : Version) (xs : List (Text × Record)) → map (record_in version m.holders (emitted_rows m.rows)) (map due xs) ≡ map (record_in version m.holders (emitted_rows m.rows)) xs
    record_rows version [] = refl
    record_rows version (x ∷ xs) = ap (λ rows. record_in version m.holders (emitted_rows m.rows) x ∷ rows) (record_rows version xs)

    records_due : (version : Version) → T (is_sorted text_cmp m.records)
        → map (record_in version m.holders (emitted_rows m.rows)) (due_records m) ≡ map (record_in version m.holders (emitted_rows m.rows)) m.records
    records_due version h = ap (map (record_in version m.holders (emitted_rows m.rows))) (in_place m h) ∙ record_rows version m.records

    same_rows : (rule : OrphanRule) → T (is_sorted text_cmp m.records) → rows_of rule (reopened rules m) ≡ rows_of rule m
    same_rows rule h = λ i. if blank_with rule (none_due h i) then [] else (counter_rows m ++ (Settings (rule_of rule) ∷ kept_with Two (records_due Two h i)))

    pub same_stored : (rule : OrphanRule) → T (is_sorted text_cmp m.records) → stored rule (reopened rules m) ≡ stored rule m
    unfolding stored
    same_stored rule h = ap (λ rows. put_rows rows []) (same_rows rule h)

    same_firsts : T (is_sorted text_cmp m.records) → first_rows_of (reopened rules m) ≡ first_rows_of m
    same_firsts h = λ i. if blank_with Keep (none_due h i) then [] else (counter_rows m ++ kept_with One (records_due One h i))

    pub same_first : T (is_sorted text_cmp m.records) → first (reopened rules m) ≡ first m
    unfolding first
    same_first h = ap (λ rows. put_rows rows []) (same_firsts h)

  -- ---- what opens again is told by its rows

  module _ (m : State) (t : IsTold m) where
    same_offers : (o : Origin) (r : Ref) → offered (reopened rules m) o r ≡ offered m o r
    same_offers (Provider p) r = refl
    same_offers (Entity e) r = ap (λ (outputs : Ref → Option Output). option_and_then (λ (x : Output). get x.offers r) (outputs e)) (sym (same_outputs m))

    still : (v : Option Record) → is_some (option_map due_now v) ≡ is_some v
    still None = refl
    still (Some x) = refl

    pub told_again : IsTold (reopened rules m)
    told_again = record {
      offers = record {
        given = λ a row e. same_offers row.origin row.reference ∙ t.offers.given a row e;
        shown = λ o r x e. t.offers.shown o r x (sym (same_offers o r) ∙ e);
        below = t.offers.below;
        once = t.offers.once;
      };
      records = λ r. ap is_some (record_at m r) ∙ (still (get m.records r) ∙ t.records r);
      narrow = λ rule. subst (AllByRecursion (λ row. IsNarrow (row_data row))) (sym (same_rows m rule t.records_in_order)) (t.narrow rule);
      items_in_order = t.items_in_order;
      providers_in_order = t.providers_in_order;
      shelf_in_order = t.shelf_in_order;
      rows_in_order = t.rows_in_order;
      holders_in_order = t.holders_in_order;
      records_in_order = is_sorted-tabulate text_total text_antisymmetric (keys m.records) (λ k. option_and_then (λ x. Some (due_now x)) (get m.records k));
      orphans_in_order = t.orphans_in_order;
    }

-- ---- states at their start

-- records that are due at once and free stay as they are
pub due_stay : (m : State) → T (is_sorted text_cmp m.records) → AreDue m → due_records m ≡ m.records
due_stay m h are_due =
    same_entries text_cmp text_total text_antisymmetric (due_records m) m.records
    (is_sorted-tabulate text_total text_antisymmetric (keys m.records) (λ k. option_and_then (λ x. Some (due_now x)) (get m.records k))) h
    (λ r. record_at m r ∙ go r (get m.records r) refl)
  where
    go : (r : Ref) (v : Option Record) → get m.records r ≡ v → option_map due_now v ≡ v
    go r None e = refl
    go r (Some x) e = let d = are_due r x e in λ i. Some (record { number = x.number; output = x.output; issues = x.issues; due = sym d.0 i; lease = sym d.1 i })

pub starts_as_one : (m n : State) → T (is_sorted text_cmp m.records) → T (is_sorted text_cmp n.records) → AreDue m → AreDue n → IsAtStart m → IsAtStart n → AreSame m n → m ≡ n
starts_as_one m n h g are_due others_due start other same =
    let records : m.records ≡ n.records = sym (due_stay m h are_due) ∙ (same.records ∙ due_stay n g others_due) in
    let marks : m.marks ≡ n.marks = start.marks ∙ sym other.marks in
    let documents : m.documents ≡ n.documents = start.documents ∙ sym other.documents in
    let token : m.token ≡ n.token = start.token ∙ sym other.token in
    let ticket : m.ticket ≡ n.ticket = start.ticket ∙ sym other.ticket in
    λ i. record {
      providers = same.providers i;
      shelf = same.shelf i;
      rows = same.rows i;
      holders = same.holders i;
      records = records i;
      orphans = same.orphans i;
      marks = marks i;
      documents = documents i;
      arrival = same.arrival i;
      number = same.number i;
      token = token i;
      ticket = ticket i;
    }
