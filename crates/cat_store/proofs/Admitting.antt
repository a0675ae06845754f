-- A state that a store opens as is one that may open.
use Rattle.std.proofs.Common.{T, ◌≡◌, ◌⊎◌, inl, inr, ℕ, ◌≤◌, ◌<◌, ◌^◌, true, ◌&&◌, nat_le, nat_lt, List, [], ◌∷◌, length, sym, ap, subst, ◌∙◌, arith}
use Rattle.std.proofs.lemmas.Bool.{leb-true, ltb-true}
use Rattle.std.specs.Prelude.{IfOk, IfSome, IsTrue, ◌==◌}
use Rattle.std.specs.declared.option.Option.{Option}
use Rattle.std.specs.declared.option.Option.TheVariants.{None, Some}
use Rattle.std.specs.declared.result.Result.{Result}
use Rattle.std.specs.declared.result.Result.TheVariants.{Ok, Err}
use Rattle.std.specs.Cmp.{nat_cmp_total}
use Rattle.std.specs.FinMap.{nat_cmp-IsAntisymmetric}
use Rattle.std.specs.List.{flat_map}
use Rattle.std.specs.Option.{option_map}
use Rattle.cat_tree.specs.Ask.{depth_of}
use Rattle.cat_tree.specs.Data.{Data}
use Rattle.cat_tree.specs.Proper.{IsProper}
use Rattle.cat_types.specs.Names.{is_name, is_shelf_name}
use Rattle.cat_types.specs.Reference.{described}
use Rattle.cat_types.specs.declared.input.Offered.{Offered}
use Rattle.cat_types.specs.declared.issue.Issue.{Issue}
use Rattle.cat_types.specs.declared.work.Output.{Output}
use Rattle.cat_collections.specs.Table.{Map, Text, get, keys}
use Rattle.cat_collections.proofs.Tables.{and_first, and_second, text_antisymmetric, text_total}
use Rattle.cat_keeper.specs.Store.{Rows}
use Rattle.cat_links.specs.Links.{Emitted}
use Rattle.cat_model.specs.Catalogue.{Ref, Rules, row_at}
use Rattle.cat_model.specs.Step.{reopened}
use Rattle.cat_model.specs.declared.types.Orphan.{Orphan}
use Rattle.cat_model.specs.declared.types.ProviderInputs.{ProviderInputs}
use Rattle.cat_model.specs.declared.types.Record.{Record as Recorded}
use Rattle.cat_model.specs.declared.types.Row.{Row}
use Rattle.cat_model.specs.declared.types.State.{State}
use Rattle.cat_row_format.specs.Formed.{IsStorable}
use Rattle.cat_row_format.specs.Text.{record_data, row_data}
use Rattle.cat_row_format.specs.declared.row.StoredOutput.{StoredOutput}
use Rattle.cat_row_format.specs.declared.row.StoredRow.{StoredRow}
use Rattle.cat_row_format.specs.declared.row.StoredRow.TheVariants.{Counter, Provider, Item, Shelf, Record, RecordOne, Orphan as OrphanRow, Settings, Tree, ItemOne}
use Rattle.cat_row_reader.specs.Candidate.{IsCandidate}
use Rattle.cat_row_reader.specs.Forms.{differ, is_entity, is_given_row, is_kept, is_left, is_output, is_source}
use Rattle.cat_row_reader.specs.Read.{AreRead}
use Rattle.cat_row_reader.specs.Standing.{Trees, item_with, orphan_in, orphans_of, output_in, provider_in, providers_of, record_in, records_of, shelf_of, state_of, text_in, told_by, trees_of}
use Rattle.cat_row_reader.specs.declared.types.Candidate.{Candidate}
use Rattle.cat_row_updates.specs.Right.{HaveForms, IsGivable, MayOpen}
use Rattle.cat_row_updates.specs.Told.{IsPlaced}
use Rattle.cat_row_updates.proofs.Passed.{IsPassing, distinct, either_of, entity_of, no_items, passing, this_named}
use Rattle.cat_row_updates.proofs.Rested.{is_due_of}
use Rattle.cat_stored_rows.proofs.In.{In, all_in, found_in, from_flat, from_puts, in_found, in_passes, none_some, same_some}
use Rattle.cat_store.specs.Opened.{IsOpening, IsRight}
use Rattle.cat_store.specs.Tells.{AreProper, IsProperOrphan, IsProperOutput, IsProperRecord, IsProperRow}
use Rattle.cat_store.specs.declared.open.Found.{Found}

-- ---- rows that were read

-- a row that was read can be stored
read_storable : (texts : Rows) (rows : List StoredRow) → AreRead texts rows → (row : StoredRow) → In row rows → IsStorable row
read_storable [] [] h row i = absurd i
read_storable [] (x ∷ rows) h row i = absurd h
read_storable (e ∷ es) [] h row i = absurd i
read_storable (e ∷ es) (x ∷ rows) h row (inl is) = subst IsStorable (sym is) h.0.storable
read_storable (e ∷ es) (x ∷ rows) h row (inr i) = read_storable es rows h.1 row i

named_provider : (items : Map (Map Offered)) (p : Text) (x : ProviderInputs) (row : StoredRow) → IsStorable row → In (p, x) (provider_in items row) → IsTrue (is_name p)
named_provider items p x (Provider name serial) s (inl e) = subst (λ (n : Text). IsTrue (is_name n)) (sym (ap (λ (d : Text × ProviderInputs). d.0) e)) s.formed
named_provider items p x (Provider name serial) s (inr h) = absurd h
named_provider items p x row s h = absurd h

named_text : (name body : Text) (row : StoredRow) → IsStorable row → In (name, body) (text_in row) → IsTrue (is_shelf_name name)
named_text name body (Shelf n b) s (inl e) = subst (λ (k : Text). IsTrue (is_shelf_name k)) (sym (ap (λ (d : Text × Text). d.0) e)) s.formed
named_text name body (Shelf n b) s (inr h) = absurd h
named_text name body row s h = absurd h

-- a record's value has two levels above its entity, and an orphan's has one
deep_output : (holder : ℕ) (issues : List Issue) (n : ℕ) (stored : StoredOutput) → depth_of (record_data holder issues n (Some stored)) ≤ 127 → depth_of stored.entity ≤ 125
deep_output holder issues n stored h = omega arith

deep_kept : (trees : Trees) (holder : ℕ) (issues : List Issue) (n : ℕ) (v : Option StoredOutput) (output : Output) → depth_of (record_data holder issues n v) ≤ 127
    → option_map (output_in trees) v ≡ Some output → depth_of output.entity ≤ 125
deep_kept trees holder issues n None output h e = absurd (none_some e)
deep_kept trees holder issues n (Some stored) output h e =
    subst (λ (o : Output). depth_of o.entity ≤ 125) (same_some e) (deep_output holder issues n stored h)

deep_record : (trees : Trees) (r : Text) (x : Recorded) (output : Output) → x.output ≡ Some output → (row : StoredRow) → IsStorable row → In (r, x) (record_in trees row) → depth_of output.entity ≤ 125
deep_record trees r x output is (Record reference holder issues n v) s (inl e) = deep_kept trees holder issues n v output s.depth (sym (ap (λ (d : Text × Recorded). d.1.output) e) ∙ is)
deep_record trees r x output is (Record reference holder issues n v) s (inr h) = absurd h
deep_record trees r x output is (RecordOne reference holder issues n v) s (inl e) =
    deep_kept trees holder issues n (Some v) output s.depth (sym (ap (λ (d : Text × Recorded). d.1.output) e) ∙ is)
deep_record trees r x output is (RecordOne reference holder issues n v) s (inr h) = absurd h
deep_record trees r x output is row s h = absurd h

deep_entity : (r : Text) (entity : Data) (n : ℕ) → depth_of (row_data (OrphanRow r entity n)) ≤ 127 → depth_of entity ≤ 126
deep_entity r entity n h = omega arith

deep_orphan : (r : Text) (x : Orphan) (row : StoredRow) → IsStorable row → In (r, x) (orphan_in row) → depth_of x.entity ≤ 126
deep_orphan r x (OrphanRow reference entity n) s (inl e) = subst (λ (o : Orphan). depth_of o.entity ≤ 126) (sym (ap (λ (d : Text × Orphan). d.1) e)) (deep_entity reference entity n s.depth)
deep_orphan r x (OrphanRow reference entity n) s (inr h) = absurd h
deep_orphan r x row s h = absurd h

-- what is found among what rows give was given by one of them
given_by_one : {X : Type 0} (give : StoredRow → List (Text × X)) (P : Text → X → Type 0) (rows : List StoredRow) → ((row : StoredRow) → In row rows → IsStorable row)
    → ((k : Text) (x : X) (row : StoredRow) → IsStorable row → In (k, x) (give row) → P k x) → (k : Text) (x : X) → (In (k, x) (flat_map give rows)) ⊎ (None ≡ Some x) → P k x
given_by_one give P rows storable holds k x (inl i) = let g = from_flat give (k, x) rows i in holds k x g.0 (storable g.0 g.1) g.2
given_by_one give P rows storable holds k x (inr e) = absurd (none_some e)

-- what is asked of all that was read
record AreWritable (m : State) : Type 0 where
  names : (p : Text) (x : ProviderInputs) → get m.providers p ≡ Some x → IsTrue (is_name p)
  shelf : (name body : Text) → get m.shelf name ≡ Some body → IsTrue (is_shelf_name name)
  outputs : (r : Text) (x : Recorded) → get m.records r ≡ Some x → (output : Output) → x.output ≡ Some output → depth_of output.entity ≤ 125
  orphans : (r : Text) (x : Orphan) → get m.orphans r ≡ Some x → depth_of x.entity ≤ 126

module _ (rows : List StoredRow) (storable : (row : StoredRow) → In row rows → IsStorable row) where
  abbrev items : Map (Map Offered)
  items = told_by (item_with (trees_of rows)) rows []

  writable : AreWritable (state_of rows)
  unfolding state_of
  writable = record {
    names = λ p x f.
        given_by_one (provider_in items) (λ (k : Text) (y : ProviderInputs). IsTrue (is_name k)) rows storable (λ k y row. named_provider items k y row) p x
        (from_puts text_total text_antisymmetric (flat_map (provider_in items) rows) [] p x f);
    shelf = λ name body f.
        given_by_one text_in (λ (k body : Text). IsTrue (is_shelf_name k)) rows storable named_text name body (from_puts text_total text_antisymmetric (flat_map text_in rows) [] name body f);
    outputs = λ r x f.
        given_by_one (record_in (trees_of rows)) (λ (k : Text) (y : Recorded). (output : Output) → y.output ≡ Some output → depth_of output.entity ≤ 125) rows storable
        (λ k y row s i output is. deep_record (trees_of rows) k y output is row s i) r x (from_puts text_total text_antisymmetric (flat_map (record_in (trees_of rows)) rows) [] r x f);
    orphans = λ r x f.
        given_by_one orphan_in (λ (k : Text) (y : Orphan). depth_of y.entity ≤ 126) rows storable deep_orphan r x (from_puts text_total text_antisymmetric (flat_map orphan_in rows) [] r x f);
  }

-- ---- what may open

module _ (rules : Rules) (limit : ℕ) (links : Emitted) (m : State) (o : IsOpening rules links (reopened rules m)) (w : AreWritable m) (f : IsPassing m)
    (within : rules.bytes m.providers m.shelf ≤ limit) (proper : AreProper (reopened rules m)) where
  abbrev n : State
  n = reopened rules m

  output_passes : (r : Ref) (x : Recorded) (output : Output) → get n.records r ≡ Some x → x.output ≡ Some output
      → (depth_of output.entity ≤ 125) × ((is_entity output.entity r && differ (keys output.offers)) ≡ true)
  output_passes r x output at is =
      let k = is_due_of m r x at in
      let same : k.kept.output ≡ Some output = sym (ap (λ (y : Recorded). y.output) k.is) ∙ is in
      let passes : is_output r k.kept.output ≡ true = in_passes is_kept m.records f.records (r, k.kept) (in_found text_total text_antisymmetric r m.records k.kept k.at) in
      (w.outputs r k.kept k.at output same, ap (is_output r) (sym same) ∙ passes)

  row_passes : (a : ℕ) (row : Row) → row_at n.rows a ≡ Some row → is_given_row (a, row) ≡ true
  row_passes a row at = in_passes is_given_row m.rows f.rows (a, row) (in_found nat_cmp_total nat_cmp-IsAntisymmetric a m.rows row at)

  givable : (a : ℕ) (row : Row) → row_at n.rows a ≡ Some row → IsGivable row.offered.tree row.reference
  givable a row at =
      let may = and_second (nat_le 1 a) _ (row_passes a row at) in
      record {
        named = this_named row.reference (described row.offered.tree) (and_second (nat_le (depth_of row.offered.tree) 100) _ may);
        shallow = leb-true (depth_of row.offered.tree) 100 (and_first _ _ may);
        proper = all_in IsProperRow m.rows proper.rows (a, row) (in_found nat_cmp_total nat_cmp-IsAntisymmetric a m.rows row at);
      }

  serial : (p : Text) (x : ProviderInputs) → get n.providers p ≡ Some x → (x.items ≡ []) ⊎ ((1 ≤ x.serial) × (x.serial < 2 ^ 53))
  serial p x at = elim (either_of (length x.items == 0) _ (in_passes is_source m.providers f.providers (p, x) (in_found text_total text_antisymmetric p m.providers x at))) [
    | inl none ↦ inl (no_items x.items none)
    | inr s ↦ inr (leb-true 1 x.serial (and_first _ _ s), ltb-true x.serial (2 ^ 53) (and_second (nat_le 1 x.serial) _ s))
  ]

  forms : HaveForms n
  forms = record {
    serials = serial;
    shelf = w.shelf;
    arrivals = λ a row at. leb-true 1 a (and_first _ _ (row_passes a row at));
    offers = givable;
    outputs = λ r x output at is.
        let passes = output_passes r x output at is in
        let rises : IsProperOutput x.output = all_in IsProperRecord n.records proper.records (r, x) (in_found text_total text_antisymmetric r n.records x at) in
        entity_of 125 output.entity r passes.0 (subst IsProperOutput is rises) (and_first _ _ passes.1);
    orphans = λ r x at.
        entity_of 126 x.entity r (w.orphans r x at) (all_in IsProperOrphan m.orphans proper.orphans (r, x) (in_found text_total text_antisymmetric r m.orphans x at))
        (in_passes is_left m.orphans f.orphans (r, x) (in_found text_total text_antisymmetric r m.orphans x at));
  }

  placed : IsPlaced n
  placed = record {
    names = w.names;
    small = let small = o.steady.small.arrival in omega arith;
    once = λ r x output at is. distinct (keys output.offers) (and_second (is_entity output.entity r) _ (output_passes r x output at is).1);
  }

  opens : MayOpen rules limit n
  opens = record { sound = o.steady.sound; told = o.tells; placed = placed; begun = o.begun; small = o.steady.small; formed = forms; within = within }

-- what a candidate that is right opens as may open
may_open : (rules : Rules) (limit : ℕ) (texts : Rows) (c : Candidate) → IsCandidate texts c → IsRight rules limit c.state → (links : Emitted) (n : State) → IsOpening rules links n → AreProper n
    → n ≡ reopened rules c.state → MayOpen rules limit n
may_open rules limit texts c is right links n o proper e =
    let read : AreWritable c.state = subst AreWritable (sym is.state) (writable is.rows (read_storable texts is.rows is.read)) in
    subst (MayOpen rules limit) (sym e)
    (opens rules limit links c.state (subst (IsOpening rules links) e o) read (passing c.state right.0) right.1 (subst AreProper e proper))

pub admitted : {E : Type 0} (rules : Rules) (limit : ℕ) (texts : Rows) (c : Candidate) → IsCandidate texts c → IsRight rules limit c.state → (found : Result (Option Found) E)
    → IfOk found (λ o. IfSome o (λ x. IsOpening rules x.links x.state.value)) → IfOk found (λ o. IfSome o (λ x. AreProper x.state.value)) → IfOk found (λ o. IfSome o (λ x. x.state.value ≡ reopened rules c.state))
    → IfOk found (λ o. IfSome o (λ x. MayOpen rules limit x.state.value))
admitted rules limit texts c is right (Ok None) opening proper state = tt
admitted rules limit texts c is right (Ok (Some x)) opening proper state = may_open rules limit texts c is right x.links x.state.value opening proper state
admitted rules limit texts c is right (Err e) opening proper state = tt
