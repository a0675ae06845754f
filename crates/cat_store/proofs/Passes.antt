-- A state that its rows tell passes the test that they do.
use Rattle.std.proofs.Common.{T, ◌≡◌, inl, inr, ℕ, ◌<◌, ◌≤◌, ◌^◌, Bool, true, false, ◌&&◌, nat_lt, List, [], ◌∷◌, map, refl, sym, ap, subst, ◌∙◌, true≢false, unwrap_or, arith, lt-ltb, pos, negsuc}
use Rattle.std.specs.Prelude.{if◌then◌else◌}
use Rattle.std.specs.declared.option.Option.{Option}
use Rattle.std.specs.declared.option.Option.TheVariants.{None, Some}
use Rattle.std.specs.Cmp.{nat_cmp_total}
use Rattle.std.specs.FinMap.{nat_cmp-IsAntisymmetric}
use Rattle.std.specs.FinMap.Entries.{is_sorted}
use Rattle.std.specs.List.{AllByRecursion, list_all}
use Rattle.std.specs.Option.{option_map}
use Rattle.cat_tree.specs.Data.{Data, null, flag, whole, words, list, dict, Items, no_items, item, Members, no_members, member}
use Rattle.cat_tree.specs.Proper.{IsNarrow, ItemsNarrow, MembersNarrow}
use Rattle.cat_collections.specs.Table.{Text, get, text_cmp}
use Rattle.cat_collections.proofs.Rising.{from_T}
use Rattle.cat_collections.proofs.Tables.{text_antisymmetric, text_total}
use Rattle.cat_types.specs.declared.input.Offered.{Offered}
use Rattle.cat_types.specs.declared.work.Output.{Output}
use Rattle.cat_model.specs.Catalogue.{Ref, row_at}
use Rattle.cat_model.specs.Sound.{HasRow}
use Rattle.cat_model.specs.declared.types.Origin.TheVariants.{Entity}
use Rattle.cat_model.specs.declared.types.Orphan.{Orphan}
use Rattle.cat_model.specs.declared.types.OrphanRule.TheVariants.{Delete}
use Rattle.cat_model.specs.declared.types.ProviderInputs.{ProviderInputs}
use Rattle.cat_model.specs.declared.types.Record.{Record as Recorded}
use Rattle.cat_model.specs.declared.types.Row.{Row}
use Rattle.cat_model.specs.declared.types.State.{State}
use Rattle.cat_row_format.specs.Text.{kept_data, row_data}
use Rattle.cat_row_format.specs.declared.row.StoredRow.{StoredRow}
use Rattle.cat_row_format.specs.declared.row.StoredRow.TheVariants.{Provider, Orphan as OrphanRow, Tree}
use Rattle.cat_stored_rows.specs.Stored.{all_rows, emitted, is_blank, output_row, record_row, rows_of}
use Rattle.cat_stored_rows.specs.Told.{IsTold}
use Rattle.cat_stored_rows.proofs.In.{In, all_in, found_in}
use Rattle.cat_row_updates.specs.Told.{IsPlaced}
use Rattle.cat_row_updates.proofs.Narrow.{stands}
use Rattle.cat_row_updates.proofs.Parts.{offers_are}
use Rattle.cat_row_updates.proofs.Rested.{all_pass, both}
use Rattle.cat_row_updates.proofs.Same.{rows_are}
use Rattle.cat_row_updates.proofs.Views.{has_orphan, has_provider, has_record, has_tree}
use Rattle.cat_store.specs.Narrow.{is_narrow, are_narrow, have_narrow}
use Rattle.cat_store.specs.Tells.{is_narrow_offer, is_narrow_orphan, is_narrow_output, is_narrow_record, is_narrow_row, is_right_provider, is_telling}

-- ---- trees

if_both : (a b : Bool) → a ≡ true → b ≡ true → (if a then b else false) ≡ true
if_both true b h g = g
if_both false b h g = h

mutual
  pub narrow_passes : (d : Data) → IsNarrow d → is_narrow d ≡ true
  narrow_passes null h = refl
  narrow_passes (flag b) h = refl
  narrow_passes (whole (pos n)) h = lt-ltb n (2 ^ 64) h
  narrow_passes (whole (negsuc n)) h = lt-ltb n (2 ^ 63) h
  narrow_passes (words s) h = refl
  narrow_passes (list ds) h = items_pass ds h
  narrow_passes (dict ms) h = members_pass ms h

  items_pass : (ds : Items) → ItemsNarrow ds → are_narrow ds ≡ true
  items_pass no_items h = refl
  items_pass (item d ds) h = if_both (is_narrow d) (are_narrow ds) (narrow_passes d h.0) (items_pass ds h.1)

  members_pass : (ms : Members) → MembersNarrow ms → have_narrow ms ≡ true
  members_pass no_members h = refl
  members_pass (member k d ms) h = if_both (is_narrow d) (have_narrow ms) (narrow_passes d h.0) (members_pass ms h.1)

-- ---- a state

never_blank : (a b : Bool) → (a && (b && false)) ≡ false
never_blank true true = refl
never_blank true false = refl
never_blank false b = refl

module _ (m : State) (t : IsTold m) (placed : IsPlaced m) where
  not_blank : is_blank Delete m ≡ false
  not_blank = never_blank _ _

  narrow : (b : StoredRow) → In b (all_rows Delete m) → IsNarrow (row_data b)
  narrow = all_in (λ row. IsNarrow (row_data row)) (all_rows Delete m) (subst (AllByRecursion (λ row. IsNarrow (row_data row))) (rows_are Delete m not_blank) (t.narrow Delete))

  tree_narrow : (a : ℕ) (row : Row) → row_at m.rows a ≡ Some row → IsNarrow row.offered.tree
  tree_narrow a row f = narrow (Tree a row.offered.tree) (has_tree Delete m a row f)

  provider_passes : (e : Text × ProviderInputs) → In e m.providers → is_right_provider e ≡ true
  provider_passes e i =
      let at = found_in text_total text_antisymmetric m.providers t.providers_in_order e.0 e.1 i in
      let n : IsNarrow (row_data (Provider e.0 e.1.serial)) = narrow (Provider e.0 e.1.serial) (has_provider Delete m e.0 e.1 at) in
      both _ _ (lt-ltb e.1.serial (2 ^ 64) n.0) (from_T _ (t.items_in_order e.0 e.1 at))

  row_passes : (e : ℕ × Row) → In e m.rows → is_narrow_row e ≡ true
  row_passes e i =
      let at = found_in nat_cmp_total nat_cmp-IsAntisymmetric m.rows t.rows_in_order e.0 e.1 i in
      let below = t.offers.below e.0 e.1 at in
      let small : m.arrival ≤ 2 ^ 64 = placed.small in
      let fits : e.0 < 2 ^ 64 = omega arith in
      both _ _ (lt-ltb e.0 (2 ^ 64) fits) (narrow_passes e.1.offered.tree (tree_narrow e.0 e.1 at))

  offer_passes : (r : Ref) (x : Recorded) (output : Output) → get m.records r ≡ Some x → x.output ≡ Some output → (z : Text × Offered) → In z output.offers → is_narrow_offer z ≡ true
  offer_passes r x output f e z g =
      let shown : HasRow m.rows (Entity r) z.0 z.1 = t.offers.shown (Entity r) z.0 z.1 (offers_are m r z.0 x output f e ∙ stands output.offers (placed.once r x output f e) z g) in
      narrow_passes z.1.tree (tree_narrow shown.arrival (record { origin = Entity r; reference = z.0; offered = z.1 }) shown.row)

  output_passes : (r : Ref) (x : Recorded) → get m.records r ≡ Some x → (v : Option Output) → x.output ≡ v → IsNarrow (kept_data (option_map (output_row (emitted m.rows) r) v)) → is_narrow_output v ≡ true
  output_passes r x f None e n = refl
  output_passes r x f (Some output) e n = both _ _ (narrow_passes output.entity n.0) (all_pass is_narrow_offer output.offers (offer_passes r x output f e))

  record_passes : (e : Text × Recorded) → In e m.records → is_narrow_record e ≡ true
  record_passes e i =
      let at = found_in text_total text_antisymmetric m.records t.records_in_order e.0 e.1 i in
      let n : IsNarrow (row_data (record_row m.holders (emitted m.rows) e)) = narrow (record_row m.holders (emitted m.rows) e) (has_record Delete m e.0 e.1 at) in
      both _ _ (lt-ltb e.1.number (2 ^ 64) n.1.1.0) (output_passes e.0 e.1 at e.1.output refl n.1.1.1.0)

  orphan_passes : (e : Text × Orphan) → In e m.orphans → is_narrow_orphan e ≡ true
  orphan_passes e i =
      let at = found_in text_total text_antisymmetric m.orphans t.orphans_in_order e.0 e.1 i in
      let n : IsNarrow (row_data (OrphanRow e.0 e.1.entity e.1.number)) = narrow (OrphanRow e.0 e.1.entity e.1.number) (has_orphan Delete m e.0 e.1 at) in
      both _ _ (lt-ltb e.1.number (2 ^ 64) n.1.0) (narrow_passes e.1.entity n.0)

  pub tells : is_telling m ≡ true
  unfolding is_telling
  tells =
      both _ _ (both _ _ (both _ _ (both _ _ (both _ _ (from_T _ t.providers_in_order) (from_T _ t.shelf_in_order)) (all_pass is_right_provider m.providers provider_passes)) (all_pass is_narrow_row m.rows row_passes))
      (all_pass is_narrow_record m.records record_passes)) (all_pass is_narrow_orphan m.orphans orphan_passes)
