-- The numbers of the rows of a state whose parts have the real forms have 64 bits.
use Rattle.std.proofs.Common.{◌≡◌, ◌⊎◌, inl, inr, ℕ, ◌^◌, ◌<◌, Bool, true, false, List, [], ◌∷◌, ◌++◌, map, flat_map, refl, sym, ap, subst, ◌∙◌, is_some, unwrap_or, arith}
use Rattle.std.specs.Prelude.{if◌then◌else◌}
use Rattle.std.specs.declared.option.Option.{Option}
use Rattle.std.specs.declared.option.Option.TheVariants.{None, Some}
use Rattle.std.specs.Cmp.{nat_cmp_total}
use Rattle.std.specs.FinMap.{nat_cmp-IsAntisymmetric}
use Rattle.std.specs.List.{AllByRecursion}
use Rattle.std.specs.Option.{option_map}
use Rattle.cat_tree.specs.Data.{Data, items_of}
use Rattle.cat_tree.specs.Proper.{IsNarrow, ItemsNarrow}
use Rattle.cat_collections.specs.Pairs.{pair_antisymmetric, pair_total}
use Rattle.cat_collections.specs.Table.{Text, find, get}
use Rattle.cat_collections.proofs.Tables.{text_antisymmetric, text_total}
use Rattle.cat_types.specs.declared.input.Offered.{Offered}
use Rattle.cat_types.specs.declared.issue.Issue.{Issue}
use Rattle.cat_types.specs.declared.work.Output.{Output}
use Rattle.cat_model.specs.Catalogue.{Ref, row_at}
use Rattle.cat_model.specs.Formed.{Formed}
use Rattle.cat_model.specs.Sound.{AreSmall, IsRowOf, Sound, its_number, number_in}
use Rattle.cat_model.specs.declared.types.Origin.{Origin}
use Rattle.cat_model.specs.declared.types.Origin.TheVariants.{Provider as OfProvider, Entity}
use Rattle.cat_model.specs.declared.types.Orphan.{Orphan}
use Rattle.cat_model.specs.declared.types.Record.{Record as Recorded}
use Rattle.cat_model.specs.declared.types.Row.{Row}
use Rattle.cat_model.specs.declared.types.Settings.{Settings}
use Rattle.cat_model.specs.declared.types.State.{State}
use Rattle.cat_row_format.specs.Text.{issue_data, kept_data, offer_data, row_data}
use Rattle.cat_row_format.specs.declared.row.StoredRow.{StoredRow}
use Rattle.cat_stored_rows.specs.Stored.{all_rows, emitted, emitted_as, emitted_by, given_rows, is_blank, item_rows, kept_in, offer_row, orphan_row, output_row, pairs_cmp, provider_row, record_row, shelf_row, tree_rows}
use Rattle.cat_stored_rows.specs.Told.{AreNarrow}
use Rattle.cat_stored_rows.specs.declared.version.Version.TheVariants.{Two}
use Rattle.cat_stored_rows.proofs.In.{In, found_in, from_flat, from_map, from_puts, in_all, none_some}
use Rattle.cat_layers.specs.Layered.{layered}
use Rattle.cat_laws.proofs.Forms.{row_form}
use Rattle.cat_layers.proofs.Forms.{entity_is, offer_is}
use Rattle.cat_row_updates.proofs.Views.{by_parts}
use Rattle.cat_form_laws.specs.Real.{real_forms}

-- the numbers in the value of a row have 64 bits
abbrev HasNarrow : StoredRow → Type 0
HasNarrow row = IsNarrow (row_data row)

-- ---- items, trees and issues

given_narrow : (o : Origin) (a : ℕ) (reference key : Text) (tree : Data) → a < 2 ^ 64 → IsNarrow tree
    → (b : StoredRow) → In b (item_rows a reference key o ++ tree_rows Two a tree) → HasNarrow b
given_narrow (OfProvider name) a reference key tree s n b (inl e) = subst HasNarrow (sym e) (s, (tt, tt))
given_narrow (OfProvider name) a reference key tree s n b (inr (inl e)) = subst HasNarrow (sym e) n
given_narrow (OfProvider name) a reference key tree s n b (inr (inr h)) = absurd h
given_narrow (Entity emitter) a reference key tree s n b (inl e) = subst HasNarrow (sym e) n
given_narrow (Entity emitter) a reference key tree s n b (inr h) = absurd h

issues_narrow : (issues : List Issue) → ItemsNarrow (items_of (map issue_data issues))
issues_narrow [] = tt
issues_narrow (x ∷ issues) = ((tt, (tt, (tt, tt))), issues_narrow issues)

module _ (s : Settings) (m : State) (sound : Sound layered m) (small : AreSmall m) (formed : Formed real_forms m) where
  -- ---- arrival numbers

  row_found : (e : ℕ × Row) → In e m.rows → row_at m.rows e.0 ≡ Some e.1
  row_found e i = found_in nat_cmp_total nat_cmp-IsAntisymmetric m.rows sound.rows_in_order e.0 e.1 i

  arrival_small : (e : ℕ × Row) → In e m.rows → e.0 < 2 ^ 64
  arrival_small e i = omega (arith, sound.offers.below e.0 e.1 (row_found e i), small.arrival)

  holder_small : (r : Ref) → unwrap_or (get m.holders r) 0 < 2 ^ 64
  holder_small r = go (get m.holders r) refl
    where
      go : (v : Option ℕ) → get m.holders r ≡ v → unwrap_or v 0 < 2 ^ 64
      go None f = omega arith
      go (Some a) f =
          let of : IsRowOf m.rows r a = sound.holders.rows_of r a f in
          omega (arith, sound.offers.below a of.row of.at, small.arrival)

  noted : (k : Text × Text) (a b : ℕ) (reference : Text) (o : Origin) → In (k, a) (emitted_by b reference o) → a ≡ b
  noted k a b reference (OfProvider name) h = absurd h
  noted k a b reference (Entity emitter) (inl e) = ap (λ x. x.1) e
  noted k a b reference (Entity emitter) (inr h) = absurd h

  emitted_small : (k : Text × Text) → unwrap_or (find pairs_cmp k (emitted m.rows)) 0 < 2 ^ 64
  emitted_small k = go (find pairs_cmp k (emitted m.rows)) refl
    where
      at : (a : ℕ) → In (k, a) (flat_map emitted_as m.rows) ⊎ (None ≡ Some a) → a < 2 ^ 64
      at a (inl h) =
          let from = from_flat emitted_as (k, a) m.rows h in
          subst (λ b. b < 2 ^ 64) (sym (noted k a from.0.0 from.0.1.reference from.0.1.origin from.2)) (arrival_small from.0 from.1)
      at a (inr h) = absurd (none_some h)

      go : (v : Option ℕ) → find pairs_cmp k (emitted m.rows) ≡ v → unwrap_or v 0 < 2 ^ 64
      go None f = omega arith
      go (Some a) f = at a (from_puts (pair_total text_total text_total) (pair_antisymmetric text_antisymmetric text_antisymmetric) (flat_map emitted_as m.rows) [] k a f)

  -- ---- the numbers of records and orphans

  number_small : (r : Ref) (k : ℕ) → its_number m r ≡ Some k → k < 2 ^ 64
  number_small r k e = omega (arith, sound.numbers.below r k e, small.number)

  orphan_number : (r : Ref) (x : Orphan) → get m.orphans r ≡ Some x → x.number < 2 ^ 64
  orphan_number r x f = go (get m.records r) refl
    where
      go : (v : Option Recorded) → get m.records r ≡ v → x.number < 2 ^ 64
      go None e = number_small r x.number (ap (λ v. number_in v (get m.orphans r)) e ∙ ap (number_in None) f)
      go (Some y) e = absurd (none_some (sym (sound.orphans r (sym (sound.records r) ∙ ap is_some e)) ∙ f))

  -- ---- outputs

  offers_narrow : (r : Text) (xs : List (Text × Offered)) → ItemsNarrow (items_of (map offer_data (map (offer_row (emitted m.rows) r) xs)))
  offers_narrow r [] = tt
  offers_narrow r (x ∷ xs) = ((emitted_small (r, x.0), (tt, (tt, tt))), offers_narrow r xs)

  output_narrow : (r : Text) (x : Recorded) → get m.records r ≡ Some x → (v : Option Output) → x.output ≡ v → IsNarrow (kept_data (option_map (output_row (emitted m.rows) r) v))
  output_narrow r x f None e = tt
  output_narrow r x f (Some output) e = ((entity_is output.entity r (formed.outputs r x output f e).entity).within.narrow, (offers_narrow r output.offers, tt))

  -- ---- all rows

  provider_narrow : (b : StoredRow) → In b (map provider_row m.providers) → HasNarrow b
  provider_narrow b i =
      let from = from_map provider_row b m.providers i in
      let source = formed.providers from.0.0 from.0.1 (found_in text_total text_antisymmetric m.providers formed.providers_in_order from.0.0 from.0.1 from.1) in
      let serial : from.0.1.serial < 2 ^ 64 = omega (arith, source.small) in
      subst HasNarrow (sym from.2) (serial, tt)

  row_narrow : (b : StoredRow) → In b (flat_map given_rows m.rows) → HasNarrow b
  row_narrow b i =
      let from = from_flat given_rows b m.rows i in
      let row : Row = from.0.1 in
      let offer = offer_is row.offered row.reference (row_form layered real_forms s m sound formed from.0.0 row (row_found from.0 from.1)) in
      given_narrow row.origin from.0.0 row.reference row.offered.key row.offered.tree (arrival_small from.0 from.1) offer.within.narrow b from.2

  text_narrow : (b : StoredRow) → In b (map shelf_row m.shelf) → HasNarrow b
  text_narrow b i = subst HasNarrow (sym (from_map shelf_row b m.shelf i).2) tt

  kept_narrow : (b : StoredRow) → In b (map (record_row m.holders (emitted m.rows)) m.records) → HasNarrow b
  kept_narrow b i =
      let from = from_map (record_row m.holders (emitted m.rows)) b m.records i in
      let r : Text = from.0.0 in
      let x : Recorded = from.0.1 in
      let found : get m.records r ≡ Some x = found_in text_total text_antisymmetric m.records sound.in_order r x from.1 in
      let number = number_small r x.number (ap (λ v. number_in v (get m.orphans r)) found) in
      subst HasNarrow (sym from.2) (holder_small r, (issues_narrow x.issues, (number, (output_narrow r x found x.output refl, tt))))

  orphan_narrow : (b : StoredRow) → In b (map orphan_row m.orphans) → HasNarrow b
  orphan_narrow b i =
      let from = from_map orphan_row b m.orphans i in
      let r : Text = from.0.0 in
      let x : Orphan = from.0.1 in
      let found : get m.orphans r ≡ Some x = found_in text_total text_antisymmetric m.orphans formed.orphans_in_order r x from.1 in
      subst HasNarrow (sym from.2) ((entity_is x.entity r (formed.orphans r x found)).within.narrow, (orphan_number r x found, tt))

  pub rows_narrow : AreNarrow m
  rows_narrow rule = go (is_blank rule m)
    where
      arrival : m.arrival < 2 ^ 64
      arrival = omega (arith, small.arrival)

      number : m.number < 2 ^ 64
      number = omega (arith, small.number)

      go : (b : Bool) → AllByRecursion HasNarrow (if b then [] else all_rows rule m)
      go true = tt
      go false = (arrival, (number, ((tt, (omega arith, tt)), in_all HasNarrow (kept_in Two m) (by_parts Two m HasNarrow provider_narrow row_narrow text_narrow kept_narrow orphan_narrow))))
