-- The numbers of the rows of a state in the first version have 64 bits.
use Rattle.std.proofs.Common.{◌≡◌, inl, inr, ℕ, Bool, true, false, cond, List, [], ◌∷◌, map, refl, sym, ap, subst, ◌∙◌, true≢false, unwrap_or}
use Rattle.std.specs.declared.option.Option.{Option}
use Rattle.std.specs.declared.option.Option.TheVariants.{None, Some}
use Rattle.std.specs.List.{AllByRecursion, IsDistinct}
use Rattle.std.specs.Option.{option_map}
use Rattle.cat_tree.specs.Data.{items_of}
use Rattle.cat_tree.specs.Proper.{IsNarrow, ItemsNarrow}
use Rattle.cat_collections.specs.Table.{Text, get, keys, same_text}
use Rattle.cat_collections.proofs.Tables.{same_is, same_self, text_antisymmetric, text_total}
use Rattle.cat_types.specs.declared.input.Offered.{Offered}
use Rattle.cat_types.specs.declared.issue.Issue.{Issue}
use Rattle.cat_types.specs.declared.work.Output.{Output}
use Rattle.cat_model.specs.Catalogue.{Ref, row_at}
use Rattle.cat_model.specs.Sound.{HasRow}
use Rattle.cat_model.specs.declared.types.Origin.TheVariants.{Entity}
use Rattle.cat_model.specs.declared.types.OrphanRule.TheVariants.{Keep}
use Rattle.cat_model.specs.declared.types.Record.{Record as Recorded}
use Rattle.cat_model.specs.declared.types.Row.{Row}
use Rattle.cat_model.specs.declared.types.State.{State}
use Rattle.cat_keeper.specs.declared.table.Table.{Table}
use Rattle.cat_keeper.specs.declared.table.Table.TheVariants as table
use Rattle.cat_row_format.specs.Text.{offer_data, record_data, row_data, row_table}
use Rattle.cat_row_format.specs.declared.row.StoredRow.{StoredRow}
use Rattle.cat_row_format.specs.declared.row.StoredRow.TheVariants.{Counter, Provider, Item, Shelf, Orphan as OrphanRow, Tree}
use Rattle.cat_stored_rows.specs.First.{all_first}
use Rattle.cat_stored_rows.specs.Stored.{Emitted, all_rows, emitted, is_blank, offer_in, output_in, record_row}
use Rattle.cat_stored_rows.specs.declared.version.Version.TheVariants.{One, Two}
use Rattle.cat_stored_rows.specs.Told.{AreFirstNarrow, IsTold}
use Rattle.cat_row_updates.specs.Told.{IsPlaced}
use Rattle.cat_row_updates.proofs.Both.{firsts_are, no_firsts}
use Rattle.cat_stored_rows.proofs.In.{In, all_in, in_all}
use Rattle.cat_row_updates.proofs.One.{IsOne, data_of, what_first}
use Rattle.cat_row_updates.proofs.Parts.{offers_are}
use Rattle.cat_row_updates.proofs.Same.{rows_are}
use Rattle.cat_row_updates.proofs.Views.{has_counter, has_item, has_orphan, has_provider, has_record, has_text, has_tree, next_of}

-- ---- offers that are told apart by their references

apart_from : (r : Ref) (xs : List (Text × Offered)) → AllByRecursion (λ q. same_text r q ≡ false) (keys xs) → (z : Text × Offered) → In z xs → same_text z.0 r ≡ false
apart_from r [] h z g = absurd g
apart_from r (x ∷ xs) h z (inr g) = apart_from r xs h.1 z g
apart_from r (x ∷ xs) h z (inl e) = go (same_text z.0 r) refl
  where
    go : (b : Bool) → same_text z.0 r ≡ b → b ≡ false
    go false t = refl
    go true t =
        let is : r ≡ x.0 = sym (same_is text_total text_antisymmetric z.0 r t) ∙ ap (λ y. y.0) e in
        absurd (true≢false (sym (same_self text_total text_antisymmetric r) ∙ (ap (same_text r) is ∙ h.0)))

-- each of them is found
pub stands : (xs : List (Text × Offered)) → IsDistinct same_text (keys xs) → (z : Text × Offered) → In z xs → get xs z.0 ≡ Some z.1
unfolding IsDistinct
stands [] d z g = absurd g
stands (x ∷ xs) d z (inl e) = ap (λ b. cond b (Some x.1) (get xs z.0)) (ap (same_text z.0) (sym (ap (λ y. y.0) e)) ∙ same_self text_total text_antisymmetric z.0) ∙ ap (λ y. Some y.1) (sym e)
stands (x ∷ xs) d z (inr g) = ap (λ b. cond b (Some x.1) (get xs z.0)) (apart_from x.0 xs d.0 z g) ∙ stands xs d.1 z g

-- ---- records

module _ (arrivals : Emitted) (r : Ref) where
  offers_narrow : (xs : List (Text × Offered)) → ((z : Text × Offered) → In z xs → IsNarrow z.1.tree)
      → ItemsNarrow (items_of (map offer_data (map (offer_in Two arrivals r) xs))) → ItemsNarrow (items_of (map offer_data (map (offer_in One arrivals r) xs)))
  offers_narrow [] f h = tt
  offers_narrow (x ∷ xs) f h = ((h.0.0, (tt, (tt, (f x (inl refl), tt)))), offers_narrow xs (λ z g. f z (inr g)) h.1)

  record_narrow : (holder : ℕ) (issues : List Issue) (n : ℕ) (v : Option Output) → ((output : Output) → v ≡ Some output → (z : Text × Offered) → In z output.offers → IsNarrow z.1.tree)
      → IsNarrow (record_data holder issues n (option_map (output_in Two arrivals r) v)) → IsNarrow (record_data holder issues n (option_map (output_in One arrivals r) v))
  record_narrow holder issues n None f h = h
  record_narrow holder issues n (Some output) f h =
      (h.0, (h.1.0, (h.1.1.0, ((h.1.1.1.0.0, (offers_narrow output.offers (f output refl) h.1.1.1.0.1.0, tt)), tt))))

-- ---- all rows

module _ (m : State) (t : IsTold m) (placed : IsPlaced m) (narrow : (b : StoredRow) → In b (all_rows Keep m) → IsNarrow (row_data b)) where
  tree_narrow : (a : ℕ) (row : Row) → row_at m.rows a ≡ Some row → IsNarrow row.offered.tree
  tree_narrow a row f = narrow (Tree a row.offered.tree) (has_tree Keep m a row f)

  offered_narrow : (r : Ref) (x : Recorded) → get m.records r ≡ Some x → (output : Output) → x.output ≡ Some output → (z : Text × Offered) → In z output.offers → IsNarrow z.1.tree
  offered_narrow r x f output is z g =
      let shown : HasRow m.rows (Entity r) z.0 z.1 = t.offers.shown (Entity r) z.0 z.1 (offers_are m r z.0 x output f is ∙ stands output.offers (placed.once r x output f is) z g) in
      tree_narrow shown.arrival (record { origin = Entity r; reference = z.0; offered = z.1 }) shown.row

  is_narrow : (s : Table) (b : StoredRow) → IsOne m s b → IsNarrow (row_data b)
  is_narrow table.Counters b h = subst (λ c. IsNarrow (row_data c)) (sym h.1) (narrow (Counter h.0 (next_of m h.0)) (has_counter Keep m h.0))
  is_narrow table.Providers b h = subst (λ c. IsNarrow (row_data c)) (sym h.3) (narrow (Provider h.0 h.1.serial) (has_provider Keep m h.0 h.1 h.2))
  is_narrow table.Items b h =
      let item : IsNarrow (row_data (Item h.2 h.1.reference h.0 h.1.offered.key)) = narrow (Item h.2 h.1.reference h.0 h.1.offered.key) (has_item Keep m h.0 h.1 h.2 h.3 h.4) in
      subst (λ c. IsNarrow (row_data c)) (sym h.5) (item.0, (tt, (tree_narrow h.0 h.1 h.3, tt)))
  is_narrow table.Shelf b h = subst (λ c. IsNarrow (row_data c)) (sym h.3) (narrow (Shelf h.0 h.1) (has_text Keep m h.0 h.1 h.2))
  is_narrow table.Records b h =
      let second : IsNarrow (row_data (record_row m.holders (emitted m.rows) (h.0, h.1))) = narrow (record_row m.holders (emitted m.rows) (h.0, h.1)) (has_record Keep m h.0 h.1 h.2) in
      subst IsNarrow (sym (ap row_data h.3 ∙ data_of m h.0 h.1))
      (record_narrow (emitted m.rows) h.0 (unwrap_or (get m.holders h.0) 0) h.1.issues h.1.number h.1.output (offered_narrow h.0 h.1 h.2) second)
  is_narrow table.Orphans b h = subst (λ c. IsNarrow (row_data c)) (sym h.3) (narrow (OrphanRow h.0 h.1.entity h.1.number) (has_orphan Keep m h.0 h.1 h.2))
  is_narrow table.Settings b h = absurd h
  is_narrow table.Trees b h = absurd h

  all_narrow : AllByRecursion (λ row. IsNarrow (row_data row)) (all_first m)
  all_narrow = in_all (λ row. IsNarrow (row_data row)) (all_first m) (λ b h. is_narrow (row_table b) b (what_first m t b h))

pub firsts_narrow : (m : State) → IsTold m → IsPlaced m → AreFirstNarrow m
firsts_narrow m t placed = go (is_blank Keep m) refl
  where
    go : (b : Bool) → is_blank Keep m ≡ b → AreFirstNarrow m
    go true e = subst (AllByRecursion (λ row. IsNarrow (row_data row))) (sym (no_firsts m e)) tt
    go false e =
        let rows : AllByRecursion (λ row. IsNarrow (row_data row)) (all_rows Keep m) = subst (AllByRecursion (λ row. IsNarrow (row_data row))) (rows_are Keep m e) (t.narrow Keep) in
        subst (AllByRecursion (λ row. IsNarrow (row_data row))) (sym (firsts_are m e))
        (all_narrow m t placed (all_in (λ row. IsNarrow (row_data row)) (all_rows Keep m) rows))
