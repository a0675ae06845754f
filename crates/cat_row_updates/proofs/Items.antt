-- The row that is found as an item is that of the provider and the reference.
use Rattle.std.proofs.Common.{◌≡◌, inl, inr, ℕ, Bool, true, false, List, [], ◌∷◌, refl, sym, ap, ◌∙◌, is_some}
use Rattle.std.specs.Prelude.{if◌then◌else◌}
use Rattle.std.specs.declared.option.Option.{Option}
use Rattle.std.specs.declared.option.Option.TheVariants.{None, Some}
use Rattle.cat_collections.specs.Table.{Text}
use Rattle.cat_model.specs.Rows.{Rows, row_at}
use Rattle.cat_model.specs.declared.types.Origin.TheVariants.{Provider}
use Rattle.cat_model.specs.declared.types.Row.{Row}
use Rattle.cat_row_format.specs.declared.row.StoredRow.{StoredRow}
use Rattle.cat_row_format.specs.declared.row.StoredRow.TheVariants.{Item}
use Rattle.cat_stored_rows.proofs.In.{In, none_some, same_some}
use Rattle.cat_row_updates.specs.Places.{is_of, item_among, item_as, or_else}
use Rattle.cat_row_updates.proofs.Members.{IsThatRow, is_of-holds, is_of-tells}

module _ (rows : Rows) (p r : Text) where
  -- a row is the item, of a row of the catalogue
  pub record IsItem (b : StoredRow) : Type 0 where
    pub arrival : ℕ
    pub row : Row
    pub at : row_at rows arrival ≡ Some row
    pub from : row.origin ≡ Provider p
    pub names : row.reference ≡ r
    pub is : b ≡ Item p r arrival row.offered.key

  pub item_is : (arrivals : List ℕ) (b : StoredRow) → item_among rows p r arrivals ≡ Some b → IsItem b
  item_is [] b e = absurd (none_some e)
  item_is (a ∷ arrivals) b e = go (row_at rows a) refl e (item_is arrivals b)
    where
      by : (row : Row) → row_at rows a ≡ Some row → (v : Bool) → is_of (Provider p) r (Some row) ≡ v
          → or_else (if v then Some (Item p r a row.offered.key) else None) (item_among rows p r arrivals) ≡ Some b → (item_among rows p r arrivals ≡ Some b → IsItem b) → IsItem b
      by row at true is e ih =
          let that : IsThatRow (Some row) (Provider p) r = is_of-tells (Provider p) r (Some row) is in
          let same : that.row ≡ row = same_some (sym that.is) in
          record { arrival = a; row = that.row; at = at ∙ that.is; from = that.from; names = that.names; is = sym (same_some e) ∙ ap (λ (x : Row). Item p r a x.offered.key) (sym same) }
      by row at false is e ih = ih e

      go : (v : Option Row) → row_at rows a ≡ v → or_else (item_as p r a v) (item_among rows p r arrivals) ≡ Some b → (item_among rows p r arrivals ≡ Some b → IsItem b) → IsItem b
      go None at e ih = ih e
      go (Some row) at e ih = by row at (is_of (Provider p) r (Some row)) refl e ih

  still : (v w : Option StoredRow) → is_some w ≡ true → is_some (or_else v w) ≡ true
  still None w e = e
  still (Some b) w e = refl

  -- where one of the rows is the item, something is found
  pub item_some : (arrivals : List ℕ) (a : ℕ) (row : Row) → In a arrivals → row_at rows a ≡ Some row → row.origin ≡ Provider p → row.reference ≡ r → is_some (item_among rows p r arrivals) ≡ true
  item_some [] a row h at from names = absurd h
  item_some (x ∷ arrivals) a row (inl is) at from names =
      ap (λ v. is_some (or_else (item_as p r x v) (item_among rows p r arrivals))) (ap (row_at rows) (sym is) ∙ at)
      ∙ ap (λ v. is_some (or_else (if v then Some (Item p r x row.offered.key) else None) (item_among rows p r arrivals))) (is_of-holds (Provider p) r row from names)
  item_some (x ∷ arrivals) a row (inr h) at from names = still (item_as p r x (row_at rows x)) (item_among rows p r arrivals) (item_some arrivals a row h at from names)
