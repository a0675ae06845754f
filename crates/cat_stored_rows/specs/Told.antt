-- What holds of a state that its rows tell.
use Rattle.std.specs.Prelude.{◌≡◌, T, is_some}
use Rattle.std.specs.declared.option.Option.TheVariants.{Some}
use Rattle.std.specs.FinMap.Entries.{is_sorted}
use Rattle.std.specs.List.{AllByRecursion}
use Rattle.std.specs.Ordering.{nat_cmp}
use Rattle.cat_tree.specs.Proper.{IsNarrow}
use Rattle.cat_collections.specs.Table.{Text, get, text_cmp}
use Rattle.cat_model.specs.Catalogue.{Ref, held}
use Rattle.cat_model.specs.Sound.{AreOffers}
use Rattle.cat_model.specs.declared.types.OrphanRule.{OrphanRule}
use Rattle.cat_model.specs.declared.types.ProviderInputs.{ProviderInputs}
use Rattle.cat_model.specs.declared.types.State.{State}
use Rattle.cat_row_format.specs.Text.{row_data}
use Rattle.cat_stored_rows.specs.First.{first_rows_of}
use Rattle.cat_stored_rows.specs.Stored.{rows_of}

-- each number in the values of the rows of a state has 64 bits
abbrev pub AreNarrow : State → Type 0
AreNarrow m = (rule : OrphanRule) → AllByRecursion (λ row. IsNarrow (row_data row)) (rows_of rule m)

-- each number in the values of the rows of a state in the first version has 64 bits
abbrev pub AreFirstNarrow : State → Type 0
AreFirstNarrow m = AllByRecursion (λ row. IsNarrow (row_data row)) (first_rows_of m)

-- Rows tell the state: those of the catalogue are the offers of its providers and kept outputs, just what is held has a record, numbers have 64
-- bits, and the tables are in order.
pub record IsTold (m : State) : Type 0 where
  pub offers : AreOffers m
  pub records : (r : Ref) → is_some (get m.records r) ≡ held m.holders r
  pub narrow : AreNarrow m
  pub items_in_order : (p : Text) (x : ProviderInputs) → get m.providers p ≡ Some x → T (is_sorted text_cmp x.items)
  pub providers_in_order : T (is_sorted text_cmp m.providers)
  pub shelf_in_order : T (is_sorted text_cmp m.shelf)
  pub rows_in_order : T (is_sorted nat_cmp m.rows)
  pub holders_in_order : T (is_sorted text_cmp m.holders)
  pub records_in_order : T (is_sorted text_cmp m.records)
  pub orphans_in_order : T (is_sorted text_cmp m.orphans)
