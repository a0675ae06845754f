-- What an event leaves of the rows of a state, and what is asked of the states before and after it.
use Rattle.std.specs.Prelude.{◌≡◌, ◌≤◌, ◌^◌, Bool, false, List, IsTrue}
use Rattle.std.specs.declared.option.Option.{Option}
use Rattle.std.specs.declared.option.Option.TheVariants.{None, Some}
use Rattle.std.specs.FinMap.Entries.{is_sorted}
use Rattle.std.specs.List.{list_any}
use Rattle.std.specs.Ordering.{eq_by_cmp, nat_cmp}
use Rattle.cat_types.specs.Names.{is_name}
use Rattle.cat_collections.specs.Table.{Text, find, get, same_text, text_cmp}
use Rattle.cat_model.specs.Sound.{AreOffers}
use Rattle.cat_model.specs.declared.types.ProviderInputs.{ProviderInputs}
use Rattle.cat_model.specs.declared.types.State.{State}
use Rattle.cat_keeper.specs.Store.{RowKey, row_cmp}
use Rattle.cat_stored_rows.specs.Stored.{Stored}
use Rattle.cat_affected.specs.Reach.{AreSameBeyond}
use Rattle.cat_row_updates.specs.declared.reached.Reached.{Reached}

-- whether a text is this one, if there is one
abbrev pub is_it : Text → Option Text → Bool
is_it t None = false
is_it t (Some q) = same_text t q

-- Beyond what is reached two states are the same in all that is stored of them but the counters.
pub record IsBeyond (x : Reached) (m n : State) : Type 0 where
  pub references : AreSameBeyond x.references.items m n
  pub providers : (q : Text) → is_it q x.provider ≡ false → get n.providers q ≡ get m.providers q
  pub shelf : (t : Text) → is_it t x.name ≡ false → get n.shelf t ≡ get m.shelf t

-- Each row of a state has a place of its own: the rows of the catalogue are the offers of its providers and kept outputs, providers have names, and
-- arrival numbers have 64 bits.
pub record IsKept (m : State) : Type 0 where
  pub offers : AreOffers m
  pub names : (p : Text) (x : ProviderInputs) → get m.providers p ≡ Some x → IsTrue (is_name p)
  pub small : m.arrival ≤ 2 ^ 64

-- the tables of which rows are made are in order
pub record AreSorted (m : State) : Type 0 where
  pub providers : IsTrue (is_sorted text_cmp m.providers)
  pub shelf : IsTrue (is_sorted text_cmp m.shelf)
  pub rows : IsTrue (is_sorted nat_cmp m.rows)
  pub records : IsTrue (is_sorted text_cmp m.records)
  pub orphans : IsTrue (is_sorted text_cmp m.orphans)

-- at each key that isn't among these the new rows have what the old ones had
abbrev pub AreSameBut : List RowKey → Stored → Stored → Type 0
AreSameBut keys old new = (k : RowKey) → list_any (eq_by_cmp row_cmp k) keys ≡ false → find row_cmp k new ≡ find row_cmp k old
