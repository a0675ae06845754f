-- Rows that differ at given keys alone, and what leads from the one to the other at a key.
use Rattle.std.specs.Prelude.{◌≡◌, ◌≢◌, Bool, false, List, option_map}
use Rattle.std.specs.declared.option.Option.{Option}
use Rattle.std.specs.declared.option.Option.TheVariants.{None, Some}
use Rattle.std.specs.List.{list_any}
use Rattle.std.specs.Ordering.{eq_by_cmp}
use Rattle.cat_collections.specs.Table.{Text, find, put_some}
use Rattle.cat_keeper.specs.Store.{Changes, RowKey, row_cmp}
use Rattle.cat_keeper.specs.declared.rows.Change.{Change}
use Rattle.cat_keeper.specs.declared.rows.Change.TheVariants.{Put, Gone}
use Rattle.cat_row_format.specs.declared.row.StoredRow.{StoredRow}
use Rattle.cat_stored_rows.specs.Stored.{Stored, text_in}

-- whether a key is among these
abbrev pub is_among : RowKey → List RowKey → Bool
is_among k keys = list_any (eq_by_cmp row_cmp k) keys

-- the new rows are the old ones, but at these keys
abbrev pub AreSameBut : List RowKey → Stored → Stored → Type 0
AreSameBut keys old new = (k : RowKey) → is_among k keys ≡ false → find row_cmp k new ≡ find row_cmp k old

-- no change stands at a key whose row stays as it is
abbrev pub AreNeeded : {X : Type 0} → List (RowKey × X) → List (RowKey × X) → Changes → Type 0
AreNeeded old new changes = (k : RowKey) → find row_cmp k new ≡ find row_cmp k old → find row_cmp k changes ≡ None

-- the text that a change leaves at its key; none where the row is gone
abbrev pub text_after : Change → Option Text
text_after (Put text) = Some text
text_after Gone = None

-- a change comes just where what is there now isn't what was there, and leaves its text
abbrev pub IsTurn : Option StoredRow → Option StoredRow → Option Change → Type 0
IsTurn was is None = is ≡ was
IsTurn was is (Some change) = (is ≢ was) × (text_after change ≡ option_map text_in is)

-- the changes after are those before with one put that leads from the old row at a key to the new one; or the same, where that row stays
abbrev pub IsTurnedAt : RowKey → Stored → Stored → Changes → Changes → Type 0
IsTurnedAt key old new before after =
    (change : Option Change) × IsTurn (find row_cmp key old) (find row_cmp key new) change × (after ≡ put_some row_cmp key change before)
