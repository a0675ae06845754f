-- The texts of a store that are read one after the other.
use Rattle.std.proofs.Common.{◌≡◌, [], ◌∷◌, ◌++◌, append-nil, append_assoc, sym, subst}
use Rattle.std.specs.declared.option.Option.{Option}
use Rattle.cat_collections.specs.Table.{Text}
use Rattle.cat_keeper.specs.Store.{RowKey, Rows}
use Rattle.cat_row_format.specs.declared.row.StoredRow.{StoredRow}
use Rattle.cat_row_faults.specs.Readings.{AreReadings, IsReading, Readings}

-- what is still to be read, behind one reading more
pub rest_read : (all : Rows) (l : Rows) (e : RowKey × Text) (es : Rows) (made : Readings) (o : Option StoredRow) → l ≡ e ∷ es
    → ((os : Readings) → AreReadings l os → AreReadings all (made ++ os)) → IsReading e o → (os : Readings) → AreReadings es os → AreReadings all ((made ++ o ∷ []) ++ os)
rest_read all l e es made o is so r os h = subst (AreReadings all) (sym (append_assoc made (o ∷ []) os)) (so (o ∷ os) (subst (λ k. AreReadings k (o ∷ os)) (sym is) (r, h)))

-- all are read
pub all_read : (all : Rows) (l : Rows) (made : Readings) → l ≡ [] → ((os : Readings) → AreReadings l os → AreReadings all (made ++ os)) → AreReadings all made
all_read all l made is so = subst (AreReadings all) (append-nil made) (so [] (subst (λ k. AreReadings k []) (sym is) tt))
