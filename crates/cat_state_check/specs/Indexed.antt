-- The rows of a candidate by origin and reference, and its references by number.
use Rattle.std.specs.Prelude.{ℕ, List, [], ◌∷◌}
use Rattle.std.specs.declared.option.Option.{Option}
use Rattle.std.specs.Ordering.{nat_cmp}
use Rattle.cat_collections.specs.Pairs.{pair_cmp}
use Rattle.cat_collections.specs.Table.{Map, find, put, text_cmp}
use Rattle.cat_model.specs.Catalogue.{Ref, Rows}
use Rattle.cat_model.specs.declared.types.Origin.{Origin}
use Rattle.cat_model.specs.declared.types.Origin.TheVariants.{Provider, Entity}
use Rattle.cat_state_check.specs.declared.offers.RowIndex.{RowIndex}

-- the arrival that is kept for an origin and a reference
abbrev pub arrival_in : RowIndex → Origin → Ref → Option ℕ
arrival_in index (Provider p) r = find (pair_cmp text_cmp text_cmp) (p, r) index.provided
arrival_in index (Entity e) r = find (pair_cmp text_cmp text_cmp) (e, r) index.emitted

-- an arrival is kept for an origin and a reference
abbrev pub with_arrival : Origin → Ref → ℕ → RowIndex → RowIndex
with_arrival (Provider p) r a index = record index { provided = put (pair_cmp text_cmp text_cmp) (p, r) a index.provided }
with_arrival (Entity e) r a index = record index { emitted = put (pair_cmp text_cmp text_cmp) (e, r) a index.emitted }

-- the arrival of each of these rows is kept, the later one where two are of one origin and reference
abbrev pub with_rows : Rows → RowIndex → RowIndex
with_rows [] index = index
with_rows (e ∷ es) index = with_rows es (with_arrival e.1.origin e.1.reference e.0 index)

-- the arrivals of these rows, by origin and reference
abbrev pub row_index : Rows → RowIndex
row_index rows = with_rows rows (record { provided = []; emitted = [] })

-- references by number
abbrev pub Names : Type 0
Names = List (ℕ × Ref)

-- a reference is kept for the number of each of these entries, the later one where two have one number
abbrev pub with_names : {X : Type 0} → (X → ℕ) → Map X → Names → Names
with_names number [] names = names
with_names number (e ∷ es) names = with_names number es (put nat_cmp (number e.1) e.0 names)
