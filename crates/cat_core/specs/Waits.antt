-- Which row that waits comes next, said without a list of those rows.
use Rattle.std.specs.Prelude.{ℕ, Bool, true, ◌&&◌, List, [], ◌∷◌, map, is_some}
use Rattle.std.specs.declared.cmp.Ordering.{Ordering}
use Rattle.std.specs.declared.option.Option.{Option}
use Rattle.std.specs.declared.option.Option.TheVariants.{None, Some}
use Rattle.std.specs.Ordering.{is_gt}
use Rattle.cat_model.specs.declared.types.Row.{Row}
use Rattle.cat_model.specs.declared.types.State.{State}
use Rattle.cat_model.specs.Catalogue.{row_at}
use Rattle.cat_model.specs.Reply.{RowPlace, place_cmp, waits}
use Rattle.cat_core.specs.Least.{least, nearer}

-- the reference and the arrival of a row
abbrev pub place_of : ℕ × Row → RowPlace
place_of e = (e.1.reference, e.0)

-- the row at a place, where it doesn't hold its reference
abbrev pub waits_at : State → RowPlace → Option Row
waits_at m k = waits m k.1 (row_at m.rows k.1)

-- whether a key is above another, if there is one
abbrev pub is_above : {K : Type 0} → (K → K → Ordering) → Option K → K → Bool
is_above R None k = true
is_above R (Some b) k = is_gt (R k b)

-- the least place above another, if there is one, of a row that doesn't hold its reference
abbrev pub next_waiting : State → Option RowPlace → Option RowPlace
next_waiting m after = least place_cmp (λ k. is_some (waits_at m k) && is_above place_cmp after k) (map place_of m.rows) None

-- of these rows, the least place above another, if there is one, of a row that doesn't hold its reference
abbrev pub nearest : State → Option RowPlace → List (ℕ × Row) → Option RowPlace
nearest m after [] = None
nearest m after (e ∷ es) = nearer place_cmp (is_above place_cmp after (place_of e) && is_some (waits m e.0 (Some e.1))) (place_of e) (nearest m after es)
