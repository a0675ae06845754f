-- What becomes of the rows of one origin, and which references lose their holder by it.
use Rattle.std.specs.Prelude.{◌≡◌, ℕ, ◌<◌, Bool, false, cond, ◌&&◌, is_none}
use Rattle.std.specs.declared.option.Option.{Option}
use Rattle.std.specs.declared.option.Option.TheVariants.{None, Some}
use Rattle.std.specs.Ordering.{nat_cmp}
use Rattle.cat_collections.specs.Table.{get, over}
use Rattle.cat_types.specs.declared.input.Offered.{Offered}
use Rattle.cat_model.specs.Catalogue.{Holders, Ref, Rows, row_at}
use Rattle.cat_model.specs.Step.{is_offer, row_after}
use Rattle.cat_model.specs.declared.types.Origin.{Origin}
use Rattle.cat_model.specs.declared.types.Row.{Row}

-- the rows, where those of the origin that are chosen by arrival and reference are as the offers have them
abbrev pub renewed : Origin → (Ref → Option Offered) → (ℕ → Ref → Bool) → Rows → Rows
renewed o offers chosen rows = over nat_cmp rows (λ a row. cond (chosen a row.reference) (row_after o offers row) (Some row))

-- whether the row with this arrival was of this origin and reference, and is gone
abbrev pub is_gone : Origin → Rows → Rows → Ref → Option ℕ → Bool
is_gone o before after r None = false
is_gone o before after r (Some a) = is_offer o r (row_at before a) && is_none (row_at after a)

-- whether a reference was held by a row of this origin that is gone
abbrev pub loses : Origin → Rows → Rows → Holders → Ref → Bool
loses o before after holders r = is_gone o before after r (get holders r)

-- all arrivals are below this one
abbrev pub AreBelow : Rows → ℕ → Type 0
AreBelow rows next = (a : ℕ) (row : Row) → row_at rows a ≡ Some row → a < next
