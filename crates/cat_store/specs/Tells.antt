-- What is asked of a state before its rows count as telling it, beside what holds between two events.
use Rattle.std.specs.Prelude.{ℕ, ◌^◌, Bool, true, ◌&&◌, nat_lt, ⊤}
use Rattle.std.specs.declared.option.Option.{Option}
use Rattle.std.specs.declared.option.Option.TheVariants.{None, Some}
use Rattle.std.specs.FinMap.Entries.{is_sorted}
use Rattle.std.specs.List.{AllByRecursion, list_all}
use Rattle.cat_tree.specs.Proper.{IsProper}
use Rattle.cat_collections.specs.Table.{Text, text_cmp}
use Rattle.cat_types.specs.declared.input.Offered.{Offered}
use Rattle.cat_types.specs.declared.work.Output.{Output}
use Rattle.cat_model.specs.Catalogue.{Ref}
use Rattle.cat_model.specs.declared.types.Orphan.{Orphan}
use Rattle.cat_model.specs.declared.types.ProviderInputs.{ProviderInputs}
use Rattle.cat_model.specs.declared.types.Record.{Record}
use Rattle.cat_model.specs.declared.types.Row.{Row}
use Rattle.cat_model.specs.declared.types.State.{State}
use Rattle.cat_store.specs.Narrow.{is_narrow}

-- whether a provider's serial has 64 bits, and its items are in order
abbrev pub is_right_provider : Text × ProviderInputs → Bool
is_right_provider e = nat_lt e.1.serial (2 ^ 64) && is_sorted text_cmp e.1.items

-- whether the numbers of a row have 64 bits
abbrev pub is_narrow_row : ℕ × Row → Bool
is_narrow_row e = nat_lt e.0 (2 ^ 64) && is_narrow e.1.offered.tree

-- whether the numbers of an offer have 64 bits
abbrev pub is_narrow_offer : Ref × Offered → Bool
is_narrow_offer e = is_narrow e.1.tree

-- whether the numbers of a kept output have 64 bits
abbrev pub is_narrow_output : Option Output → Bool
is_narrow_output None = true
is_narrow_output (Some output) = is_narrow output.entity && list_all is_narrow_offer output.offers

-- whether the numbers of a record have 64 bits
abbrev pub is_narrow_record : Ref × Record → Bool
is_narrow_record e = nat_lt e.1.number (2 ^ 64) && is_narrow_output e.1.output

-- whether the numbers of an orphan have 64 bits
abbrev pub is_narrow_orphan : Ref × Orphan → Bool
is_narrow_orphan e = nat_lt e.1.number (2 ^ 64) && is_narrow e.1.entity

-- whether the providers, their items and the shelf are in order, and the numbers of all that is kept have 64 bits
unfoldable pub is_telling : State → Bool
is_telling m =
    is_sorted text_cmp m.providers
    && is_sorted text_cmp m.shelf
    && list_all is_right_provider m.providers
    && list_all is_narrow_row m.rows
    && list_all is_narrow_record m.records
    && list_all is_narrow_orphan m.orphans

-- the keys of each map of a row's tree rise
abbrev pub IsProperRow : ℕ × Row → Type 0
IsProperRow e = IsProper e.1.offered.tree

-- those of the entity of a kept output rise
abbrev pub IsProperOutput : Option Output → Type 0
IsProperOutput None = ⊤
IsProperOutput (Some output) = IsProper output.entity

-- the same of a record
abbrev pub IsProperRecord : Ref × Record → Type 0
IsProperRecord e = IsProperOutput e.1.output

-- the same of an orphan
abbrev pub IsProperOrphan : Ref × Orphan → Type 0
IsProperOrphan e = IsProper e.1.entity

-- the keys of each map that a state keeps rise
pub record AreProper (m : State) : Type 0 where
  pub rows : AllByRecursion IsProperRow m.rows
  pub records : AllByRecursion IsProperRecord m.records
  pub orphans : AllByRecursion IsProperOrphan m.orphans
