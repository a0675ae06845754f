-- The tables of a store: their numbers, their names and their order.
use Rattle.std.specs.Prelude.{◌≡◌, ℕ, zero, suc, refl, codes}
use Rattle.std.specs.declared.cmp.Ordering.{Ordering}
use Rattle.std.specs.Cmp.{IsTotalOrder, nat_cmp_total, on_total}
use Rattle.std.specs.FinMap.{IsAntisymmetric, nat_cmp-IsAntisymmetric}
use Rattle.std.specs.Ordering.{nat_cmp}
use Rattle.cat_collections.specs.Table.{Text}
use Rattle.cat_keeper.specs.declared.table.Table.{Table}
use Rattle.cat_keeper.specs.declared.table.Table.TheVariants.{Counters, Providers, Items, Shelf, Records, Orphans, Settings, Trees}
use mathlib.Core.Path.{ap, sym, ◌∙◌}

-- the number of a table, from 1 on
abbrev pub table_number : Table → ℕ
table_number Counters = 1
table_number Providers = 2
table_number Items = 3
table_number Shelf = 4
table_number Records = 5
table_number Orphans = 6
table_number Settings = 7
table_number Trees = 8

-- the name of a table
abbrev pub table_name : Table → Text
table_name Counters = codes "counters"
table_name Providers = codes "providers"
table_name Items = codes "items"
table_name Shelf = codes "shelf"
table_name Records = codes "records"
table_name Orphans = codes "orphans"
table_name Settings = codes "settings"
table_name Trees = codes "trees"

-- tables are ordered by their numbers
abbrev pub table_cmp : Table → Table → Ordering
table_cmp s t = nat_cmp (table_number s) (table_number t)

pub table_total : IsTotalOrder table_cmp
table_total = on_total table_number nat_cmp_total

-- the table of a number
abbrev table_from : ℕ → Table
table_from (suc (suc zero)) = Providers
table_from (suc (suc (suc zero))) = Items
table_from (suc (suc (suc (suc zero)))) = Shelf
table_from (suc (suc (suc (suc (suc zero))))) = Records
table_from (suc (suc (suc (suc (suc (suc zero)))))) = Orphans
table_from (suc (suc (suc (suc (suc (suc (suc zero))))))) = Settings
table_from (suc (suc (suc (suc (suc (suc (suc (suc n)))))))) = Trees
table_from n = Counters

table_back : (t : Table) → table_from (table_number t) ≡ t
table_back Counters = refl
table_back Providers = refl
table_back Items = refl
table_back Shelf = refl
table_back Records = refl
table_back Orphans = refl
table_back Settings = refl
table_back Trees = refl

pub table_antisymmetric : IsAntisymmetric table_cmp
table_antisymmetric s t e = sym (table_back s) ∙ (ap table_from (nat_cmp-IsAntisymmetric _ _ e) ∙ table_back t)
