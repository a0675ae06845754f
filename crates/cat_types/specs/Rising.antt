-- Whether the keys of entries are known to rise.
use Rattle.std.specs.Prelude.{Bool, true, false, T, List}
use Rattle.std.specs.declared.cmp.Ordering.{Ordering}
use Rattle.std.specs.FinMap.Entries.{is_sorted}

-- where it is said that the keys rise, they do
abbrev pub RiseWhere : {K X : Type 0} → (K → K → Ordering) → Bool → List (K × X) → Type 0
RiseWhere R true m = T (is_sorted R m)
RiseWhere R false m = Unit {0}
