-- Lists in order.
use Rattle.std.specs.Prelude.{List}
use Rattle.std.specs.declared.cmp.Ordering.{Ordering}
use Rattle.std.specs.declared.option.Option.TheVariants.{Some}
use Rattle.cat_collections.specs.Table.{keys, tabulate}

-- the items in order, each once
abbrev pub in_order : {K : Type 0} → (K → K → Ordering) → List K → List K
in_order R items = keys (tabulate R items (λ x. Some (tt {0})))
