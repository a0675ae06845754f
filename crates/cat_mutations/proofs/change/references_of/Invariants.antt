use Rattle.std.proofs.Common.{◌≡◌, take}
use Rattle.std.specs.List.{filter_map}
use Rattle.std.specs.Option.{option_map}
use Rattle.cat_model.specs.Rows.{row_at}
use Rattle.cat_mutations.proofs.change.references_of.Given as goal

abbrev pub invariant-loop-arrival : goal.invariant-loop-arrival
invariant-loop-arrival l = l.references.items ≡ filter_map (λ a. option_map (λ row. row.reference) (row_at l.rows a)) (take l.arrival-index l.arrivals)
