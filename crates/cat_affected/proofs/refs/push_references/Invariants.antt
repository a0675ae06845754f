use Rattle.std.proofs.Common.{◌≡◌, ◌++◌, take}
use Rattle.std.specs.List.{filter_map}
use Rattle.std.specs.Option.{option_map}
use Rattle.cat_model.specs.Rows.{row_at}
use Rattle.cat_affected.proofs.refs.push_references.Given as goal

abbrev pub invariant-loop-arrival : goal.invariant-loop-arrival
invariant-loop-arrival l = l.refs.items ≡ l.fn.refs.items ++ filter_map (λ a. option_map (λ row. row.reference) (row_at l.rows a)) (take l.arrival-index l.arrivals)
