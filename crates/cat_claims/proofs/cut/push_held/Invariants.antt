use Rattle.std.proofs.Common.{◌≡◌, ◌++◌, take}
use Rattle.std.specs.List.{filter_map}
use Rattle.cat_model.specs.Catalogue.{row_at}
use Rattle.cat_model.specs.Mend.{held_by}
use Rattle.cat_claims.proofs.cut.push_held.Given as goal

abbrev pub invariant-loop-arrival : goal.invariant-loop-arrival
invariant-loop-arrival l = l.refs.items ≡ l.fn.refs.items ++ filter_map (λ a. held_by l.holders a (row_at l.rows a)) (take l.arrival-index l.arrivals)
