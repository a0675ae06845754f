use Rattle.std.proofs.Common.{◌≡◌, drop}
use Rattle.std.specs.List.{list_any}
use Rattle.cat_model.specs.Catalogue.{row_at}
use Rattle.cat_model.specs.Rows.{is_from}
use Rattle.cat_claims.proofs.replaced.any_from.Given as goal

abbrev pub invariant-loop-arrival : goal.invariant-loop-arrival
invariant-loop-arrival l = list_any (λ a. is_from l.origin (row_at l.rows a)) (drop l.arrival-index l.arrivals) ≡ list_any (λ a. is_from l.origin (row_at l.rows a)) l.arrivals
