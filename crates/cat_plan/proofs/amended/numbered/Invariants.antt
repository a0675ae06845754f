use Rattle.std.proofs.Common.{◌≡◌, ◌+◌, ◌++◌, drop}
use Rattle.cat_model.specs.Catalogue.{tickets}
use Rattle.cat_plan.proofs.amended.numbered.Given as goal

abbrev pub invariant-loop-reference : goal.invariant-loop-reference
invariant-loop-reference l = (l.number ≡ l.first + l.reference-index) × (l.made.items ++ tickets l.number (drop l.reference-index l.refs) ≡ tickets l.first l.refs)
