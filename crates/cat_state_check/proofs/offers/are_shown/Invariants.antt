use Rattle.std.proofs.Common.{◌≡◌, drop}
use Rattle.std.specs.List.{list_all}
use Rattle.cat_model.specs.declared.types.Origin.TheVariants.{Entity}
use Rattle.cat_state_check.specs.Candidate.{is_shown}
use Rattle.cat_state_check.proofs.offers.are_shown.Given as goal

abbrev pub invariant-loop-reference : goal.invariant-loop-reference
invariant-loop-reference l = list_all (λ x. is_shown l.rows l.index (Entity l.emitter) x.0) (drop l.reference-index l.reference-items) ≡ list_all (λ x. is_shown l.rows l.index (Entity l.emitter) x.0) l.reference-items
