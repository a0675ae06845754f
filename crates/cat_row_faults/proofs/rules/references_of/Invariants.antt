use Rattle.std.proofs.Common.{◌≡◌, take}
use Rattle.cat_row_faults.specs.Rules.{references_of}
use Rattle.cat_row_faults.proofs.rules.references_of.Given as goal

abbrev pub invariant-loop-offer : goal.invariant-loop-offer
invariant-loop-offer l = l.references.items ≡ references_of (take l.offer-index l.offers)
