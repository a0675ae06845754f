use Rattle.std.proofs.Common.{◌≡◌, map, take}
use Rattle.cat_model.specs.Given.{offered_by}
use Rattle.cat_mutations.proofs.given.offers.Given as goal

abbrev pub invariant-loop-item : goal.invariant-loop-item
invariant-loop-item l = l.entries.items ≡ map (offered_by l.provider) (take l.item-index l.items)
