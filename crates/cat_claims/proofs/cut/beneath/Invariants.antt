use Rattle.std.proofs.Common.{◌≡◌, take}
use Rattle.std.specs.List.{flat_map}
use Rattle.cat_model.specs.Mend.{children}
use Rattle.cat_claims.proofs.cut.beneath.Given as goal

abbrev pub invariant-loop-entity : goal.invariant-loop-entity
invariant-loop-entity l = l.next.items ≡ flat_map (children l.rows l.holders) (take l.entity-index l.refs)
