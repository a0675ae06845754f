use Rattle.std.proofs.Common.{◌≡◌, take}
use Rattle.std.specs.List.{flat_map}
use Rattle.cat_model.specs.declared.types.Origin.TheVariants.{Entity}
use Rattle.cat_affected.specs.Reach.{refs_given}
use Rattle.cat_affected.proofs.refs.given_by.Given as goal

abbrev pub invariant-loop-entity : goal.invariant-loop-entity
invariant-loop-entity l = l.refs.items ≡ flat_map (λ e. refs_given l.rows (Entity e)) (take l.entity-index l.entities)
