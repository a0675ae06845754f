use Rattle.cat_schema.proofs.Joins.{grown_twice}
use Rattle.cat_schema.proofs.rules.check_profile_fields.Goals as goal

pub returns : goal.returns
returns c =
    let inside = rw c.child.ensures at c.part_fields.ensures in
    grown_twice c.part_fields.result _ _ _ _ _ c.in_ok-field.ensures inside
