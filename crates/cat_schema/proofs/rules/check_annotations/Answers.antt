use Rattle.cat_schema.proofs.Joins.{grown_thrice}
use Rattle.cat_schema.proofs.rules.check_annotations.Goals as goal

pub returns : goal.returns
returns c =
    let by_key = rw c.child-annotations.ensures at c.in_ok-keys.ensures in
    let by_value = rw c.child-annotations.ensures at c.values.ensures in
    grown_thrice c.values.result _ _ _ _ _ _ _ c.in_ok-field.ensures by_key by_value
