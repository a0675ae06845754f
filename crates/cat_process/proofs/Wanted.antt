-- The targets of a Location, and of another entity.
use Rattle.std.proofs.Common.{◌≡◌, ◌==◌, Bool, true, false, cond, List, [], Ok, length, refl, ap, ◌∙◌}
use Rattle.cat_tree.specs.Data.{Data}
use Rattle.cat_schema.specs.Rules.{breaches}
use Rattle.cat_target.specs.Targets.{targets_of, unless_faulty}
use Rattle.cat_target.specs.declared.target.Target.{Target}
use Rattle.cat_process.specs.Process.{is_location, wanted_of}

abbrev none : List Target
none = []

none_either_way : (b : Bool) → cond b none none ≡ none
none_either_way true = refl
none_either_way false = refl

-- what is wanted, where the entity is a Location or not
abbrev wanted_if : Data → Bool → List Target
wanted_if d b = cond (length (breaches d) == 0) (unless_faulty (cond b (targets_of d) (Ok []))) []

pub wanted_of_location : (d : Data) → is_location d ≡ true → wanted_of d ≡ cond (length (breaches d) == 0) (unless_faulty (targets_of d)) []
unfolding wanted_of
wanted_of_location d h = ap (wanted_if d) h

pub wanted_of_other : (d : Data) → is_location d ≡ false → wanted_of d ≡ []
unfolding wanted_of
wanted_of_other d h = ap (wanted_if d) h ∙ none_either_way (length (breaches d) == 0)
