use Rattle.std.specs.Prelude.{refl}
use Rattle.cat_examples.proofs.Computing.{on_literals}
use Rattle.cat_examples.proofs.mutations.bodies_have_their_fields.Goals as goal

pub returns : goal.returns
unfolding on_literals
returns c = record { said = refl }
