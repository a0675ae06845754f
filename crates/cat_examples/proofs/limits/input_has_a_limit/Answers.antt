use Rattle.std.specs.Prelude.{refl}
use Rattle.cat_examples.proofs.Computing.{on_literals}
use Rattle.cat_examples.proofs.limits.input_has_a_limit.Goals as goal

pub returns-clause-above : goal.returns-clause-above
unfolding on_literals
returns-clause-above c = refl

pub returns-clause-at : goal.returns-clause-at
unfolding on_literals
returns-clause-at c = refl

pub returns-clause-bytes : goal.returns-clause-bytes
unfolding on_literals
returns-clause-bytes c = refl
