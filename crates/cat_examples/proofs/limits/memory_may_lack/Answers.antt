use Rattle.std.specs.Prelude.{refl}
use Rattle.cat_examples.proofs.Computing.{on_literals}
use Rattle.cat_examples.proofs.limits.memory_may_lack.Goals as goal

pub returns-clause-mutation : goal.returns-clause-mutation
unfolding on_literals
returns-clause-mutation c = refl

pub returns-clause-settle : goal.returns-clause-settle
unfolding on_literals
returns-clause-settle c = refl
