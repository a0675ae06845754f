use Rattle.std.specs.Prelude.{refl}
use Rattle.cat_examples.proofs.Computing.{on_literals}
use Rattle.cat_examples.proofs.limits.tokens_have_an_end.Goals as goal

pub returns-clause-before : goal.returns-clause-before
unfolding on_literals
returns-clause-before c = refl

pub returns-clause-spent : goal.returns-clause-spent
unfolding on_literals
returns-clause-spent c = refl

pub returns-clause-unchanged : goal.returns-clause-unchanged
unfolding on_literals
returns-clause-unchanged c = refl
