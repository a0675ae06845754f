use Rattle.std.specs.Prelude.{refl}
use Rattle.cat_examples.proofs.Computing.{on_literals}
use Rattle.cat_examples.proofs.lines.words_stand_alone.Goals as goal

pub returns-clause-settle : goal.returns-clause-settle
unfolding on_literals
returns-clause-settle c = refl

pub returns-clause-settle_now : goal.returns-clause-settle_now
unfolding on_literals
returns-clause-settle_now c = refl

pub returns-clause-settled : goal.returns-clause-settled
unfolding on_literals
returns-clause-settled c = refl

pub returns-clause-empty : goal.returns-clause-empty
unfolding on_literals
returns-clause-empty c = refl
