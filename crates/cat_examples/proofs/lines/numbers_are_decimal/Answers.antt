use Rattle.std.specs.Prelude.{refl}
use Rattle.cat_examples.proofs.Computing.{on_literals}
use Rattle.cat_examples.proofs.lines.numbers_are_decimal.Goals as goal

pub returns-clause-clock : goal.returns-clause-clock
unfolding on_literals
returns-clause-clock c = refl

pub returns-clause-word : goal.returns-clause-word
unfolding on_literals
returns-clause-word c = refl

pub returns-clause-late : goal.returns-clause-late
unfolding on_literals
returns-clause-late c = refl

pub returns-clause-finish : goal.returns-clause-finish
unfolding on_literals
returns-clause-finish c = refl
