use Rattle.std.specs.Prelude.{refl}
use Rattle.cat_examples.proofs.Computing.{on_literals}
use Rattle.cat_examples.proofs.lines.trees_are_read.Goals as goal

pub returns-clause-sorted : goal.returns-clause-sorted
unfolding on_literals
returns-clause-sorted c = refl

pub returns-clause-twice : goal.returns-clause-twice
unfolding on_literals
returns-clause-twice c = refl

pub returns-clause-fraction : goal.returns-clause-fraction
unfolding on_literals
returns-clause-fraction c = refl

pub returns-clause-large : goal.returns-clause-large
unfolding on_literals
returns-clause-large c = refl
