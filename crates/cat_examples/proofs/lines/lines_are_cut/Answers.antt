use Rattle.std.specs.Prelude.{refl}
use Rattle.cat_examples.proofs.Computing.{on_literals}
use Rattle.cat_examples.proofs.lines.lines_are_cut.Goals as goal

pub returns-clause-both : goal.returns-clause-both
unfolding on_literals
returns-clause-both c = refl

pub returns-clause-empty : goal.returns-clause-empty
unfolding on_literals
returns-clause-empty c = refl
