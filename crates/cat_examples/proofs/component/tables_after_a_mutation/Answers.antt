use Rattle.std.specs.Prelude.{refl}
use Rattle.cat_examples.proofs.Computing.{on_literals}
use Rattle.cat_examples.proofs.component.tables_after_a_mutation.Goals as goal

pub returns-clause-state : goal.returns-clause-state
unfolding on_literals
returns-clause-state c = refl

pub returns-clause-quiet : goal.returns-clause-quiet
unfolding on_literals
returns-clause-quiet c = refl
