use Rattle.std.specs.Prelude.{refl}
use Rattle.cat_examples.proofs.Computing.{on_literals}
use Rattle.cat_examples.proofs.component.tables_after_a_settle.Goals as goal

pub returns-clause-state : goal.returns-clause-state
unfolding on_literals
returns-clause-state c = refl

pub returns-clause-fresh : goal.returns-clause-fresh
unfolding on_literals
returns-clause-fresh c = refl

pub returns-clause-quiet : goal.returns-clause-quiet
unfolding on_literals
returns-clause-quiet c = refl

pub returns-clause-due : goal.returns-clause-due
unfolding on_literals
returns-clause-due c = refl
