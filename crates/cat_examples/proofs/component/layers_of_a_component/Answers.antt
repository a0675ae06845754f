use Rattle.std.specs.Prelude.{refl}
use Rattle.cat_examples.proofs.Computing.{on_literals}
use Rattle.cat_examples.proofs.component.layers_of_a_component.Goals as goal

pub returns-clause-tree : goal.returns-clause-tree
unfolding on_literals
returns-clause-tree c = refl

pub returns-clause-relations : goal.returns-clause-relations
unfolding on_literals
returns-clause-relations c = refl

pub returns-clause-result : goal.returns-clause-result
unfolding on_literals
returns-clause-result c = refl

pub returns-clause-document : goal.returns-clause-document
unfolding on_literals
returns-clause-document c = refl

pub returns-clause-text : goal.returns-clause-text
unfolding on_literals
returns-clause-text c = refl
