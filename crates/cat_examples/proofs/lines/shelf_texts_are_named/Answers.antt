use Rattle.std.specs.Prelude.{refl}
use Rattle.cat_examples.proofs.Computing.{on_literals}
use Rattle.cat_examples.proofs.lines.shelf_texts_are_named.Goals as goal

pub returns-clause-put : goal.returns-clause-put
unfolding on_literals
returns-clause-put c = refl

pub returns-clause-empty : goal.returns-clause-empty
unfolding on_literals
returns-clause-empty c = refl

pub returns-clause-no_name : goal.returns-clause-no_name
unfolding on_literals
returns-clause-no_name c = refl
