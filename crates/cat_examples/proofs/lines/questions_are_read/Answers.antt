use Rattle.std.specs.Prelude.{refl}
use Rattle.cat_examples.proofs.Computing.{on_literals}
use Rattle.cat_examples.proofs.lines.questions_are_read.Goals as goal

pub returns-clause-quiet : goal.returns-clause-quiet
unfolding on_literals
returns-clause-quiet c = refl

pub returns-clause-no_query : goal.returns-clause-no_query
unfolding on_literals
returns-clause-no_query c = refl

pub returns-clause-bad_limit : goal.returns-clause-bad_limit
unfolding on_literals
returns-clause-bad_limit c = refl

pub returns-clause-many : goal.returns-clause-many
unfolding on_literals
returns-clause-many c = refl

pub returns-clause-no_reference : goal.returns-clause-no_reference
unfolding on_literals
returns-clause-no_reference c = refl

pub returns-clause-no_texts : goal.returns-clause-no_texts
unfolding on_literals
returns-clause-no_texts c = refl
