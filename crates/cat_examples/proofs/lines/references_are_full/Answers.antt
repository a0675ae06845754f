use Rattle.std.specs.Prelude.{refl}
use Rattle.cat_examples.proofs.Computing.{on_literals}
use Rattle.cat_examples.proofs.lines.references_are_full.Goals as goal

pub returns-clause-get : goal.returns-clause-get
unfolding on_literals
returns-clause-get c = refl

pub returns-clause-folded : goal.returns-clause-folded
unfolding on_literals
returns-clause-folded c = refl

pub returns-clause-no_kind : goal.returns-clause-no_kind
unfolding on_literals
returns-clause-no_kind c = refl

pub returns-clause-two_names : goal.returns-clause-two_names
unfolding on_literals
returns-clause-two_names c = refl
