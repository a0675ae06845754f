use Rattle.std.specs.Prelude.{refl}
use Rattle.cat_examples.proofs.Computing.{on_literals}
use Rattle.cat_examples.proofs.lines.bodies_are_mutations.Goals as goal

pub returns-clause-full : goal.returns-clause-full
unfolding on_literals
returns-clause-full c = refl

pub returns-clause-delta : goal.returns-clause-delta
unfolding on_literals
returns-clause-delta c = refl

pub returns-clause-no_kind : goal.returns-clause-no_kind
unfolding on_literals
returns-clause-no_kind c = refl

pub returns-clause-no_json : goal.returns-clause-no_json
unfolding on_literals
returns-clause-no_json c = refl
