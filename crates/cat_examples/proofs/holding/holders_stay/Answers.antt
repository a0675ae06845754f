use Rattle.std.specs.Prelude.{refl}
use Rattle.cat_examples.proofs.Computing.{on_literals}
use Rattle.cat_examples.proofs.holding.holders_stay.Goals as goal

pub returns-clause-first : goal.returns-clause-first
unfolding on_literals
returns-clause-first c = refl

pub returns-clause-stays : goal.returns-clause-stays
unfolding on_literals
returns-clause-stays c = refl

pub returns-clause-next : goal.returns-clause-next
unfolding on_literals
returns-clause-next c = refl
