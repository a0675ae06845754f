use Rattle.std.specs.Prelude.{refl}
use Rattle.cat_examples.proofs.Computing.{on_literals}
use Rattle.cat_examples.proofs.holding.holders_are_rooted.Goals as goal

pub returns-clause-rooted : goal.returns-clause-rooted
unfolding on_literals
returns-clause-rooted c = refl

pub returns-clause-unrooted : goal.returns-clause-unrooted
unfolding on_literals
returns-clause-unrooted c = refl
