use Rattle.cat_stitch.proofs.Shown.{uid_law, orphan_law}
use Rattle.cat_stitch.proofs.laws.shows_the_number.Goals as goal

pub returns-clause-id : goal.returns-clause-id
returns-clause-id c = uid_law

pub returns-clause-orphan : goal.returns-clause-orphan
returns-clause-orphan c = orphan_law
