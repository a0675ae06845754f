use Rattle.cat_stitch.proofs.Shown.{relations_law, status_law, others_law}
use Rattle.cat_stitch.proofs.laws.shows_the_parts.Goals as goal

pub returns-clause-relations : goal.returns-clause-relations
returns-clause-relations c = relations_law

pub returns-clause-status : goal.returns-clause-status
returns-clause-status c = status_law

pub returns-clause-others : goal.returns-clause-others
returns-clause-others c = others_law
