-- A quiet catalogue has fresh documents.
use Rattle.cat_laws.proofs.Fresh.{is_fresh}
use Rattle.cat_laws.proofs.theorem.quiet_is_fresh.Goals as goal

pub returns : goal.returns
returns c rules m now sound quiet = is_fresh rules m sound now quiet
