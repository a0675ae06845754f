-- Whether the catalogue is quiet.
use Rattle.cat_laws.proofs.Asked.{asked_quiet, quiet_asked}
use Rattle.cat_laws.proofs.theorem.quiet_is_asked.Goals as goal

pub returns-clause-quiet : goal.returns-clause-quiet
returns-clause-quiet c m now h = asked_quiet m now h

pub returns-clause-asked : goal.returns-clause-asked
returns-clause-asked c m now h = quiet_asked m now h
