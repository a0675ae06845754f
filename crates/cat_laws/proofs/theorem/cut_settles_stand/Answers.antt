-- What a cut settle has and keeps.
use Rattle.cat_laws.proofs.Cut.{has_events}
use Rattle.cat_laws.proofs.Stands.{settle_refused_by}
use Rattle.cat_laws.proofs.theorem.cut_settles_stand.Goals as goal

pub returns-clause-events : goal.returns-clause-events
returns-clause-events c rules settings m now = has_events rules settings now m

pub returns-clause-refused : goal.returns-clause-refused
returns-clause-refused c rules settings m now limit fault h = settle_refused_by rules settings now limit m fault h
