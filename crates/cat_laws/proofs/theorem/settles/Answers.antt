-- A settle meets its relation.
use Rattle.cat_collections.proofs.Tables.{none_or_some}
use Rattle.cat_laws.proofs.Ended.{is_settle, rounds_within}
use Rattle.cat_laws.proofs.Tried.{unstopped_quiet}
use Rattle.cat_laws.proofs.theorem.settles.Goals as goal

pub returns-clause-meets : goal.returns-clause-meets
returns-clause-meets c rules settings m now limit later sound = is_settle rules settings now limit later m sound

pub returns-clause-within : goal.returns-clause-within
returns-clause-within c rules settings m now rounds limit later sound h = rounds_within rules settings now limit later m sound rounds h

pub returns-clause-quiet : goal.returns-clause-quiet
returns-clause-quiet c rules settings m now limit later sound whole = unstopped_quiet rules settings limit now later m sound (none_or_some _ whole)
