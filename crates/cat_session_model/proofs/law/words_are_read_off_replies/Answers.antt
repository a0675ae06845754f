use Rattle.cat_session_model.proofs.Words.{only_settles, told, unspoken}
use Rattle.cat_session_model.proofs.law.words_are_read_off_replies.Goals as goal

pub returns-clause-same : goal.returns-clause-same
returns-clause-same c rules settings m first second line a b e = told rules settings m first second line a b e

pub returns-clause-memory : goal.returns-clause-memory
returns-clause-memory c rules settings m word line e = unspoken rules settings m word line e

pub returns-clause-cut : goal.returns-clause-cut
returns-clause-cut c rules settings m word line events e = only_settles rules settings m word line events e
