use Rattle.cat_connection.proofs.Connections.{told}
use Rattle.cat_connection.proofs.message_loop.connection.Goals as goal

pub returns-clause-transcript : goal.returns-clause-transcript
returns-clause-transcript g c = told g.M.Machine.answers g.M.Machine.lacks c.answer_all.result _ _ _ _ _ _ c.answer_all.ensures.outcome
