use Rattle.cat_io.proofs.Sessions.{told}
use Rattle.cat_io.proofs.line_loop.session.Goals as goal

pub returns-clause-transcript : goal.returns-clause-transcript
returns-clause-transcript g c = told g.M.Machine.after g.M.Machine.reply c.answer_all.result _ _ _ _ _ _ c.answer_all.ensures.outcome
