use Rattle.cat_session_model.proofs.Kept.{lines_have_none, lines_just_fresh}
use Rattle.cat_session_model.proofs.law.deleting_sessions_have_no_orphans.Goals as goal

pub returns-clause-none : goal.returns-clause-none
returns-clause-none c rules settings lines words deletes = lines_have_none rules settings deletes lines words

pub returns-clause-fresh : goal.returns-clause-fresh
returns-clause-fresh c rules settings lines words now deletes quiet = lines_just_fresh rules settings deletes lines words now quiet
