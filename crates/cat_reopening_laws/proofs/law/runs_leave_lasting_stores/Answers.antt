use Rattle.cat_reopening_laws.proofs.Left.{connection_leaves, session_leaves}
use Rattle.cat_reopening_laws.proofs.law.runs_leave_lasting_stores.Goals as goal

pub returns-clause-session : goal.returns-clause-session
returns-clause-session c place rule rows status left left' written written' after faults m is are k = session_leaves place rule rows status left left' written written' after faults m is are k

pub returns-clause-connection : goal.returns-clause-connection
returns-clause-connection c place rule rows status left left' written written' after faults m is are k = connection_leaves place rule rows status left left' written written' after faults m is are k
