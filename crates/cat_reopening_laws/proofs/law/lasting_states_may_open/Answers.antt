use Rattle.cat_reopening_laws.proofs.Lasting.{lasting_may_open}
use Rattle.cat_reopening_laws.proofs.law.lasting_states_may_open.Goals as goal

pub returns : goal.returns
returns c m is = lasting_may_open m is
