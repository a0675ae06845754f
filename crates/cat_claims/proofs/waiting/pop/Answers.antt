use Rattle.cat_claims.proofs.Waits.{head_some, head_none}
use Rattle.cat_claims.proofs.waiting.pop.Goals as goal

pub returns-in_default : goal.returns-in_default
returns-in_default c = head_none c.args.waiting.now c.in_default.ensures

pub returns : goal.returns
returns c = (head_some c.args.waiting.now c.in-Some.entry.now c.in-Some.ensures, c.in_ok-remove.ensures)
