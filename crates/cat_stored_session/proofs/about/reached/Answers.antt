use Rattle.std.proofs.Common.{sym, subst}
use Rattle.cat_stored_session.specs.About.{IsFound}
use Rattle.cat_stored_session.proofs.about.reached.Goals as goal

pub returns-in-Settle : goal.returns-in-Settle
returns-in-Settle g c = subst (λ a. IsFound a c.args.settled c.args.saved.now c.args.after.now c.gathered.result) (sym c.in-Settle.is) (c.gathered.ensures c.args.saved.now c.args.after.now)
