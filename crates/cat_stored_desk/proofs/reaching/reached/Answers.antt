use Rattle.std.proofs.Common.{sym, ap, subst}
use Rattle.cat_desk.specs.Deed.{deed_of}
use Rattle.cat_stored_desk.specs.Reached.{IsFound}
use Rattle.cat_stored_desk.proofs.reaching.reached.Goals as goal

pub returns-in-Settle : goal.returns-in-Settle
returns-in-Settle g c =
    subst (λ d. IsFound d c.args.settled c.args.saved.now c.args.after.now c.settled_reached.result) (sym (ap deed_of c.in-Settle.is)) (c.settled_reached.ensures c.args.saved.now c.args.after.now)
