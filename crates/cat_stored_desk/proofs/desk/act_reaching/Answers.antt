use Rattle.std.proofs.Common.{sym, ap, subst}
use Rattle.cat_desk.specs.Acts.{Acts}
use Rattle.cat_desk.specs.Deed.{deed_of}
use Rattle.cat_stored_desk.proofs.desk.act_reaching.Goals as goal

pub returns-in-Settle-clause-acts : goal.returns-in-Settle-clause-acts
returns-in-Settle-clause-acts g c =
    subst (λ d. Acts g.L.Layers.rules c.args.now d c.args.catalogue.now c.settle_reaching.new.catalogue c.settle_reaching.result.0) (sym (ap deed_of c.in-Settle.is)) c.settle_reaching.ensures.acts
