use Rattle.cat_desk.proofs.Asked.{asked}
use Rattle.cat_desk.proofs.asks.is_quiet.Goals as goal

pub returns : goal.returns
returns g c = asked c.args.catalogue.now.state c.args.now c.quiet.result c.quiet.ensures
