use Rattle.std.proofs.Common.{sym, ◌∙◌}
use Rattle.cat_desk.specs.Deed.{deed_of}
use Rattle.cat_desk.proofs.Again.{same_ledger, whole_of}
use Rattle.cat_desk.proofs.spare.done_again.Goals as goal

pub returns-clause-whole : goal.returns-clause-whole
returns-clause-whole g c =
    let d = deed_of c.args.command.now in
    whole_of g.L.Layers.rules c.args.catalogue.now.settings c.args.now d c.exchange.new.self c.act-reply.new.catalogue c.act-reply.result c.args.saved.now c.exchange-2.new.saved c.act-reply.ensures (sym c.exchange.ensures.settings) (sym c.exchange.ensures.state) c.exchange-2.ensures.saved

pub returns-clause-catalogue : goal.returns-clause-catalogue
returns-clause-catalogue g c =
    same_ledger c.exchange-2.new.self c.args.catalogue.now (c.exchange-2.ensures.state ∙ c.exchange.ensures.saved) (c.exchange-2.ensures.settings ∙ (c.act-reply.ensures.settings ∙ c.exchange.ensures.settings))
