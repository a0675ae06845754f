use Rattle.cat_pages.proofs.Walks.{at_key_between}
use Rattle.cat_pages.proofs.listed.valued.Goals as goal

pub falling-requires-clause-key : goal.falling-requires-clause-key
falling-requires-clause-key c = at_key_between c.args.query.now c.args.lists.now c.in_ok-start.start c.in_ok-end.end c.in_ok-start.ensures c.in_ok-end.ensures c.in_order.ensures

pub rising-requires-clause-key : goal.rising-requires-clause-key
rising-requires-clause-key c = at_key_between c.args.query.now c.args.lists.now c.in_ok-start.start c.in_ok-end.end c.in_ok-start.ensures c.in_ok-end.ensures c.in_order.ensures
