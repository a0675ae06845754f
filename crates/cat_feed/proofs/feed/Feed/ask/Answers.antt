use Rattle.std.proofs.Common.{sym, subst}
use Rattle.cat_feed.specs.Feed.{Follows, is_taken}
use Rattle.cat_feed.proofs.Asked.{asks_follow, asks_keep, asks_whole}
use Rattle.cat_feed.proofs.feed.Feed.ask.Goals as goal

pub returns-clause-kept : goal.returns-clause-kept
returns-clause-kept c = λ ds n f far. asks_keep c.args.documents.now c.self.inside.ledger c.ask.new.ledger (is_taken c.ask.result) c.self.invariant c.ask.ensures.order c.in_order.ensures c.ask.ensures.feed ds n (subst (λ l. Follows ds n l) (sym c.self.view_is) f) far

pub returns-clause-follows : goal.returns-clause-follows
returns-clause-follows c = rw (← c.self.view_is) (asks_follow c.args.documents.now c.args.since c.self.inside.ledger c.ask.result c.self.invariant c.ask.ensures.order c.in_order.ensures c.ask.ensures.ok)

pub returns-clause-whole : goal.returns-clause-whole
returns-clause-whole c = asks_whole c.args.documents.now c.args.since c.self.inside.ledger c.ask.result c.self.invariant c.ask.ensures.order c.in_order.ensures c.ask.ensures.ok
