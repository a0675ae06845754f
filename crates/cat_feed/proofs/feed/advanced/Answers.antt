use Rattle.std.proofs.Common.{◌∙◌}
use Rattle.cat_feed.proofs.Asked.{advance_kept, advance_ok}
use Rattle.cat_feed.proofs.feed.advanced.Goals as goal

pub returns-clause-ok : goal.returns-clause-ok
returns-clause-ok c = advance_ok c.args.documents.now c.args.ledger.now c.as_slice.result.now c.with_changes.result c.in_order.ensures c.in_order-2.ensures (c.as_slice.ensures.value ∙ c.in_ok-found.ensures) c.with_changes.ensures.ok

pub returns-clause-steady : goal.returns-clause-steady
returns-clause-steady c = advance_kept c.args.ledger.now c.as_slice.result.now c.with_changes.result c.requires c.with_changes.ensures.ok
