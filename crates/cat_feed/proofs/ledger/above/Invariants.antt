use Rattle.std.proofs.Common.{◌≡◌, ◌++◌, drop}
use Rattle.cat_feed.specs.Changes.{above}
use Rattle.cat_feed.proofs.ledger.above.Given as goal

abbrev pub invariant-loop-change : goal.invariant-loop-change
invariant-loop-change l = l.later.items ++ above l.number (drop l.change-index l.changes) ≡ above l.number l.changes
