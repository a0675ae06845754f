use Rattle.std.proofs.Common.{◌≡◌, ◌+◌, ◌++◌, drop}
use Rattle.cat_feed.specs.Changes.{numbered}
use Rattle.cat_feed.proofs.ledger.numbered.Given as goal

abbrev pub invariant-loop-reference : goal.invariant-loop-reference
invariant-loop-reference l =
    (l.number ≡ l.fn.from + l.reference-index) × (l.changes.items ++ numbered l.number (drop l.reference-index l.found) ≡ numbered l.fn.from l.found)
