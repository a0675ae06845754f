use Rattle.std.proofs.Common.{◌≡◌, ◌++◌, drop}
use Rattle.cat_feed.proofs.ledger.push_last.Given as goal

abbrev pub invariant-loop-change : goal.invariant-loop-change
invariant-loop-change l = l.kept.items ++ drop l.change-index l.later ≡ l.initial.kept.items ++ l.later
