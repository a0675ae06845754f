use Rattle.std.proofs.Common.{◌≤◌}
use Rattle.cat_listener.proofs.running.Running.new.Given as goal

abbrev pub invariant-loop-helper : goal.invariant-loop-helper
invariant-loop-helper g l = l.servers ≤ l.helper-index
