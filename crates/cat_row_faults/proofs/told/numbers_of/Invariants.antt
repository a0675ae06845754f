use Rattle.std.proofs.Common.{◌≡◌, take, map}
use Rattle.cat_row_faults.proofs.told.numbers_of.Given as goal

abbrev pub invariant-loop-entry : goal.invariant-loop-entry
invariant-loop-entry l = l.numbers.items ≡ map (λ e. e.0) (take l.entry-index l.given)
