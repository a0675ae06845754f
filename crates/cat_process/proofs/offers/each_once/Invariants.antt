use Rattle.std.proofs.Common.{◌≡◌, [], map}
use Rattle.cat_process.specs.Offers.{firsts, repeats}
use Rattle.cat_process.specs.Process.{duplicate}
use Rattle.cat_process.proofs.Repeats.{SeeAlike}
use Rattle.cat_process.proofs.offers.each_once.Given as goal

abbrev pub invariant-loop-reference : goal.invariant-loop-reference
invariant-loop-reference l = record {
  first : l.found.first.items ≡ firsts [] l.yielded;
  warnings : l.found.warnings.items ≡ map duplicate (repeats [] l.yielded);
  seen : SeeAlike l.seen.keys l.found.first.items;
}
