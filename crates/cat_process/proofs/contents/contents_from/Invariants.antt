use Rattle.std.proofs.Common.{◌≡◌, map}
use Rattle.cat_process.specs.Process.{content_from}
use Rattle.cat_process.proofs.contents.contents_from.Given as goal

abbrev pub invariant-loop-target : goal.invariant-loop-target
invariant-loop-target l = l.contents.items ≡ map (content_from l.shelf) l.yielded
