use Rattle.std.proofs.Common.{◌≤◌, ◌-◌, length}
use Rattle.cat_backends.proofs.file.write_file.Given as goal

-- so many bytes were written
abbrev pub invariant-loop-done : goal.invariant-loop-done
invariant-loop-done l = l.done ≤ length l.bytes

abbrev pub decreases-loop-done : goal.decreases-loop-done
decreases-loop-done l = length l.bytes - l.done
