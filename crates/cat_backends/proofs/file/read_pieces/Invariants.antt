use Rattle.std.proofs.Common.{◌≡◌, ℕ, ◌-◌, ◌++◌, List}
use Rattle.cat_backends.proofs.file.read_pieces.Given as goal

-- bytes were appended
abbrev pub invariant-loop-position : goal.invariant-loop-position
invariant-loop-position l = (rest : List ℕ) × (l.out.items ≡ l.fn.out.items ++ rest)

abbrev pub decreases-loop-position : goal.decreases-loop-position
decreases-loop-position l = 4611686018427387904 - l.position
