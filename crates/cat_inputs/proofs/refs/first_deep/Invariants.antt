use Rattle.std.proofs.Common.{◌≡◌, map, drop}
use Rattle.cat_inputs.specs.Inputs.{first_deep}
use Rattle.cat_inputs.specs.Lent.{entry_of}
use Rattle.cat_inputs.proofs.refs.first_deep.Given as goal

-- the first among the entries that are left is the first of all
abbrev pub invariant-loop-i : goal.invariant-loop-i
invariant-loop-i l =
    first_deep l.i (map (λ e. e.entity) (map entry_of (drop l.i l.entries)))
    ≡ first_deep 0 (map (λ e. e.entity) (map entry_of l.entries))
