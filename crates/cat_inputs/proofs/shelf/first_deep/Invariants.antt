use Rattle.std.proofs.Common.{◌≡◌, map, drop}
use Rattle.cat_tree.specs.View.{data_of}
use Rattle.cat_inputs.specs.Inputs.{first_deep}
use Rattle.cat_inputs.proofs.shelf.first_deep.Given as goal

-- the first among the trees that are left is the first of all
abbrev pub invariant-loop-i : goal.invariant-loop-i
invariant-loop-i l =
    first_deep l.i (map (λ t. data_of t.now) (drop l.i l.trees)) ≡ first_deep 0 (map (λ t. data_of t.now) l.trees)
