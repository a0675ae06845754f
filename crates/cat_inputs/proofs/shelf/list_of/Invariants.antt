use Rattle.std.proofs.Common.{◌≡◌, map, drop}
use Rattle.cat_tree.specs.View.{data_of}
use Rattle.cat_inputs.specs.Body.{with_front, each_from}
use Rattle.cat_inputs.specs.Shelf.{listed_at}
use Rattle.cat_inputs.proofs.shelf.list_of.Given as goal

-- the descriptors so far, with those that are left, are those of all trees
abbrev pub invariant-loop-i : goal.invariant-loop-i
invariant-loop-i l =
    with_front l.found.items (each_from listed_at l.i (map (λ t. data_of t.now) (drop l.i l.trees)))
    ≡ each_from listed_at 0 (map (λ t. data_of t.now) l.trees)
