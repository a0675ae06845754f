use Rattle.std.proofs.Common.{◌≡◌, map, drop}
use Rattle.cat_tree.specs.Data.{items_of}
use Rattle.cat_tree.specs.View.{data_of}
use Rattle.cat_inputs.specs.Body.{with_front}
use Rattle.cat_inputs.specs.Shelf.{objects_from}
use Rattle.cat_inputs.proofs.shelf.objects_from.Given as goal

-- the objects so far, with those that are left, are all objects
abbrev pub invariant-loop-tree : goal.invariant-loop-tree
invariant-loop-tree l =
    with_front (map (λ t. data_of t.now) l.objects.items) (objects_from (items_of (map data_of (drop l.tree-index l.trees))))
    ≡ objects_from (items_of (map data_of l.trees))
