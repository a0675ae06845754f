use Rattle.std.proofs.Common.{◌∷◌, ◌++◌, ◌∙◌, ap, sym, arith}
use Rattle.std.specs.Arc.{arc_value}
use Rattle.cat_collections.specs.declared.tree.Fork.{Fork}
use Rattle.cat_collections.specs.Tree.{items}
use Rattle.cat_collections.proofs.Sides.{remove_before, remove_after}
use Rattle.cat_collections.proofs.tree.Tree.+remove.Goals as goal
use Rattle.cat_collections.proofs.tree.Tree.+remove.Goals.{then-place-low-2+else-high-low+in_ok-remove-in-Some, else-place-low-2+else-low-high+in_ok-remove-in-Some-2}

pub returns-after-place-low-2 : goal.returns-after-place-low-2
returns-after-place-low-2 g t c =
    let all = sym c.self.view_is ∙ (ap items c.in-Fork.is ∙ ap (λ (x : Fork g.row.A.Denot). x.left ++ arc_value x.item ∷ x.right) (sym c.in-Some.ensures.value)) in
    elim c.if-place-low-2.branch [
      | then-place-low-2+else-high-low+in_ok-remove-in-Some w ↦ grind (arith, all, w.fork-is, w.in_ok-remove-in-Some.ensures, w.remove.ensures, remove_before)
      | else-place-low-2+else-low-high+in_ok-remove-in-Some-2 w ↦ grind (arith, all, w.fork-is, w.in_ok-remove-in-Some-2.ensures, w.remove-else-place-low-2.ensures, remove_after)
    ]
