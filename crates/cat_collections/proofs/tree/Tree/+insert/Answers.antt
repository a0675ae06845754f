use Rattle.std.proofs.Common.{◌∷◌, ◌++◌, ◌∙◌, ap, sym, arith}
use Rattle.std.specs.Arc.{arc_value}
use Rattle.std.proofs.lemmas.List.Edits.{insert-append_left}
use Rattle.cat_collections.specs.declared.tree.Fork.{Fork}
use Rattle.cat_collections.specs.Tree.{items}
use Rattle.cat_collections.proofs.Sides.{insert_after}
use Rattle.cat_collections.proofs.tree.Tree.+insert.Goals as goal
use Rattle.cat_collections.proofs.tree.Tree.+insert.Goals.{then-place-low+else-low-high+in_ok-insert-in-Some, else-place-low+else-high-low+in_ok-insert-in-Some-2}

pub returns-after-place-low : goal.returns-after-place-low
returns-after-place-low g t c =
    let all = sym c.self.view_is ∙ (ap items c.in-Fork.is ∙ ap (λ (x : Fork g.row.A.Denot). x.left ++ arc_value x.item ∷ x.right) (sym c.in-Some.ensures.value)) in
    elim c.if-place-low.branch [
      | then-place-low+else-low-high+in_ok-insert-in-Some w ↦ grind (arith, all, w.fork-is, w.in_ok-insert-in-Some.ensures, w.insert.ensures, insert-append_left)
      | else-place-low+else-high-low+in_ok-insert-in-Some-2 w ↦ grind (arith, all, w.fork-is, w.in_ok-insert-in-Some-2.ensures, w.insert-else-place-low.ensures, insert_after)
    ]
