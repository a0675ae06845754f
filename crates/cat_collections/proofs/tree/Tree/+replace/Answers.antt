use Rattle.std.proofs.Common.{◌∷◌, ◌++◌, ◌∙◌, ap, sym, arith}
use Rattle.std.specs.Arc.{arc_value}
use Rattle.cat_collections.specs.declared.tree.Fork.{Fork}
use Rattle.cat_collections.specs.Tree.{items}
use Rattle.cat_collections.proofs.Sides.{set_before, set_here, set_after}
use Rattle.cat_collections.proofs.tree.Tree.+replace.Goals as goal
use Rattle.cat_collections.proofs.tree.Tree.+replace.Goals.{then-place-before, else-place-before+then-place-before-2, else-place-before+else-place-before-2}

pub returns-after-place-before : goal.returns-after-place-before
returns-after-place-before g t c =
    let f = c.in-Some.fork.now in
    let all = sym c.self.view_is ∙ (ap items c.in-Fork.is ∙ ap (λ (x : Fork g.row.A.Denot). x.left ++ arc_value x.item ∷ x.right) (sym c.in-Some.ensures.value)) in
    elim c.if-place-before.branch [
      | then-place-before w ↦ grind (arith, all, w.self-inside-is, w.result-is, w.replace.ensures, set_before)
      | else-place-before+then-place-before-2 w ↦ grind (arith, all, w.self-inside-is, w.result-is, set_here)
      | else-place-before+else-place-before-2 w ↦ grind (arith, all, w.self-inside-is, w.result-is, w.replace-else-place-before-2.ensures, set_after)
    ]
