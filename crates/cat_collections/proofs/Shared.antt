-- A fork that is kept twice.
use Rattle.std.proofs.Common.{◌≡◌, ◌^◌, ◌<◌, List, ◌∷◌, ◌++◌, length, sym, ap, subst, ◌∙◌}
use Rattle.std.specs.Arc.{arc_value}
use Rattle.std.specs.declared.alloc.Global.{Global}
use Rattle.std.specs.declared.sync.Arc.{Arc}
use Rattle.cat_collections.specs.declared.tree.Fork.{Fork}
use Rattle.cat_collections.specs.declared.tree.Node.{Node}
use Rattle.cat_collections.specs.declared.tree.Node.TheVariants.{Fork as Node-Fork}
use Rattle.cat_collections.specs.Tree.{Balance, IsSized, items}

-- another owner of a fork has its items
pub shared_is : {A : Type 0} {n : Node A} {all : List A} {f : Arc (Fork A) Global} (r : Arc (Fork A) Global) → items n ≡ all → n ≡ Node-Fork f → arc_value r ≡ arc_value f → items (Node-Fork r) ≡ all
shared_is {A} r view is same = ap (λ (x : Fork A). x.left ++ arc_value x.item ∷ x.right) same ∙ (sym (ap items is) ∙ view)

-- another owner of a fork is as balanced
pub shared_sized : {A : Type 0} {n : Node A} {f : Arc (Fork A) Global} (r : Arc (Fork A) Global) → n ≡ Node-Fork f → arc_value r ≡ arc_value f → IsSized n → IsSized (Node-Fork r)
shared_sized {A} r is same sized =
    subst (λ (d : Fork A). (d.size ≡ length (d.left ++ arc_value d.item ∷ d.right)) × (d.size < 2 ^ 62) × Balance (length d.left) (length d.right)) (sym same) (subst IsSized is sized)
