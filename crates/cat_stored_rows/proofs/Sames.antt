-- The test of trees is true just where they are equal.
use Rattle.std.proofs.Common.{◌≡◌, ◌↔◌, Bool, IsTrue, true, sym, subst, ◌∙◌}
use Rattle.cat_tree.specs.Data.{Data}
use Rattle.cat_tree.specs.Same.{is_same}
use Rattle.cat_tree.proofs.Equality.{is_same-itself, is_same-true}

pub same_data : (d e : Data) (b : Bool) → b ≡ is_same d e → IsTrue b ↔ (d ≡ e)
same_data d e b is = (λ h. is_same-true d e (sym is ∙ h), λ same. is ∙ subst (λ (x : Data). is_same d x ≡ true) same (is_same-itself d))
