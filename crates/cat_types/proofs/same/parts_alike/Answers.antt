use Rattle.std.proofs.Common.{subst, ◌↔◌, IsTrue, ◌≡◌, sym}
use Rattle.cat_types.proofs.Alike.{parts_exact}
use Rattle.cat_types.proofs.same.parts_alike.Goals as goal

pub returns-clause-exact : goal.returns-clause-exact
returns-clause-exact c = subst (λ b. IsTrue b ↔ (c.args.left.now ≡ c.args.right.now)) (sym c.same_parts.ensures) (parts_exact c.args.left.now c.args.right.now)
