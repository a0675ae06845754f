use Rattle.std.proofs.Common.{sym, subst}
use Rattle.cat_claims.specs.Change.{IsMendable}
use Rattle.cat_claims.proofs.Reclaimed.{reheld}
use Rattle.cat_claims.proofs.claims.hold_again.Goals as goal

pub mend-requires : goal.mend-requires
mend-requires c = subst (λ h. IsMendable c.args.replaced.now h) (sym c.in_ok-after.ensures) c.requires

pub returns : goal.returns
returns c =
    reheld _ c.args.replaced.now c.args.holders.now c.in_ok-after.after c.in_ok-touched.touched c.in_ok-after.ensures c.in_ok-touched.ensures.holders
    c.in_ok-touched.ensures.others c.in_order.ensures c.in_ok-changed.ensures.fresh c.in_ok-changed.ensures.leaving c.in_ok-changed.ensures.moved
