use Rattle.std.proofs.Common.{◌≡◌}
use Rattle.cat_claims.specs.declared.types.Claimed.{Claimed}
use Rattle.cat_claims.proofs.Reclaimed.{claimed}
use Rattle.cat_claims.proofs.claims.reclaimed.Goals as goal

pub returns : goal.returns
returns c =
    let y = c.in_ok-reheld.reheld in
    claimed _ y c.args.replaced c.args.holders.now c.as_slice.result.now c.requires c.in_ok-reheld.ensures c.as_slice.ensures
    (λ i. record { rows = c.in_ok-drop_all_given.ensures i; holders = y.holders; arrival = c.args.replaced.numbered.next; fresh = y.changed.fresh; leaving = y.changed.leaving; moved = y.changed.moved })
