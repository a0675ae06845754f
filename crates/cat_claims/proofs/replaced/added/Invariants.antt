use Rattle.std.proofs.Common.{◌≡◌, ◌≤◌, ◌+◌, drop}
use Rattle.cat_model.specs.Step.{add_offers}
use Rattle.cat_claims.specs.Renewed.{AreBelow}
use Rattle.cat_claims.proofs.replaced.added.Given as goal

abbrev pub invariant-loop-reference : goal.invariant-loop-reference
invariant-loop-reference g l =
    (add_offers l.origin (g.O.Offering.offers l.offers) (drop l.reference-index l.order) l.numbered ≡ add_offers l.origin (g.O.Offering.offers l.offers) l.order l.fn.first)
    × (l.numbered.next ≤ l.fn.first.next + l.reference-index)
    × AreBelow l.numbered.rows l.numbered.next
