use Rattle.std.proofs.Common.{◌≡◌, length}
use Rattle.cat_collections.specs.Table.{keys}
use Rattle.cat_model.specs.Catalogue.{claim}
use Rattle.cat_claims.specs.Touched.{AreKeptBut}
use Rattle.cat_claims.specs.Waiting.{AllWait}
use Rattle.cat_claims.proofs.waiting.claim_waiting.Given as goal

-- what is left to be claimed, and what isn't claimed yet
abbrev pub invariant-loop-left : goal.invariant-loop-left
invariant-loop-left l =
    AllWait l.rows (keys l.waiting) l.holders
    × (claim l.left l.rows (keys l.rows) l.holders ≡ claim (length l.fn.rows) l.fn.rows (keys l.fn.rows) l.fn.holders)
    × AreKeptBut l.claimed l.fn.holders l.holders

abbrev pub decreases-loop-left : goal.decreases-loop-left
decreases-loop-left l = l.left
