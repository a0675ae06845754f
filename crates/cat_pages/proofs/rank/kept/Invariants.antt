use Rattle.std.proofs.Common.{◌≡◌, ◌≤◌, length, map, take, drop}
use Rattle.cat_pages.specs.Page.{pair_seen, ranked}
use Rattle.cat_pages.specs.Seen.{ranked_seen}
use Rattle.cat_pages.proofs.rank.kept.Given as goal

-- the first of those from the place on were kept
abbrev pub invariant-loop-left : goal.invariant-loop-left
invariant-loop-left l =
    (l.left ≤ length l.documents)
    × (map ranked_seen l.kept.items ≡ take l.most (ranked l.query.order l.query.cursor (map pair_seen (drop l.left l.documents))))

abbrev pub decreases-loop-left : goal.decreases-loop-left
decreases-loop-left l = l.left
