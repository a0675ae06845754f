use Rattle.std.proofs.Common.{◌≡◌, ◌≤◌, ◌++◌, true, map, take}
use Rattle.cat_pages.specs.Seen.{ranked_seen}
use Rattle.cat_pages.specs.Walked.{behinds, by_value, candidates, falling, span}
use Rattle.cat_pages.proofs.listed.falling.Given as goal

-- with those at the values that are left, it begins like all of them
abbrev pub invariant-loop-place : goal.invariant-loop-place
invariant-loop-place l =
    (l.place ≤ l.end)
    × (take l.most (map ranked_seen l.found.items ++ falling (behinds (span l.start l.place l.lists)) (candidates l.query l.docs))
    ≡ take l.most (by_value true (behinds (span l.start l.end l.lists)) (candidates l.query l.docs)))

abbrev pub decreases-loop-place : goal.decreases-loop-place
decreases-loop-place l = l.place
