use Rattle.std.proofs.Common.{◌≡◌, ◌≤◌, ◌-◌, ◌++◌, false, map, take}
use Rattle.cat_pages.specs.Seen.{ranked_seen}
use Rattle.cat_pages.specs.Walked.{behinds, by_value, candidates, rising, span}
use Rattle.cat_pages.proofs.listed.rising.Given as goal

-- with those at the values that are left, it begins like all of them
abbrev pub invariant-loop-place : goal.invariant-loop-place
invariant-loop-place l =
    (l.start ≤ l.place)
    × (take l.most (map ranked_seen l.found.items ++ rising (behinds (span l.place l.end l.lists)) (candidates l.query l.docs))
    ≡ take l.most (by_value false (behinds (span l.start l.end l.lists)) (candidates l.query l.docs)))

abbrev pub decreases-loop-place : goal.decreases-loop-place
decreases-loop-place l = l.end - l.place
