use Rattle.std.proofs.Common.{◌≡◌, ◌-◌, ◌++◌, length, drop, map, take}
use Rattle.std.specs.List.{filter_map}
use Rattle.cat_pages.specs.Seen.{ranked_seen}
use Rattle.cat_pages.specs.Walked.{candidates, unvalued, without_value}
use Rattle.cat_pages.proofs.listed.add_rest.Given as goal

-- with those of the documents that are left, it begins like all of them
abbrev pub invariant-loop-place : goal.invariant-loop-place
invariant-loop-place l =
    take l.most (map ranked_seen l.found.items ++ filter_map (unvalued l.query) (drop l.place l.docs))
    ≡ take l.most (map ranked_seen l.fn.found.items ++ without_value (candidates l.query l.docs))

abbrev pub decreases-loop-place : goal.decreases-loop-place
decreases-loop-place l = length l.docs - l.place
