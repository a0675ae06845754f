use Rattle.std.proofs.Common.{◌≡◌, ◌-◌, ◌++◌, length, drop, map, take}
use Rattle.cat_pages.specs.Seen.{ranked_seen}
use Rattle.cat_pages.specs.Walked.{looked}
use Rattle.cat_pages.proofs.listed.add_looked.Given as goal

-- with those of the references that are left, it begins like all of them
abbrev pub invariant-loop-place : goal.invariant-loop-place
invariant-loop-place l =
    take l.most (map ranked_seen l.found.items ++ looked l.query l.docs l.behind (drop l.place l.set))
    ≡ take l.most (map ranked_seen l.fn.found.items ++ looked l.query l.docs l.behind l.set)

abbrev pub decreases-loop-place : goal.decreases-loop-place
decreases-loop-place l = length l.set - l.place
