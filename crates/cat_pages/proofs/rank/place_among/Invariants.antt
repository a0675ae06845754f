use Rattle.std.proofs.Common.{◌≡◌, ◌≤◌, ◌++◌, ◌-◌, length, take, drop, map}
use Rattle.cat_pages.specs.Page.{inserted}
use Rattle.cat_pages.specs.Seen.{ranked_seen}
use Rattle.cat_pages.proofs.rank.place_among.Given as goal

-- the document comes before none of those before the place
abbrev pub invariant-loop-place : goal.invariant-loop-place
invariant-loop-place l =
    (l.place ≤ length l.kept)
    × (inserted l.falls (ranked_seen l.document) (map ranked_seen l.kept)
    ≡ map ranked_seen (take l.place l.kept) ++ inserted l.falls (ranked_seen l.document) (map ranked_seen (drop l.place l.kept)))

abbrev pub decreases-loop-place : goal.decreases-loop-place
decreases-loop-place l = length l.kept - l.place
