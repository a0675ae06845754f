use Rattle.std.proofs.Common.{◌≡◌, ◌++◌, map, drop}
use Rattle.cat_tree.specs.Data.{members_of, keys_of}
use Rattle.cat_tree.specs.View.{data_of, entry_of, weight}
use Rattle.cat_query.specs.Project.{reached_members}
use Rattle.cat_query.proofs.Kept.{before, KeysRise}
use Rattle.cat_query.proofs.project.+reached.Given as goal

-- the nodes that a tree has
abbrev pub decreases-reached : goal.decreases-reached
decreases-reached l = weight (data_of l.tree.now)

-- what was kept, with what is kept of the rest, is all; and the keys rise
abbrev pub invariant-loop-key : goal.invariant-loop-key
invariant-loop-key l =
    (before (map entry_of l.items.items) (reached_members (map (λ p. p.now) l.paths) (members_of (map entry_of (drop l.key-index l.key-items))))
    ≡ reached_members (map (λ p. p.now) l.paths) (members_of (map entry_of l.key-items)))
    × KeysRise (keys_of (map entry_of l.items.items) ++ keys_of (map entry_of (drop l.key-index l.key-items)))
