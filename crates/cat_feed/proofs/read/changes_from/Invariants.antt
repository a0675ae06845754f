use Rattle.std.proofs.Common.{◌≡◌, map, drop}
use Rattle.cat_tree.specs.Data.{items_of}
use Rattle.cat_tree.specs.View.{data_of}
use Rattle.cat_inputs.specs.Body.{with_front}
use Rattle.cat_feed.specs.Read.{changes_from}
use Rattle.cat_feed.proofs.read.changes_from.Given as goal

-- the changes so far, with those of the members that are left, are those of all members
abbrev pub invariant-loop-place : goal.invariant-loop-place
invariant-loop-place l =
    with_front l.changes.items (changes_from l.place (items_of (map data_of (drop l.place l.trees)))) ≡ changes_from 0 (items_of (map data_of l.trees))
