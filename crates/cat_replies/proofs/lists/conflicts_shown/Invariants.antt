use Rattle.std.proofs.Common.{◌≡◌, take, map}
use Rattle.cat_tree.specs.View.{data_of}
use Rattle.cat_replies.specs.Lists.{conflict_shown}
use Rattle.cat_replies.specs.Shown as seen
use Rattle.cat_replies.proofs.lists.conflicts_shown.Given as goal

abbrev pub invariant-loop-conflict : goal.invariant-loop-conflict
invariant-loop-conflict l = map data_of l.trees.items ≡ map conflict_shown (map seen.conflict (take l.conflict-index l.conflicts))
