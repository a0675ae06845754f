use Rattle.std.proofs.Common.{◌≡◌, take, map}
use Rattle.cat_tree.specs.View.{data_of}
use Rattle.cat_stitch.specs.Issues.{item_of_issue}
use Rattle.cat_stitch.proofs.issues.issue_items.Given as goal

abbrev pub invariant-loop-issue : goal.invariant-loop-issue
invariant-loop-issue l = map data_of l.items.items ≡ map item_of_issue (take l.issue-index l.issues)
