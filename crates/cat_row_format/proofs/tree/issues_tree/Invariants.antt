use Rattle.std.proofs.Common.{◌≡◌, take, map}
use Rattle.cat_tree.specs.View.{data_of}
use Rattle.cat_row_format.specs.Text.{issue_data}
use Rattle.cat_row_format.proofs.tree.issues_tree.Given as goal

-- the trees so far are those of the issues so far
abbrev pub invariant-loop-issue : goal.invariant-loop-issue
invariant-loop-issue l = map data_of l.items.items ≡ map issue_data (take l.issue-index l.issues)
