use Rattle.std.proofs.Common.{◌+◌, ◌*◌}
use Rattle.cat_recompute.proofs.afresh.+afresh.Given as goal

abbrev pub decreases-output_afresh : goal.decreases-output_afresh
decreases-output_afresh g l = 3 * l.most

abbrev pub decreases-work_afresh : goal.decreases-work_afresh
decreases-work_afresh g l = 3 * l.most + 2

abbrev pub decreases-tree_afresh : goal.decreases-tree_afresh
decreases-tree_afresh g l = 3 * l.most + 1
