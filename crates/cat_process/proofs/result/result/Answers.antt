use Rattle.std.proofs.Common.{sym, ◌∙◌}
use Rattle.cat_process.proofs.Cases.{no_breaches}
use Rattle.cat_process.proofs.result.result.Goals as goal

pub reference_issues-requires : goal.reference_issues-requires
reference_issues-requires c = no_breaches _ c.in_ok-issues.issues c.len.result c.in_ok-issues.ensures c.len.ensures c.if-len-gt0.false
