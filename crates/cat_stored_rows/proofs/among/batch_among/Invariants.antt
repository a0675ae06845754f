use Rattle.std.proofs.Common.{drop}
use Rattle.cat_stored_rows.proofs.LeadingKeys.{Leads}
use Rattle.cat_stored_rows.proofs.among.batch_among.Given as goal

-- the changes so far lead on, while these keys are left
abbrev pub invariant-loop-key : goal.invariant-loop-key
invariant-loop-key l = Leads l.old l.new (drop l.key-index l.keys) l.batch
