use Rattle.std.proofs.Common.{rules}
use Rattle.cat_journal.proofs.Puts.{begin_safe_torn, begin_synced, begin_safe_synced}
use Rattle.cat_journal.proofs.gate.begin.Goals as goal

pub returns-in-Failed-clause-safely : goal.returns-in-Failed-clause-safely
returns-in-Failed-clause-safely g c = begin_safe_torn _ _ _ (g.D.Disk.content c.write_at.new.self) c.in-Failed.ensures.moments

pub returns-in-Done-clause-begins : goal.returns-in-Done-clause-begins
returns-in-Done-clause-begins g c = begin_synced _ _ _ _ _ _ (search rules) c.in-Done.ensures.moments c.in-Done.ensures.bytes _ c.sync.ensures.moments c.sync.ensures.bytes

pub returns-in-Done-clause-safely : goal.returns-in-Done-clause-safely
returns-in-Done-clause-safely g c = begin_safe_synced _ _ _ _ (g.D.Disk.content c.write_at.new.self) (g.D.Disk.content c.sync.new.self) (search rules) c.in-Done.ensures.moments c.in-Done.ensures.bytes _ c.sync.ensures.moments
