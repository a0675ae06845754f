use Rattle.cat_journal.proofs.Puts.{safe_torn, shut_synced, safe_synced}
use Rattle.cat_journal.proofs.Scanning.{zero_synced}
use Rattle.cat_journal.proofs.gate.shut.Goals as goal

pub returns-in-Failed-clause-safely : goal.returns-in-Failed-clause-safely
returns-in-Failed-clause-safely g c = safe_torn c.args.gate _ _ _ (g.D.Disk.content c.write_at.new.self) c.in-Failed.ensures.moments

pub returns-in-Done-clause-shuts : goal.returns-in-Done-clause-shuts
returns-in-Done-clause-shuts g c = shut_synced c.args.gate _ _ _ _ _ _ c.requires c.in-Done.ensures.moments c.in-Done.ensures.bytes _ c.sync.ensures.moments c.sync.ensures.bytes

pub returns-in-Done-clause-safely : goal.returns-in-Done-clause-safely
returns-in-Done-clause-safely g c = safe_synced c.args.gate _ _ _ _ (g.D.Disk.content c.write_at.new.self) (g.D.Disk.content c.sync.new.self) c.requires c.in-Done.ensures.moments c.in-Done.ensures.bytes _ c.sync.ensures.moments

pub returns-in-Done-clause-zero : goal.returns-in-Done-clause-zero
returns-in-Done-clause-zero g c = zero_synced c.args.gate (g.D.Disk.moments c.args.disk.now) (g.D.Disk.moments c.write_at.new.self) (g.D.Disk.moments c.sync.new.self) (g.D.Disk.content c.args.disk.now) (g.D.Disk.content c.write_at.new.self) (g.D.Disk.content c.sync.new.self) c.in-Done.ensures.moments c.in-Done.ensures.bytes _ c.sync.ensures.bytes
