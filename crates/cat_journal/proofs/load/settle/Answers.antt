use Rattle.cat_journal.proofs.Takes.{settles_doubt, settles_still, settles_closed, settles_nothing, starts_safe}
use Rattle.cat_journal.specs.declared.load.Known.TheVariants.{Nothing, Closed, Doubtful}
use Rattle.cat_journal.proofs.Takes.{seen}
use Rattle.cat_journal.proofs.Standing.{stands_at, doubt_settles, doubt_stays, closed_settles, nothing_settles}
use Rattle.cat_journal.proofs.Scanning.{synced_reads, doubt_reads, nothing_reads, closed_reads}
use Rattle.cat_journal.proofs.load.settle.Goals as goal

pub shut-requires : goal.shut-requires
shut-requires g c = starts_safe c.args.known c.in-Doubtful.gate _ _ c.in-Doubtful.is c.requires

pub returns-in-Done-clause-settles : goal.returns-in-Done-clause-settles
returns-in-Done-clause-settles g c = settles_doubt c.args.known c.in-Doubtful.gate _ _ _ _ c.in-Doubtful.is c.requires c.in-Done.ensures.shuts

pub returns-in-Failed-clause-settles : goal.returns-in-Failed-clause-settles
returns-in-Failed-clause-settles g c = settles_still c.args.known c.in-Doubtful.gate _ _ _ _ c.in-Doubtful.is c.in-Failed.ensures.shuts

pub returns-in-Closed-clause-settles : goal.returns-in-Closed-clause-settles
returns-in-Closed-clause-settles g c = settles_closed c.args.known c.in-Closed.gate _ _ _ _ _ c.in-Closed.is c.sync.ensures.moments c.sync.ensures.bytes

pub returns-in-Nothing-clause-settles : goal.returns-in-Nothing-clause-settles
returns-in-Nothing-clause-settles g c = settles_nothing c.args.known _ _ _ _ _ c.in-Nothing.is c.sync-in-Nothing.ensures.moments c.sync-in-Nothing.ensures.bytes

pub returns-in-Done-clause-crash : goal.returns-in-Done-clause-crash
returns-in-Done-clause-crash g c = λ base more s.
    doubt_settles c.in-Doubtful.gate base more (g.D.Disk.moments c.args.disk.now) (g.D.Disk.moments c.shut.new.disk) (g.D.Disk.content c.args.disk.now) (g.D.Disk.content c.shut.new.disk) c.in-Done.ensures.safely c.in-Done.ensures.shuts (stands_at base more c.args.known (Doubtful c.in-Doubtful.gate) (seen (g.D.Disk.moments c.args.disk.now) (g.D.Disk.content c.args.disk.now)) c.in-Doubtful.is s)

pub returns-in-Failed-clause-crash : goal.returns-in-Failed-clause-crash
returns-in-Failed-clause-crash g c = λ base more s.
    doubt_stays c.in-Doubtful.gate base more (g.D.Disk.moments c.args.disk.now) (g.D.Disk.moments c.shut.new.disk) (g.D.Disk.content c.args.disk.now) (g.D.Disk.content c.shut.new.disk) c.in-Failed.ensures.safely c.in-Failed.ensures.next (stands_at base more c.args.known (Doubtful c.in-Doubtful.gate) (seen (g.D.Disk.moments c.args.disk.now) (g.D.Disk.content c.args.disk.now)) c.in-Doubtful.is s)

pub returns-in-Closed-clause-crash : goal.returns-in-Closed-clause-crash
returns-in-Closed-clause-crash g c = λ base more s.
    closed_settles c.in-Closed.gate base more (g.D.Disk.moments c.args.disk.now) (g.D.Disk.moments c.sync.new.self) (g.D.Disk.content c.args.disk.now) (g.D.Disk.content c.sync.new.self) c.sync.result c.sync.ensures.moments c.sync.ensures.bytes (stands_at base more c.args.known (Closed c.in-Closed.gate) (seen (g.D.Disk.moments c.args.disk.now) (g.D.Disk.content c.args.disk.now)) c.in-Closed.is s)

pub returns-in-Nothing-clause-crash : goal.returns-in-Nothing-clause-crash
returns-in-Nothing-clause-crash g c = λ base more s.
    nothing_settles base more (g.D.Disk.moments c.args.disk.now) (g.D.Disk.moments c.sync-in-Nothing.new.self) (g.D.Disk.content c.args.disk.now) (g.D.Disk.content c.sync-in-Nothing.new.self) c.sync-in-Nothing.result c.sync-in-Nothing.ensures.moments c.sync-in-Nothing.ensures.bytes (stands_at base more c.args.known Nothing (seen (g.D.Disk.moments c.args.disk.now) (g.D.Disk.content c.args.disk.now)) c.in-Nothing.is s)

pub returns-in-Done-clause-reads : goal.returns-in-Done-clause-reads
returns-in-Done-clause-reads g c = doubt_reads c.args.known c.in-Doubtful.gate (g.D.Disk.moments c.args.disk.now) (g.D.Disk.moments c.shut.new.disk) (g.D.Disk.content c.args.disk.now) (g.D.Disk.content c.shut.new.disk) c.in-Doubtful.is c.in-Done.ensures.zero

pub returns-in-Closed-clause-reads : goal.returns-in-Closed-clause-reads
returns-in-Closed-clause-reads g c = synced_reads (g.D.Disk.moments c.args.disk.now) (g.D.Disk.moments c.sync.new.self) (g.D.Disk.content c.args.disk.now) (g.D.Disk.content c.sync.new.self) c.sync.result c.sync.ensures.bytes c.args.known (closed_reads c.args.known c.in-Closed.gate (g.D.Disk.content c.args.disk.now) c.in-Closed.is)

pub returns-in-Nothing-clause-reads : goal.returns-in-Nothing-clause-reads
returns-in-Nothing-clause-reads g c = synced_reads (g.D.Disk.moments c.args.disk.now) (g.D.Disk.moments c.sync-in-Nothing.new.self) (g.D.Disk.content c.args.disk.now) (g.D.Disk.content c.sync-in-Nothing.new.self) c.sync-in-Nothing.result c.sync-in-Nothing.ensures.bytes c.args.known (nothing_reads c.args.known (g.D.Disk.content c.args.disk.now) c.in-Nothing.is)
