use Rattle.std.proofs.Common.{subst}
use Rattle.cat_journal.specs.Writes.{Seen}
use Rattle.cat_journal.specs.Loads.{Takes, TakesSafely}
use Rattle.cat_journal.proofs.Takes.{seen}
use Rattle.cat_journal.proofs.Loadings.{same_seen}
use Rattle.cat_journal.specs.Stands.{LoadsStill}
use Rattle.cat_journal.proofs.Standing.{unread_still}
use Rattle.cat_journal.proofs.load.read_and_take.Goals as goal

pub returns-in-Read-clause-takes : goal.returns-in-Read-clause-takes
returns-in-Read-clause-takes g c =
    subst (λ (x : Seen). Takes c.args.known x (seen (g.D.Disk.moments c.take.new.disk) (g.D.Disk.content c.take.new.disk)) c.take.result.0 c.take.result.1) (same_seen (g.D.Disk.moments c.args.disk.now) (g.D.Disk.moments c.read.new.self) (g.D.Disk.content c.args.disk.now) (g.D.Disk.content c.read.new.self) c.in-Read.ensures.moments c.in-Read.ensures.content) c.take.ensures.takes

pub returns-in-Read-clause-safely : goal.returns-in-Read-clause-safely
returns-in-Read-clause-safely g c =
    subst (λ (x : Seen). TakesSafely x (seen (g.D.Disk.moments c.take.new.disk) (g.D.Disk.content c.take.new.disk))) (same_seen (g.D.Disk.moments c.args.disk.now) (g.D.Disk.moments c.read.new.self) (g.D.Disk.content c.args.disk.now) (g.D.Disk.content c.read.new.self) c.in-Read.ensures.moments c.in-Read.ensures.content) c.take.ensures.safely

pub returns-in-Read-clause-still : goal.returns-in-Read-clause-still
returns-in-Read-clause-still g c =
    subst (λ (x : Seen). LoadsStill c.args.known x (seen (g.D.Disk.moments c.take.new.disk) (g.D.Disk.content c.take.new.disk)) c.take.result.0 c.take.result.1) (same_seen (g.D.Disk.moments c.args.disk.now) (g.D.Disk.moments c.read.new.self) (g.D.Disk.content c.args.disk.now) (g.D.Disk.content c.read.new.self) c.in-Read.ensures.moments c.in-Read.ensures.content) c.take.ensures.still

pub returns-in-Failed-clause-still : goal.returns-in-Failed-clause-still
returns-in-Failed-clause-still g c = unread_still c.args.known (seen (g.D.Disk.moments c.args.disk.now) (g.D.Disk.content c.args.disk.now)) (seen (g.D.Disk.moments c.read.new.self) (g.D.Disk.content c.read.new.self)) c.requires.decided (same_seen (g.D.Disk.moments c.args.disk.now) (g.D.Disk.moments c.read.new.self) (g.D.Disk.content c.args.disk.now) (g.D.Disk.content c.read.new.self) c.in-Failed.ensures.moments c.in-Failed.ensures.content)
