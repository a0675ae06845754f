use Rattle.cat_journal.specs.declared.load.Known.TheVariants.{Closed, Doubtful}
use Rattle.cat_journal.proofs.Kept.{puts_at, doubt_puts}
use Rattle.cat_journal.proofs.Takes.{seen}
use Rattle.cat_journal.proofs.Standing.{stands_at, doubt_commits, doubt_fails}
use Rattle.cat_journal.proofs.commit.put.Goals as goal

pub returns-in-Done-clause-puts : goal.returns-in-Done-clause-puts
returns-in-Done-clause-puts g c =
    puts_at c.args.known (Doubtful c.in-Doubtful.gate) c.put_at-in-Done.result.0 (seen (g.D.Disk.moments c.args.disk.now) (g.D.Disk.content c.args.disk.now)) (seen (g.D.Disk.moments c.put_at-in-Done.new.disk) (g.D.Disk.content c.put_at-in-Done.new.disk)) c.args.text.now c.put_at-in-Done.result.1 c.in-Doubtful.is
    (doubt_puts c.in-Doubtful.gate c.put_at-in-Done.result.0 (g.D.Disk.moments c.args.disk.now) (g.D.Disk.moments c.shut.new.disk) (g.D.Disk.moments c.put_at-in-Done.new.disk) (g.D.Disk.content c.args.disk.now) (g.D.Disk.content c.shut.new.disk) (g.D.Disk.content c.put_at-in-Done.new.disk) c.args.text.now c.put_at-in-Done.result.1 c.in-Done.ensures.shuts c.put_at-in-Done.ensures.puts)

pub returns-in-Done-clause-crash : goal.returns-in-Done-clause-crash
returns-in-Done-clause-crash g c = λ base more body batch spelled is s.
    doubt_commits c.in-Doubtful.gate base more batch c.put_at-in-Done.result.0 c.put_at-in-Done.result.1 (g.D.Disk.moments c.args.disk.now) (g.D.Disk.moments c.shut.new.disk) (g.D.Disk.moments c.put_at-in-Done.new.disk) (g.D.Disk.content c.args.disk.now) (g.D.Disk.content c.shut.new.disk) (g.D.Disk.content c.put_at-in-Done.new.disk) c.in-Done.ensures.safely c.in-Done.ensures.shuts (c.put_at-in-Done.ensures.crash base more body batch spelled is)
    (stands_at base more c.args.known (Doubtful c.in-Doubtful.gate) (seen (g.D.Disk.moments c.args.disk.now) (g.D.Disk.content c.args.disk.now)) c.in-Doubtful.is s)

pub returns-in-Failed-clause-crash : goal.returns-in-Failed-clause-crash
returns-in-Failed-clause-crash g c = λ base more body batch spelled is s.
    doubt_fails c.in-Doubtful.gate base more batch (g.D.Disk.moments c.args.disk.now) (g.D.Disk.moments c.shut.new.disk) (g.D.Disk.content c.args.disk.now) (g.D.Disk.content c.shut.new.disk) c.in-Failed.ensures.safely c.in-Failed.ensures.next (stands_at base more c.args.known (Doubtful c.in-Doubtful.gate) (seen (g.D.Disk.moments c.args.disk.now) (g.D.Disk.content c.args.disk.now)) c.in-Doubtful.is s)

pub returns-in-Closed-clause-crash : goal.returns-in-Closed-clause-crash
returns-in-Closed-clause-crash g c = λ base more body batch spelled is s.
    c.put_at.ensures.crash base more body batch spelled is (stands_at base more c.args.known (Closed c.in-Closed.gate) (seen (g.D.Disk.moments c.args.disk.now) (g.D.Disk.content c.args.disk.now)) c.in-Closed.is s)
