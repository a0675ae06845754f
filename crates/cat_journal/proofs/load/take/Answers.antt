use Rattle.std.proofs.Common.{inr}
use Rattle.cat_journal.proofs.Loadings.{scan_inside, take_found, take_failed, take_harmed, take_safely}
use Rattle.cat_journal.proofs.Standing.{take_still}
use Rattle.cat_journal.proofs.load.take.Goals as goal

pub take_up-requires-clause-inside : goal.take_up-requires-clause-inside
take_up-requires-clause-inside g c = scan_inside c.args.content.now c.in-Ok-Found.rows c.in-Ok-Found.gate (rw c.in-Ok-Found.field-0-is at c.in-Ok-Found.ensures)

pub returns-in_default-Done-clause-takes : goal.returns-in_default-Done-clause-takes
returns-in_default-Done-clause-takes g c =
    take_found c.args.known c.take_up.result.0 c.in-Ok-Found.rows c.in-Ok-Found.gate (g.D.Disk.moments c.args.disk.now) (g.D.Disk.moments c.take_up.new.disk) (g.D.Disk.content c.args.disk.now) (g.D.Disk.content c.take_up.new.disk) c.args.content.now c.requires.reads (rw c.in-Ok-Found.field-0-is at c.in-Ok-Found.ensures) (rw c.in_default-Done.is-1 at c.take_up.ensures.takes_up)

pub returns-in_default-Done-clause-safely : goal.returns-in_default-Done-clause-safely
returns-in_default-Done-clause-safely g c =
    take_safely c.in-Ok-Found.rows c.in-Ok-Found.gate (g.D.Disk.moments c.args.disk.now) (g.D.Disk.moments c.take_up.new.disk) (g.D.Disk.content c.args.disk.now) (g.D.Disk.content c.take_up.new.disk) c.args.content.now c.requires.reads (rw c.in-Ok-Found.field-0-is at c.in-Ok-Found.ensures) c.take_up.ensures.safely

pub returns-in_default-Failed-clause-takes : goal.returns-in_default-Failed-clause-takes
returns-in_default-Failed-clause-takes g c =
    take_failed c.args.known c.take_up.result.0 c.in-Ok-Found.rows c.in-Ok-Found.gate (g.D.Disk.moments c.args.disk.now) (g.D.Disk.moments c.take_up.new.disk) (g.D.Disk.content c.args.disk.now) (g.D.Disk.content c.take_up.new.disk) c.args.content.now c.requires.reads (rw c.in-Ok-Found.field-0-is at c.in-Ok-Found.ensures) (rw c.in_default-Failed.is-1 at c.take_up.ensures.takes_up)

pub returns-in_default-Failed-clause-safely : goal.returns-in_default-Failed-clause-safely
returns-in_default-Failed-clause-safely g c =
    take_safely c.in-Ok-Found.rows c.in-Ok-Found.gate (g.D.Disk.moments c.args.disk.now) (g.D.Disk.moments c.take_up.new.disk) (g.D.Disk.content c.args.disk.now) (g.D.Disk.content c.take_up.new.disk) c.args.content.now c.requires.reads (rw c.in-Ok-Found.field-0-is at c.in-Ok-Found.ensures) c.take_up.ensures.safely

pub returns-in_default-Failed-clause-reads : goal.returns-in_default-Failed-clause-reads
returns-in_default-Failed-clause-reads g c = inr (c.in-Ok-Found.rows, c.in-Ok-Found.gate, rw c.in-Ok-Found.field-0-is at c.in-Ok-Found.ensures)

pub returns-in-Ok-Damaged-clause-takes : goal.returns-in-Ok-Damaged-clause-takes
returns-in-Ok-Damaged-clause-takes g c = take_harmed c.args.known c.in-Ok-Damaged.place (g.D.Disk.moments c.args.disk.now) (g.D.Disk.content c.args.disk.now) c.args.content.now c.requires.reads (rw c.in-Ok-Damaged.field-0-is at c.in-Ok-Damaged.ensures)

pub returns-in_default-Failed-clause-still : goal.returns-in_default-Failed-clause-still
returns-in_default-Failed-clause-still g c =
    take_still c.args.known c.take_up.result.0 c.in-Ok-Found.rows c.in-Ok-Found.gate (g.D.Disk.moments c.args.disk.now) (g.D.Disk.moments c.take_up.new.disk) (g.D.Disk.content c.args.disk.now) (g.D.Disk.content c.take_up.new.disk) c.args.content.now c.requires.reads (rw c.in-Ok-Found.field-0-is at c.in-Ok-Found.ensures) (rw c.in_default-Failed.is-1 at c.take_up.ensures.still)
