use Rattle.std.proofs.Common.{◌<◌, length, arith, rules}
use Rattle.cat_journal.proofs.Takes.{take_begun, take_unbegun, take_closed, take_shut, take_held, take_safe, take_safe_begun}
use Rattle.cat_journal.proofs.Standing.{still_unbegun, still_held}
use Rattle.cat_journal.proofs.load.take_up.Goals as goal

pub returns-in-Done-clause-takes_up : goal.returns-in-Done-clause-takes_up
returns-in-Done-clause-takes_up g c = take_begun c.args.known c.args.gate (g.D.Disk.moments c.args.disk.now) (g.D.Disk.moments c.begin.new.disk) (g.D.Disk.content c.args.disk.now) (g.D.Disk.content c.begin.new.disk) c.args.content.now c.requires.reads c.if-content-le9.true c.in-Done.ensures.begins

pub returns-in-Failed-clause-takes_up : goal.returns-in-Failed-clause-takes_up
returns-in-Failed-clause-takes_up g c = take_unbegun c.args.known c.args.gate (g.D.Disk.moments c.args.disk.now) (g.D.Disk.moments c.begin.new.disk) (g.D.Disk.content c.args.disk.now) (g.D.Disk.content c.begin.new.disk) c.args.content.now c.requires.decided c.requires.reads c.if-content-le9.true c.in-Failed.ensures.begins

pub returns-in-Done-clause-safely : goal.returns-in-Done-clause-safely
returns-in-Done-clause-safely g c = take_safe_begun c.args.gate (g.D.Disk.moments c.args.disk.now) (g.D.Disk.moments c.begin.new.disk) (g.D.Disk.content c.args.disk.now) (g.D.Disk.content c.begin.new.disk) c.args.content.now c.requires.reads c.if-content-le9.true c.in-Done.ensures.safely

pub returns-in-Failed-clause-safely : goal.returns-in-Failed-clause-safely
returns-in-Failed-clause-safely g c = take_safe_begun c.args.gate (g.D.Disk.moments c.args.disk.now) (g.D.Disk.moments c.begin.new.disk) (g.D.Disk.content c.args.disk.now) (g.D.Disk.content c.begin.new.disk) c.args.content.now c.requires.reads c.if-content-le9.true c.in-Failed.ensures.safely

pub returns-then-content-gate-eq0-clause-takes_up : goal.returns-then-content-gate-eq0-clause-takes_up
returns-then-content-gate-eq0-clause-takes_up g c =
    let many : 9 < length c.args.content.now = omega arith in
    take_closed c.args.known c.args.gate (g.D.Disk.moments c.args.disk.now) (g.D.Disk.moments c.args.disk.now) (g.D.Disk.content c.args.disk.now) (g.D.Disk.content c.args.disk.now) c.args.content.now c.requires.reads many (c.requires.inside many) (search rules)

pub returns-in-Done-shut-clause-takes_up : goal.returns-in-Done-shut-clause-takes_up
returns-in-Done-shut-clause-takes_up g c =
    let many : 9 < length c.args.content.now = omega arith in
    take_shut c.args.known c.args.gate (g.D.Disk.moments c.args.disk.now) (g.D.Disk.moments c.shut.new.disk) (g.D.Disk.content c.args.disk.now) (g.D.Disk.content c.shut.new.disk) c.args.content.now c.requires.reads many (c.requires.inside many) c.in-Done-shut.ensures.shuts

pub returns-in-Failed-shut-clause-takes_up : goal.returns-in-Failed-shut-clause-takes_up
returns-in-Failed-shut-clause-takes_up g c =
    let many : 9 < length c.args.content.now = omega arith in
    take_held c.args.known c.args.gate (g.D.Disk.moments c.args.disk.now) (g.D.Disk.moments c.shut.new.disk) (g.D.Disk.content c.args.disk.now) (g.D.Disk.content c.shut.new.disk) c.args.content.now c.requires.reads many (c.requires.inside many) c.in-Failed-shut.ensures.shuts

pub returns-in-Done-shut-clause-safely : goal.returns-in-Done-shut-clause-safely
returns-in-Done-shut-clause-safely g c =
    let many : 9 < length c.args.content.now = omega arith in
    take_safe c.args.known c.args.gate (g.D.Disk.moments c.args.disk.now) (g.D.Disk.moments c.shut.new.disk) (g.D.Disk.content c.args.disk.now) (g.D.Disk.content c.shut.new.disk) c.args.content.now c.requires.reads many (c.requires.inside many) (λ zero. search rules) c.in-Done-shut.ensures.safely

pub returns-in-Failed-shut-clause-safely : goal.returns-in-Failed-shut-clause-safely
returns-in-Failed-shut-clause-safely g c =
    let many : 9 < length c.args.content.now = omega arith in
    take_safe c.args.known c.args.gate (g.D.Disk.moments c.args.disk.now) (g.D.Disk.moments c.shut.new.disk) (g.D.Disk.content c.args.disk.now) (g.D.Disk.content c.shut.new.disk) c.args.content.now c.requires.reads many (c.requires.inside many) (λ zero. search rules) c.in-Failed-shut.ensures.safely

pub returns-in-Failed-clause-still : goal.returns-in-Failed-clause-still
returns-in-Failed-clause-still g c = still_unbegun c.args.known c.args.gate (g.D.Disk.moments c.args.disk.now) (g.D.Disk.moments c.begin.new.disk) (g.D.Disk.content c.args.disk.now) (g.D.Disk.content c.begin.new.disk) c.args.content.now c.requires.decided c.requires.reads c.if-content-le9.true c.in-Failed.ensures.begins

pub returns-in-Failed-shut-clause-still : goal.returns-in-Failed-shut-clause-still
returns-in-Failed-shut-clause-still g c =
    let many : 9 < length c.args.content.now = omega arith in
    still_held c.args.known c.args.gate (g.D.Disk.moments c.args.disk.now) (g.D.Disk.moments c.shut.new.disk) (g.D.Disk.content c.args.disk.now) (g.D.Disk.content c.shut.new.disk) c.args.content.now c.requires.reads many (c.requires.inside many) (λ zero. search rules) c.in-Failed-shut.ensures.next
