use Rattle.cat_journal.proofs.Loadings.{load_safe, load_again, load_first, settle_failed_safe}
use Rattle.cat_journal.proofs.Loadings.{decided_is}
use Rattle.cat_journal.proofs.Standing.{taken_safe, unsettled_safe}
use Rattle.cat_journal.proofs.Scanning.{load_scanned}
use Rattle.cat_journal.proofs.load.load_rows.Goals as goal

pub returns-in_default-Done-clause-safe : goal.returns-in_default-Done-clause-safe
returns-in_default-Done-clause-safe g c =
    load_safe c.args.known c.settle.result.0 (g.D.Disk.moments c.args.disk.now) (g.D.Disk.moments c.settle.new.disk) (g.D.Disk.content c.args.disk.now) (g.D.Disk.content c.settle.new.disk) c.requires (rw c.in_default-Done.is-1 at c.settle.ensures.settles) c.read_and_take.result.0 (g.D.Disk.moments c.read_and_take.new.disk) (g.D.Disk.content c.read_and_take.new.disk) c.read_and_take.result.1 c.settle.ensures.silent c.read_and_take.ensures.silent c.settle.ensures.placed c.read_and_take.ensures.placed c.read_and_take.ensures.takes c.read_and_take.ensures.reads

pub returns-in_default-Done-clause-again : goal.returns-in_default-Done-clause-again
returns-in_default-Done-clause-again g c = load_again c.args.known c.settle.result.0 (g.D.Disk.moments c.args.disk.now) (g.D.Disk.moments c.settle.new.disk) (g.D.Disk.content c.args.disk.now) (g.D.Disk.content c.settle.new.disk) c.requires (rw c.in_default-Done.is-1 at c.settle.ensures.settles) c.read_and_take.result.0 (g.D.Disk.moments c.read_and_take.new.disk) (g.D.Disk.content c.read_and_take.new.disk) c.read_and_take.result.1 c.read_and_take.ensures.found c.read_and_take.ensures.takes

pub returns-in_default-Done-clause-first : goal.returns-in_default-Done-clause-first
returns-in_default-Done-clause-first g c = load_first c.args.known c.settle.result.0 (g.D.Disk.moments c.args.disk.now) (g.D.Disk.moments c.settle.new.disk) (g.D.Disk.content c.args.disk.now) (g.D.Disk.content c.settle.new.disk) c.requires (rw c.in_default-Done.is-1 at c.settle.ensures.settles) c.read_and_take.result.0 (g.D.Disk.moments c.read_and_take.new.disk) (g.D.Disk.content c.read_and_take.new.disk) c.read_and_take.result.1 c.read_and_take.ensures.takes c.read_and_take.ensures.reads

pub returns-in_default-Failed-clause-safe : goal.returns-in_default-Failed-clause-safe
returns-in_default-Failed-clause-safe g c = settle_failed_safe c.args.known c.settle.result.0 (g.D.Disk.moments c.args.disk.now) (g.D.Disk.moments c.settle.new.disk) (g.D.Disk.content c.args.disk.now) (g.D.Disk.content c.settle.new.disk) c.requires (rw c.in_default-Failed.is-1 at c.settle.ensures.settles) c.settle.ensures.silent

pub returns-in_default-Done-clause-crash : goal.returns-in_default-Done-clause-crash
returns-in_default-Done-clause-crash g c = λ base more s.
    let settles = rw c.in_default-Done.is-1 at c.settle.ensures.settles in
    let settled = rw c.in_default-Done.is-1 at (c.settle.ensures.crash base more s) in
    taken_safe base more c.settle.result.0 c.read_and_take.result.0 (g.D.Disk.moments c.args.disk.now) (g.D.Disk.moments c.settle.new.disk) (g.D.Disk.moments c.read_and_take.new.disk) (g.D.Disk.content c.args.disk.now) (g.D.Disk.content c.settle.new.disk) (g.D.Disk.content c.read_and_take.new.disk) (decided_is c.args.known c.settle.result.0 settles.0) settled.0 settled.1 c.read_and_take.ensures.safely c.read_and_take.result.1 c.read_and_take.ensures.takes c.read_and_take.ensures.still

pub returns-in_default-Failed-clause-crash : goal.returns-in_default-Failed-clause-crash
returns-in_default-Failed-clause-crash g c = λ base more s.
    unsettled_safe base more (g.D.Disk.moments c.args.disk.now) (g.D.Disk.moments c.settle.new.disk) (g.D.Disk.content c.args.disk.now) (g.D.Disk.content c.settle.new.disk) c.settle.result.0 (rw c.in_default-Failed.is-1 at (c.settle.ensures.crash base more s))

pub returns-in_default-Done-clause-scanned : goal.returns-in_default-Done-clause-scanned
returns-in_default-Done-clause-scanned g c = load_scanned c.args.known c.settle.result.0 c.read_and_take.result.0 (g.D.Disk.moments c.args.disk.now) (g.D.Disk.moments c.settle.new.disk) (g.D.Disk.moments c.read_and_take.new.disk) (g.D.Disk.content c.args.disk.now) (g.D.Disk.content c.settle.new.disk) (g.D.Disk.content c.read_and_take.new.disk) c.read_and_take.result.1 (rw c.in_default-Done.is-1 at c.settle.ensures.settles) (rw c.in_default-Done.is-1 at c.settle.ensures.reads) c.read_and_take.ensures.takes c.read_and_take.ensures.reads
