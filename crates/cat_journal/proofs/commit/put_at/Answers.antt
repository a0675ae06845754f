use Rattle.std.proofs.Common.{◌+◌, length, refl, arith}
use Rattle.cat_journal.proofs.Kept.{closed_safe, doubt_safe, kept_ready, gate_ready, puts_gate}
use Rattle.cat_journal.proofs.Standing.{commits_kept, commits_behind, commits_gate}
use Rattle.cat_journal.proofs.commit.put_at.Goals as goal

pub returns-in-Kept-clause-safe : goal.returns-in-Kept-clause-safe
returns-in-Kept-clause-safe g c = closed_safe (c.args.gate + length c.args.text.now) (g.D.Disk.moments c.put_record.new.disk) (g.D.Disk.content c.put_record.new.disk) (omega (arith, c.in-Kept.ensures.within refl)) (kept_ready c.args.gate (c.args.gate + length c.args.text.now) (g.D.Disk.moments c.args.disk.now) (g.D.Disk.moments c.put_record.new.disk) (g.D.Disk.content c.args.disk.now) (g.D.Disk.content c.put_record.new.disk) c.args.text.now refl c.requires.spelled.0 c.requires.spelled.1 c.requires.spelled.2 c.requires.ready c.put_record.ensures.silent c.in-Kept.ensures.puts)

pub returns-in-Kept-clause-ready : goal.returns-in-Kept-clause-ready
returns-in-Kept-clause-ready g c = kept_ready c.args.gate (c.args.gate + length c.args.text.now) (g.D.Disk.moments c.args.disk.now) (g.D.Disk.moments c.put_record.new.disk) (g.D.Disk.content c.args.disk.now) (g.D.Disk.content c.put_record.new.disk) c.args.text.now refl c.requires.spelled.0 c.requires.spelled.1 c.requires.spelled.2 c.requires.ready c.put_record.ensures.silent c.in-Kept.ensures.puts

pub returns-in-AtGate-clause-safe : goal.returns-in-AtGate-clause-safe
returns-in-AtGate-clause-safe g c = doubt_safe c.args.gate (g.D.Disk.moments c.put_record.new.disk) (g.D.Disk.content c.put_record.new.disk) c.requires.safe.0 (gate_ready c.args.gate (g.D.Disk.moments c.args.disk.now) (g.D.Disk.moments c.put_record.new.disk) (g.D.Disk.content c.args.disk.now) (g.D.Disk.content c.put_record.new.disk) c.args.text.now c.requires.spelled.0 c.requires.spelled.1 c.requires.spelled.2 c.requires.ready c.put_record.ensures.silent c.in-AtGate.ensures.puts)

pub returns-in-AtGate-clause-ready : goal.returns-in-AtGate-clause-ready
returns-in-AtGate-clause-ready g c = gate_ready c.args.gate (g.D.Disk.moments c.args.disk.now) (g.D.Disk.moments c.put_record.new.disk) (g.D.Disk.content c.args.disk.now) (g.D.Disk.content c.put_record.new.disk) c.args.text.now c.requires.spelled.0 c.requires.spelled.1 c.requires.spelled.2 c.requires.ready c.put_record.ensures.silent c.in-AtGate.ensures.puts

pub returns-in-AtGate-clause-puts : goal.returns-in-AtGate-clause-puts
returns-in-AtGate-clause-puts g c = puts_gate c.args.gate (g.D.Disk.moments c.args.disk.now) (g.D.Disk.moments c.put_record.new.disk) (g.D.Disk.content c.args.disk.now) (g.D.Disk.content c.put_record.new.disk) c.args.text.now c.in-AtGate.ensures.puts

pub returns-in-Kept-clause-crash : goal.returns-in-Kept-clause-crash
returns-in-Kept-clause-crash g c = λ base more body batch spelled is s. commits_kept c.args.gate c.args.text.now (g.D.Disk.moments c.args.disk.now) (g.D.Disk.moments c.put_record.new.disk) (g.D.Disk.content c.args.disk.now) (g.D.Disk.content c.put_record.new.disk) c.requires.ready c.put_record.ensures.safely (c.args.gate + length c.args.text.now) refl c.in-Kept.ensures.puts base more body batch spelled is s

pub returns-in-Behind-clause-crash : goal.returns-in-Behind-clause-crash
returns-in-Behind-clause-crash g c = λ base more body batch spelled is s. commits_behind c.args.gate c.args.text.now (g.D.Disk.moments c.args.disk.now) (g.D.Disk.moments c.put_record.new.disk) (g.D.Disk.content c.args.disk.now) (g.D.Disk.content c.put_record.new.disk) c.requires.ready c.put_record.ensures.safely c.in-Behind.ensures.puts base more body batch spelled is s

pub returns-in-AtGate-clause-crash : goal.returns-in-AtGate-clause-crash
returns-in-AtGate-clause-crash g c = λ base more body batch spelled is s. commits_gate c.args.gate c.args.text.now (g.D.Disk.moments c.args.disk.now) (g.D.Disk.moments c.put_record.new.disk) (g.D.Disk.content c.args.disk.now) (g.D.Disk.content c.put_record.new.disk) c.requires.ready c.put_record.ensures.safely c.in-AtGate.ensures.puts base more body batch spelled is s
