use Rattle.std.proofs.Common.{arith}
use Rattle.cat_disk.specs.declared.disk.DiskDone.TheVariants.{Done, Failed}
use Rattle.cat_journal.proofs.Puts.{put_safe_torn, put_safe_unsynced, gate_torn, put_safe_gate, gate_unsynced, put_kept, put_safe_synced, some_batch}
use Rattle.cat_journal.proofs.gate.put_record.Goals as goal

pub returns-in-Failed-clause-safely : goal.returns-in-Failed-clause-safely
returns-in-Failed-clause-safely g c = put_safe_torn c.args.gate c.args.text.now _ _ _ (g.D.Disk.content c.write_at.new.self) c.in-Failed.ensures.moments

pub returns-in-Failed-sync-clause-safely : goal.returns-in-Failed-sync-clause-safely
returns-in-Failed-sync-clause-safely g c =
    put_safe_unsynced c.args.gate c.args.text.now _ _ _ _ (g.D.Disk.content c.write_at.new.self) (g.D.Disk.content c.sync.new.self) (omega (arith, c.requires.within.1)) c.requires.starts c.in-Done.ensures.moments c.in-Done.ensures.bytes c.in-Failed-sync.ensures.moments

pub returns-in-Failed-write_at-clause-puts : goal.returns-in-Failed-write_at-clause-puts
returns-in-Failed-write_at-clause-puts g c = λ bodies body spelled batch now.
    gate_torn c.args.gate c.args.text.now _ _ _ _ (g.D.Disk.content c.write_at.new.self) (g.D.Disk.content c.sync.new.self) (omega (arith, c.requires.within.1)) c.requires.starts c.in-Done.ensures.moments c.in-Done.ensures.bytes c.in-Done-sync.ensures.moments c.in-Done-sync.ensures.bytes _ (g.D.Disk.content c.write_at-2.new.self) bodies body spelled batch now
    c.in-Failed-write_at.ensures.moments c.in-Failed-write_at.ensures.bytes

pub returns-in-Failed-write_at-clause-safely : goal.returns-in-Failed-write_at-clause-safely
returns-in-Failed-write_at-clause-safely g c = λ bodies body batch more spelled is among now.
    put_safe_gate c.args.gate c.args.text.now _ _ _ _ (g.D.Disk.content c.write_at.new.self) (g.D.Disk.content c.sync.new.self) (omega (arith, c.requires.within.1)) c.requires.starts c.in-Done.ensures.moments c.in-Done.ensures.bytes c.in-Done-sync.ensures.moments c.in-Done-sync.ensures.bytes _ (g.D.Disk.content c.write_at-2.new.self) bodies body spelled (some_batch body batch is) now
    batch more is among c.in-Failed-write_at.ensures.moments

pub returns-in-Failed-sync-2-clause-puts : goal.returns-in-Failed-sync-2-clause-puts
returns-in-Failed-sync-2-clause-puts g c = λ bodies body spelled batch now.
    gate_unsynced c.args.gate c.args.text.now _ _ _ _ (g.D.Disk.content c.write_at.new.self) (g.D.Disk.content c.sync.new.self) (omega (arith, c.requires.within.1)) c.requires.starts c.in-Done.ensures.moments c.in-Done.ensures.bytes c.in-Done-sync.ensures.moments c.in-Done-sync.ensures.bytes _ (g.D.Disk.content c.write_at-2.new.self) bodies body spelled batch now
    _ (g.D.Disk.content c.sync-2.new.self) c.in-Done-write_at.ensures.moments c.in-Done-write_at.ensures.bytes c.in-Failed-sync-2.ensures.moments c.in-Failed-sync-2.ensures.bytes

pub returns-in-Failed-sync-2-clause-safely : goal.returns-in-Failed-sync-2-clause-safely
returns-in-Failed-sync-2-clause-safely g c = λ bodies body batch more spelled is among now.
    put_safe_synced c.args.gate c.args.text.now _ _ _ _ (g.D.Disk.content c.write_at.new.self) (g.D.Disk.content c.sync.new.self) (omega (arith, c.requires.within.1)) c.requires.starts c.in-Done.ensures.moments c.in-Done.ensures.bytes c.in-Done-sync.ensures.moments c.in-Done-sync.ensures.bytes _ (g.D.Disk.content c.write_at-2.new.self) bodies body spelled (some_batch body batch is) now
    _ (g.D.Disk.content c.sync-2.new.self) c.in-Done-write_at.ensures.moments c.in-Done-write_at.ensures.bytes Failed batch more is among c.in-Failed-sync-2.ensures.moments

pub returns-in-Done-sync-2-clause-puts : goal.returns-in-Done-sync-2-clause-puts
returns-in-Done-sync-2-clause-puts g c = λ bodies body spelled batch now.
    put_kept c.args.gate c.args.text.now _ _ _ _ (g.D.Disk.content c.write_at.new.self) (g.D.Disk.content c.sync.new.self) (omega (arith, c.requires.within.1)) c.requires.starts c.in-Done.ensures.moments c.in-Done.ensures.bytes c.in-Done-sync.ensures.moments c.in-Done-sync.ensures.bytes _ (g.D.Disk.content c.write_at-2.new.self) bodies body spelled batch now
    _ (g.D.Disk.content c.sync-2.new.self) c.in-Done-write_at.ensures.moments c.in-Done-write_at.ensures.bytes c.in-Done-sync-2.ensures.moments c.in-Done-sync-2.ensures.bytes

pub returns-in-Done-sync-2-clause-safely : goal.returns-in-Done-sync-2-clause-safely
returns-in-Done-sync-2-clause-safely g c = λ bodies body batch more spelled is among now.
    put_safe_synced c.args.gate c.args.text.now _ _ _ _ (g.D.Disk.content c.write_at.new.self) (g.D.Disk.content c.sync.new.self) (omega (arith, c.requires.within.1)) c.requires.starts c.in-Done.ensures.moments c.in-Done.ensures.bytes c.in-Done-sync.ensures.moments c.in-Done-sync.ensures.bytes _ (g.D.Disk.content c.write_at-2.new.self) bodies body spelled (some_batch body batch is) now
    _ (g.D.Disk.content c.sync-2.new.self) c.in-Done-write_at.ensures.moments c.in-Done-write_at.ensures.bytes Done batch more is among c.in-Done-sync-2.ensures.moments
