use Rattle.std.proofs.Common.{◌≡◌, ◌∙◌, true, ap, subst, rules}
use Rattle.std.specs.Prelude.{is_some, option_map}
use Rattle.cat_keeper.specs.Store.{applied}
use Rattle.cat_journal.specs.Batches.{batch_text}
use Rattle.cat_journal.specs.Keeps.{JournalState, told}
use Rattle.cat_journal.specs.declared.gate.Put.TheVariants.{Behind, AtGate}
use Rattle.cat_journal.proofs.Laws.{text_is_batch}
use Rattle.cat_journal.proofs.Kept.{kept_tables, unkept_tables}
use Rattle.cat_keeper.specs.declared.keeper.Committed.TheVariants as committed
use Rattle.cat_journal.specs.Stands.{IsSafeCommit}
use Rattle.cat_journal.proofs.Takes.{seen}
use Rattle.cat_journal.proofs.Standing.{stands_inside, put_kept_commit, put_behind_commit, put_gate_commit}
use Rattle.cat_journal.proofs.keeper.JournalKeeperKeeper.commit.Goals as goal

pub put-known-requires-clause-spelled : goal.put-known-requires-clause-spelled
put-known-requires-clause-spelled g c =
    (batch_text c.args.batch.now, c.deref.ensures.value ∙ c.in-Ok.ensures.text, ap is_some (text_is_batch (batch_text c.args.batch.now) c.args.batch.now c.in-Ok.ensures.spelled))

pub returns-in-Kept-clause-tables : goal.returns-in-Kept-clause-tables
returns-in-Kept-clause-tables g c = λ place.
    let ready : c.self.inside.ready ≡ true = search rules in
    subst (λ (s : JournalState). told c.put-known.result.0 (g.D.Disk.moments c.put-known.new.disk) (g.D.Disk.content c.put-known.new.disk) ≡ option_map (applied c.args.batch.now) (told s.known s.moments s.content)) c.self.view_is
    (kept_tables c.self.inside.known c.put-known.result.0 (g.D.Disk.moments c.self.inside.disk) (g.D.Disk.moments c.put-known.new.disk) (g.D.Disk.content c.self.inside.disk) (g.D.Disk.content c.put-known.new.disk) (c.self.invariant.1 ready) c.put-known.ensures.silent c.deref.result.now c.args.batch.now (c.deref.ensures.value ∙ c.in-Ok.ensures.text) c.in-Ok.ensures.spelled (rw c.in-Kept.is at c.put-known.ensures.puts))

pub returns-in-Behind-clause-tables : goal.returns-in-Behind-clause-tables
returns-in-Behind-clause-tables g c = λ place.
    let ready : c.self.inside.ready ≡ true = search rules in
    subst (λ (s : JournalState). told c.put-known.result.0 (g.D.Disk.moments c.put-known.new.disk) (g.D.Disk.content c.put-known.new.disk) ≡ told s.known s.moments s.content) c.self.view_is
    (unkept_tables c.self.inside.known c.put-known.result.0 (g.D.Disk.moments c.self.inside.disk) (g.D.Disk.moments c.put-known.new.disk) (g.D.Disk.content c.self.inside.disk) (g.D.Disk.content c.put-known.new.disk) (c.self.invariant.1 ready) c.put-known.ensures.silent c.deref.result.now c.args.batch.now (c.deref.ensures.value ∙ c.in-Ok.ensures.text) c.in-Ok.ensures.spelled Behind (λ is. cc) (rw c.in-Behind.is at c.put-known.ensures.puts))

pub returns-clause-tables : goal.returns-clause-tables
returns-clause-tables g c = λ place.
    let ready : c.self.inside.ready ≡ true = search rules in
    subst (λ (s : JournalState). told c.put-known.result.0 (g.D.Disk.moments c.put-known.new.disk) (g.D.Disk.content c.put-known.new.disk) ≡ told s.known s.moments s.content) c.self.view_is
    (unkept_tables c.self.inside.known c.put-known.result.0 (g.D.Disk.moments c.self.inside.disk) (g.D.Disk.moments c.put-known.new.disk) (g.D.Disk.content c.self.inside.disk) (g.D.Disk.content c.put-known.new.disk) (c.self.invariant.1 ready) c.put-known.ensures.silent c.deref.result.now c.args.batch.now (c.deref.ensures.value ∙ c.in-Ok.ensures.text) c.in-Ok.ensures.spelled AtGate (λ is. cc) (rw c.in-AtGate.is at c.put-known.ensures.puts))

pub returns-in-Kept-clause-crash : goal.returns-in-Kept-clause-crash
returns-in-Kept-clause-crash g c = λ base more s.
    let inside = stands_inside base more _ _ c.self.view_is s in
    subst (λ (k : JournalState). IsSafeCommit base more c.args.batch.now (seen k.moments k.content) (seen (g.D.Disk.moments c.put-known.new.disk) (g.D.Disk.content c.put-known.new.disk)) c.put-known.result.0 committed.Kept) c.self.view_is
    (put_kept_commit base more (seen (g.D.Disk.moments c.self.inside.disk) (g.D.Disk.content c.self.inside.disk)) (seen (g.D.Disk.moments c.put-known.new.disk) (g.D.Disk.content c.put-known.new.disk)) c.put-known.result.0 c.args.batch.now
    (rw c.in-Kept.is at (c.put-known.ensures.crash base more (batch_text c.args.batch.now) c.args.batch.now (c.deref.ensures.value ∙ c.in-Ok.ensures.text) (text_is_batch (batch_text c.args.batch.now) c.args.batch.now c.in-Ok.ensures.spelled) inside)))

pub returns-in-Behind-clause-crash : goal.returns-in-Behind-clause-crash
returns-in-Behind-clause-crash g c = λ base more s.
    let inside = stands_inside base more _ _ c.self.view_is s in
    subst (λ (k : JournalState). IsSafeCommit base more c.args.batch.now (seen k.moments k.content) (seen (g.D.Disk.moments c.put-known.new.disk) (g.D.Disk.content c.put-known.new.disk)) c.put-known.result.0 committed.Failed) c.self.view_is
    (put_behind_commit base more (seen (g.D.Disk.moments c.self.inside.disk) (g.D.Disk.content c.self.inside.disk)) (seen (g.D.Disk.moments c.put-known.new.disk) (g.D.Disk.content c.put-known.new.disk)) c.put-known.result.0 c.args.batch.now
    (rw c.in-Behind.is at (c.put-known.ensures.crash base more (batch_text c.args.batch.now) c.args.batch.now (c.deref.ensures.value ∙ c.in-Ok.ensures.text) (text_is_batch (batch_text c.args.batch.now) c.args.batch.now c.in-Ok.ensures.spelled) inside)))

pub returns-clause-crash : goal.returns-clause-crash
returns-clause-crash g c = λ base more s.
    let inside = stands_inside base more _ _ c.self.view_is s in
    subst (λ (k : JournalState). IsSafeCommit base more c.args.batch.now (seen k.moments k.content) (seen (g.D.Disk.moments c.put-known.new.disk) (g.D.Disk.content c.put-known.new.disk)) c.put-known.result.0 committed.Failed) c.self.view_is
    (put_gate_commit base more (seen (g.D.Disk.moments c.self.inside.disk) (g.D.Disk.content c.self.inside.disk)) (seen (g.D.Disk.moments c.put-known.new.disk) (g.D.Disk.content c.put-known.new.disk)) c.put-known.result.0 c.args.batch.now
    (rw c.in-AtGate.is at (c.put-known.ensures.crash base more (batch_text c.args.batch.now) c.args.batch.now (c.deref.ensures.value ∙ c.in-Ok.ensures.text) (text_is_batch (batch_text c.args.batch.now) c.args.batch.now c.in-Ok.ensures.spelled) inside)))
