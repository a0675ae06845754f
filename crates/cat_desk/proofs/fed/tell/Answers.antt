use Rattle.std.proofs.Common.{refl}
use Rattle.cat_desk.proofs.Telling.{told_changes, told_refusal}
use Rattle.cat_desk.proofs.fed.tell.Goals as goal

pub returns-in-Ok-clause-answer : goal.returns-in-Ok-clause-answer
returns-in-Ok-clause-answer c =
    rw c.written.ensures (told_changes c.args.documents.now c.args.since c.args.feed.now c.ask.new.self c.args.out.now.items c.write_changes.new.out.items c.in-Ok.changes c.write_changes.result c.in-Ok.ensures.ok c.in-Ok.ensures.feed c.write_changes.ensures.ok c.write_changes.ensures.err)

pub returns-in-Err-clause-answer : goal.returns-in-Err-clause-answer
returns-in-Err-clause-answer c =
    rw c.refused.ensures (told_refusal c.args.documents.now c.args.since c.args.feed.now c.ask.new.self c.args.out.now.items c.args.out.now.items c.in-Err.fault c.in-Err.ensures.err c.in-Err.ensures.feed refl)
