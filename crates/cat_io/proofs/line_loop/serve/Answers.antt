use Rattle.std.proofs.Common.{◌∙◌, sym}
use Rattle.std.proofs.lemmas.Result.{on_ok_weaker, on_err_weaker}
use Rattle.cat_io.specs.Word.{plain, memory}
use Rattle.cat_io.proofs.Replying.{long_reply, long_after, memory_reply, memory_after, short_reply, short_after}
use Rattle.cat_io.proofs.Sessions.{serves, serves_part}
use Rattle.cat_io.proofs.line_loop.serve.Goals as goal

pub returns-then-line-gt-LINE_LIMIT-clause-ok : goal.returns-then-line-gt-LINE_LIMIT-clause-ok
returns-then-line-gt-LINE_LIMIT-clause-ok g c =
    let long = c.if-line-gt-LINE_LIMIT.true in
    on_ok_weaker c.write_all.result (serves _ _ _ _ _ _ plain c.args.line.now _ (sym (long_reply g.M.Machine.reply c.args.machine.now c.args.line.now long)) (sym (long_after g.M.Machine.after c.args.machine.now c.args.line.now long))) c.write_all.ensures.whole

pub returns-then-line-gt-LINE_LIMIT-clause-err : goal.returns-then-line-gt-LINE_LIMIT-clause-err
returns-then-line-gt-LINE_LIMIT-clause-err g c =
    let long = c.if-line-gt-LINE_LIMIT.true in
    on_err_weaker c.write_all.result (serves_part _ _ _ _ _ _ plain c.args.line.now _ (sym (long_reply g.M.Machine.reply c.args.machine.now c.args.line.now long)) (sym (long_after g.M.Machine.after c.args.machine.now c.args.line.now long))) c.write_all.ensures.front

pub returns-in-Ok-clause-ok : goal.returns-in-Ok-clause-ok
returns-in-Ok-clause-ok g c =
    let a = c.in-Ok.ensures.ok in
    let short = c.if-line-gt-LINE_LIMIT.false in
    on_ok_weaker c.write_all-in-Ok.result (serves _ _ _ _ _ _ a.0 c.args.line.now _ (c.as_slice.ensures.value ∙ a.3 ∙ sym (short_reply g.M.Machine.reply c.args.machine.now a.0 c.args.line.now a.1 short)) (a.2 ∙ sym (short_after g.M.Machine.after c.args.machine.now a.0 c.args.line.now a.1 short))) c.write_all-in-Ok.ensures.whole

pub returns-in-Ok-clause-err : goal.returns-in-Ok-clause-err
returns-in-Ok-clause-err g c =
    let a = c.in-Ok.ensures.ok in
    let short = c.if-line-gt-LINE_LIMIT.false in
    on_err_weaker c.write_all-in-Ok.result (serves_part _ _ _ _ _ _ a.0 c.args.line.now _ (c.as_slice.ensures.value ∙ a.3 ∙ sym (short_reply g.M.Machine.reply c.args.machine.now a.0 c.args.line.now a.1 short)) (a.2 ∙ sym (short_after g.M.Machine.after c.args.machine.now a.0 c.args.line.now a.1 short))) c.write_all-in-Ok.ensures.front

pub returns-in-Err-clause-ok : goal.returns-in-Err-clause-ok
returns-in-Err-clause-ok g c =
    on_ok_weaker c.write_all-in-Err.result (serves _ _ _ _ _ _ memory c.args.line.now _ (sym (memory_reply g.M.Machine.reply c.args.machine.now c.args.line.now)) (c.in-Err.ensures.err ∙ sym (memory_after g.M.Machine.after c.args.machine.now c.args.line.now))) c.write_all-in-Err.ensures.whole

pub returns-in-Err-clause-err : goal.returns-in-Err-clause-err
returns-in-Err-clause-err g c =
    on_err_weaker c.write_all-in-Err.result (serves_part _ _ _ _ _ _ memory c.args.line.now _ (sym (memory_reply g.M.Machine.reply c.args.machine.now c.args.line.now)) (c.in-Err.ensures.err ∙ sym (memory_after g.M.Machine.after c.args.machine.now c.args.line.now))) c.write_all-in-Err.ensures.front
