use Rattle.std.proofs.Common.{arith, ap, length, false-eqb, true-eqb}
use Rattle.std.proofs.lemmas.Result.{on_ok_weaker, on_err_weaker}
use Rattle.cat_io.proofs.Sessions.{finishes_none, finishes, finishes_part}
use Rattle.cat_io.proofs.line_loop.finish.Goals as goal

pub returns-then-is_empty-clause-ok : goal.returns-then-is_empty-clause-ok
returns-then-is_empty-clause-ok g c = λ begun is. finishes_none _ _ _ _ c.args.line.now begun (omega (arith, ap (λ l. length l) c.bytes.ensures, true-eqb _ 0 c.if-is_empty.ensures)) is

pub returns-clause-ok : goal.returns-clause-ok
returns-clause-ok g c = on_ok_weaker c.serve.result (λ s begun is. finishes _ _ _ _ _ _ c.args.line.now begun (omega (arith, ap (λ l. length l) c.bytes.ensures, false-eqb _ 0 c.if-is_empty.ensures)) is (rw c.bytes-2.ensures at s)) c.serve.ensures.ok

pub returns-clause-err : goal.returns-clause-err
returns-clause-err g c = on_err_weaker c.serve.result (λ s begun is. finishes_part _ _ _ _ _ _ c.args.line.now begun (omega (arith, ap (λ l. length l) c.bytes.ensures, false-eqb _ 0 c.if-is_empty.ensures)) is (rw c.bytes-2.ensures at s)) c.serve.ensures.err
