use Rattle.std.proofs.Common.{arith, ap, length, false-eqb, true-eqb}
use Rattle.std.proofs.lemmas.Result.{on_ok_weaker}
use Rattle.cat_mirror.proofs.Followed.{answered_last, answered_none, both_ok, cut_last, if_err_weaker}
use Rattle.cat_mirror.proofs.lines.Following.end_line.Goals as goal

pub returns-then-is_empty-clause-ok : goal.returns-then-is_empty-clause-ok
returns-then-is_empty-clause-ok g c = λ start taken h. answered_none start _ taken c.args.self.now (omega (arith, ap (λ l. length l) c.bytes.ensures, true-eqb _ 0 c.if-is_empty.ensures)) h

pub returns-clause-ok : goal.returns-clause-ok
returns-clause-ok g c =
    on_ok_weaker c.serve.result
    (λ s start taken h. answered_last start _ _ taken c.args.self.now c.serve.new.mirror c.bytes-2.result.now (omega (arith, ap (λ l. length l) c.bytes.ensures, false-eqb _ 0 c.if-is_empty.ensures)) c.bytes-2.ensures s.0 s.1 h)
    (both_ok c.serve.result _ _ c.serve.ensures.ok c.serve.ensures.next)

pub returns-clause-err : goal.returns-clause-err
returns-clause-err g c =
    if_err_weaker c.serve.result _ _
    (λ stop s start taken h. cut_last stop start (g.O.Sink.written c.args.sink.now) (g.O.Sink.written c.serve.new.sink) taken c.args.self.now c.bytes-2.result.now (omega (arith, ap (λ l. length l) c.bytes.ensures, false-eqb _ 0 c.if-is_empty.ensures)) c.bytes-2.ensures s h)
    c.serve.ensures.err
