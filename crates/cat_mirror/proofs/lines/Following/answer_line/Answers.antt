use Rattle.std.proofs.lemmas.Result.{err_from_is_err_and}
use Rattle.cat_mirror.proofs.Followed.{cut_line, followed_line}
use Rattle.cat_mirror.proofs.lines.Following.answer_line.Goals as goal

pub returns-in_err-serve-clause-err : goal.returns-in_err-serve-clause-err
returns-in_err-serve-clause-err g c =
    let p = err_from_is_err_and c.from_residual.result c.from_residual.ensures.1 in
    rw (p.1, p.2) (λ start taken h. cut_line c.in_err-serve.field-0.0 start (g.O.Sink.written c.args.sink.now) (g.O.Sink.written c.serve.new.sink) taken c.args.self.now c.ended.result.now c.ended.ensures c.in_err-serve.ensures.err h)

pub returns-clause-ok : goal.returns-clause-ok
returns-clause-ok g c = λ start taken h. followed_line start _ _ taken c.args.self.now _ c.ended.result.now c.ended.ensures c.in_ok-serve.ensures.ok c.in_ok-serve.ensures.next c.clear.ensures h
