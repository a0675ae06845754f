use Rattle.std.proofs.lemmas.Result.{err_from_is_err_and}
use Rattle.cat_mirror.proofs.Followed.{front_told, out_told, stopped_none}
use Rattle.cat_mirror.proofs.lines.follow.Goals as goal

pub returns-in_err-buffer-clause-err : goal.returns-in_err-buffer-clause-err
returns-in_err-buffer-clause-err g c =
    let p = err_from_is_err_and c.from_residual.result c.from_residual.ensures.1 in
    rw (p.1, p.2) (stopped_none (g.S.Source.left c.args.source.now) (g.O.Sink.written c.args.sink.now))

pub returns-clause-out : goal.returns-clause-out
returns-clause-out g c = out_told c.follow_all.result _ _ _ _ c.follow_all.ensures.ok

pub returns-clause-front : goal.returns-clause-front
returns-clause-front g c = front_told c.follow_all.result _ _ _ _ c.follow_all.ensures.err
