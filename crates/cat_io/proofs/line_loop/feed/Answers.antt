use Rattle.std.proofs.Common.{arith}
use Rattle.std.proofs.lemmas.Result.{err_from_is_err_and}
use Rattle.cat_io.proofs.Sessions.{feeding_none, feeding_more, feeding_part, feeding_end}
use Rattle.cat_io.proofs.line_loop.feed.Goals as goal

pub loop-front-init : goal.loop-front-init
loop-front-init g c = record {
  feeding = λ begun is. feeding_none _ _ _ _ begun _ _ is;
  later = omega arith;
}

pub loop-front-preserved : goal.loop-front-preserved
loop-front-preserved g c = record {
  feeding = λ begun is. rw c.clear.ensures (feeding_more _ _ _ _ _ _ _ _ begun _ _ _ _ _ _ _ c.in-Some.ensures.some.0 c.in-Some.ensures.some.1 c.extend.ensures c.ended.ensures (c.loop-front.invariant.feeding begun is) c.in_ok-serve.ensures.ok);
  later = omega (arith, c.loop-front.invariant.later, c.in_ok-serve.ensures.later);
}

pub returns-in_err-serve-clause-err : goal.returns-in_err-serve-clause-err
returns-in_err-serve-clause-err g c =
    let p = err_from_is_err_and c.from_residual.result c.from_residual.ensures.1 in
    rw p.1 (λ begun is. feeding_part _ _ _ _ _ _ _ _ begun _ _ _ _ _ _ _ c.in-Some.ensures.some.0 c.in-Some.ensures.some.1 c.extend.ensures c.ended.ensures (c.loop-front.invariant.feeding begun is) c.in_err-serve.ensures.err)

pub returns-clause-ok : goal.returns-clause-ok
returns-clause-ok g c = λ begun is. feeding_end _ _ _ _ _ _ begun _ _ _ _ c.in_default.ensures.none c.extend-2.ensures (c.loop-front.invariant.feeding begun is)
