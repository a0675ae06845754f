use Rattle.std.proofs.Common.{subst, sym}
use Rattle.std.specs.Prelude.{IfOk, OnErr}
use Rattle.cat_api.specs.Answering.{Answers, Lacks}
use Rattle.cat_api.specs.Room.{IsBriefBy}
use Rattle.cat_requests.specs.Requests.{request_of}
use Rattle.cat_api.proofs.Lacking.{lacks_none}
use Rattle.cat_api.proofs.Always.{err_any}
use Rattle.cat_api.proofs.answer.answer.Goals as goal

pub returns-in-Ok-clause-ok : goal.returns-in-Ok-clause-ok
returns-in-Ok-clause-ok g c =
    subst (λ a. IfOk c.carry_out.result (λ r. Answers g.D.Desk.acts g.D.Desk.asks g.D.FeedDesk.tells c.args.desk.now c.carry_out.new.desk a c.args.message.now r)) (sym c.in-Ok.ensures.ok) c.carry_out.ensures.ok

pub returns-in-Ok-clause-brief : goal.returns-in-Ok-clause-brief
returns-in-Ok-clause-brief g c = subst (λ a. IfOk c.carry_out.result (IsBriefBy a)) (sym c.in-Ok.ensures.ok) c.carry_out.ensures.brief

pub returns-in-Ok-clause-err : goal.returns-in-Ok-clause-err
returns-in-Ok-clause-err g c =
    subst (λ a. OnErr c.carry_out.result (Lacks g.D.Desk.acts g.D.Desk.asks g.D.FeedDesk.tells c.args.desk.now c.carry_out.new.desk a)) (sym c.in-Ok.ensures.ok) c.carry_out.ensures.err

pub returns-in-Err-clause-err : goal.returns-in-Err-clause-err
returns-in-Err-clause-err g c = err_any _ c.refused.result (lacks_none g.D.Desk.acts g.D.Desk.asks g.D.FeedDesk.tells c.args.desk.now (request_of c.args.message.now))
