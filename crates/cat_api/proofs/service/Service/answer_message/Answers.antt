use Rattle.std.proofs.Common.{◌∙◌, ◌++◌, ap, arith}
use Rattle.std.proofs.lemmas.Result.{err_from_is_err_and}
use Rattle.cat_http.specs.Reply.{reply_bytes}
use Rattle.cat_requests.specs.Requests.{request_of}
use Rattle.cat_api.proofs.Brevity.{reply_short}
use Rattle.cat_api.proofs.Lacking.{lacks_none, lacks_long}
use Rattle.cat_api.proofs.service.Service.answer_message.Goals as goal

pub returns-in_err-out-clause-err : goal.returns-in_err-out-clause-err
returns-in_err-out-clause-err g c =
    let p = err_from_is_err_and c.from_residual.result c.from_residual.ensures.1 in
    rw p.1 (lacks_none g.D.Desk.acts g.D.Desk.asks g.D.FeedDesk.tells c.args.self.now.desk (request_of c.args.message.now))

pub returns-in_err-reply-clause-err : goal.returns-in_err-reply-clause-err
returns-in_err-reply-clause-err g c =
    let p = err_from_is_err_and c.from_residual-in_err-reply.result c.from_residual-in_err-reply.ensures.1 in
    rw p.1 c.in_err-reply.ensures.err

pub returns-in_err-write_reply-clause-err : goal.returns-in_err-write_reply-clause-err
returns-in_err-write_reply-clause-err g c =
    let p = err_from_is_err_and c.from_residual-in_err-write_reply.result c.from_residual-in_err-write_reply.ensures.1 in
    rw p.1 (lacks_long g.D.Desk.acts g.D.Desk.asks g.D.FeedDesk.tells c.args.self.now.desk c.reply_of.new.self.desk (request_of c.args.message.now) c.args.message.now c.in_ok-reply.reply c.in_ok-reply.ensures.ok c.in_ok-reply.ensures.brief
    (λ b. let short = reply_short c.in_ok-reply.reply b in
    omega (arith, short, c.in_err-write_reply.ensures.room, c.in_ok-out.ensures.exact, c.in_ok-out.ensures.len)))

pub returns-clause-ok : goal.returns-clause-ok
returns-clause-ok g c = (
  c.in_ok-reply.reply,
  c.in_ok-reply.ensures.ok,
  c.in_ok-write_reply.ensures.ok ∙ ap (λ l. l ++ reply_bytes c.in_ok-reply.reply) c.in_ok-out.ensures.items,
)
