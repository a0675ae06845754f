use Rattle.std.proofs.lemmas.Result.{err_from_is_err_and}
use Rattle.cat_requests.specs.Requests.{request_of}
use Rattle.cat_api.proofs.Lacking.{lacks_none}
use Rattle.cat_api.proofs.service.Service.reply_of.Goals as goal

pub returns-in_err-routes-clause-err : goal.returns-in_err-routes-clause-err
returns-in_err-routes-clause-err g c =
    let p = err_from_is_err_and c.from_residual.result c.from_residual.ensures.1 in
    rw (p.1, c.take_routes.ensures) (lacks_none g.D.Desk.acts g.D.Desk.asks g.D.FeedDesk.tells c.args.self.now.desk (request_of c.args.message.now))
