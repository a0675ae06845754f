use Rattle.cat_requests.proofs.Routing.{found_route, no_route}
use Rattle.cat_requests.proofs.routes.Routes.route_of.Goals as goal

pub returns-in-Ok : goal.returns-in-Ok
returns-in-Ok c = found_route c.args.self.now.router c.args.path.now _ c.args.self.now.whole c.in-Ok.ensures.found

pub returns-in-Err : goal.returns-in-Err
returns-in-Err c = no_route c.args.self.now.router c.args.path.now c.args.self.now.whole c.in-Err.ensures.missing
