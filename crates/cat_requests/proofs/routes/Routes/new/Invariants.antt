use Rattle.std.proofs.Common.{◌≡◌, drop}
use Rattle.cat_requests.specs.Routes.{all_routes, route_rows, with_routes}
use Rattle.cat_requests.proofs.routes.Routes.new.Given as goal

-- what went in, and then the rest of the routes, are the rows of all
abbrev pub invariant-loop-route : goal.invariant-loop-route
invariant-loop-route l = with_routes l.router (drop l.route-index all_routes) ≡ route_rows
