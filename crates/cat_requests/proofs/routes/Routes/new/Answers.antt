use Rattle.std.proofs.Common.{ap}
use Rattle.cat_requests.proofs.Routing.{more_routes}
use Rattle.cat_requests.specs.Routes.{all_routes, route_rows, with_routes}
use Rattle.cat_requests.proofs.routes.Routes.new.Goals as goal

pub loop-route-init : goal.loop-route-init
unfolding route_rows
loop-route-init c = ap (λ rows. with_routes rows all_routes) c.new-router.ensures

pub loop-route-preserved : goal.loop-route-preserved
loop-route-preserved c = more_routes all_routes c.loop-route.route-index _ _ _ _ c.loop-route-test.true c.text.ensures c.in-Ok.ensures c.loop-route.invariant
