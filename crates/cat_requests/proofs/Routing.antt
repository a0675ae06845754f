-- What a router of the routes holds, and finds.
use Rattle.std.proofs.Common.{◌≡◌, ℕ, List, ◌∷◌, sym, ap, ◌∙◌, drop, length, get_or, ◌<◌, ◌+◌, add-one}
use Rattle.std.proofs.Math.Seq.{drop-cons}
use Rattle.std.specs.Prelude.{None, Some, Result, Ok, Err}
use Rattle.matchit.specs.Route.{Scan, parse_route}
use Rattle.matchit.specs.Router.{InsertsRead, RouteOf}
use Rattle.matchit.specs.Seek.{first}
use Rattle.matchit.specs.declared.error.InsertError.{InsertError}
use Rattle.cat_requests.specs.Routes.{Rows, of_row, route_of, route_rows, route_text, seated, with_routes}
use Rattle.cat_requests.specs.declared.routes.Route.{Route}

-- a route that went in is seated
inserted : (read : Result Scan InsertError) (route : Route) (old new : Rows) → InsertsRead read route old new (Ok tt) → new ≡ seated read route old
unfolding seated
inserted (Ok s) route old new h = h.1
inserted (Err e) route old new h = h.0

-- where a route went in, the routes from the next one on make the rows whole
pub more_routes : (routes : List Route) (i : ℕ) (route : Route) (text : List ℕ) (old new : Rows) → i < length routes → text ≡ route_text (get_or routes i route)
    → InsertsRead (parse_route text) (get_or routes i route) old new (Ok tt) → with_routes old (drop i routes) ≡ route_rows
    → with_routes new (drop (i + 1) routes) ≡ route_rows
more_routes routes i route text old new inside is h before =
    let next : drop i routes ≡ get_or routes i route ∷ drop (i + 1) routes = rw (add-one, drop-cons routes i route) in
    let seats : new ≡ seated (parse_route (route_text (get_or routes i route))) (get_or routes i route) old =
    inserted (parse_route text) (get_or routes i route) old new h ∙ ap (λ t. seated (parse_route t) (get_or routes i route) old) is in
    ap (λ rows. with_routes rows (drop (i + 1) routes)) seats ∙ ap (with_routes old) (sym next) ∙ before

-- the route that a router of these rows finds
pub found_route : (rows : Rows) (path : List ℕ) (row : RouteOf Route) → rows ≡ route_rows → first rows path ≡ Some row → Some row.value ≡ route_of path
unfolding route_of
found_route rows path row is h = sym (ap (λ r. of_row (first r path)) (sym is) ∙ ap of_row h)

-- and where it finds none
pub no_route : (rows : Rows) (path : List ℕ) → rows ≡ route_rows → first rows path ≡ None → None ≡ route_of path
unfolding route_of
no_route rows path is h = sym (ap (λ r. of_row (first r path)) (sym is) ∙ ap of_row h)
