-- How the paths of the interface are written, and the route that a path fits.
use Rattle.std.specs.Prelude.{ℕ, List, [], ◌∷◌, Option, None, Some, codes, Result, Ok, Err}
use Rattle.matchit.specs.Order.{placed}
use Rattle.matchit.specs.Route.{Scan, parse_route}
use Rattle.matchit.specs.Router.{RouteOf, route_from}
use Rattle.matchit.specs.Rows.{RowsOf}
use Rattle.matchit.specs.Seek.{first}
use Rattle.matchit.specs.declared.error.InsertError.{InsertError}
use Rattle.cat_inputs.specs.declared.form.Form.TheVariants.{Full, Delta}
use Rattle.cat_requests.specs.declared.routes.Fixed.{Fixed}
use Rattle.cat_requests.specs.declared.routes.Fixed.TheVariants.{Entities, ByQuery, ByRefs, EntityFacets, Refresh, Shelf, Settle, Conflicts, Failed, Orphans, State, Changes}
use Rattle.cat_requests.specs.declared.routes.Route.{Route}
use Rattle.cat_requests.specs.declared.routes.Route.TheVariants.{Fixed as FixedPath, ByUid, ByName, Mutation}

-- ---- how paths are written

-- how a path without pieces is written
abbrev pub fixed_text : Fixed → List ℕ
fixed_text Entities = codes "/entities"
fixed_text ByQuery = codes "/entities/by-query"
fixed_text ByRefs = codes "/entities/by-refs"
fixed_text EntityFacets = codes "/entity-facets"
fixed_text Refresh = codes "/refresh"
fixed_text Shelf = codes "/shelf"
fixed_text Settle = codes "/settle"
fixed_text Conflicts = codes "/conflicts"
fixed_text Failed = codes "/failed"
fixed_text Orphans = codes "/orphans"
fixed_text State = codes "/state"
fixed_text Changes = codes "/changes"

-- how the paths of a route are written; a name in braces stands for a piece, which has a byte at least and no slash
abbrev pub route_text : Route → List ℕ
route_text (FixedPath f) = fixed_text f
route_text ByUid = codes "/entities/by-uid/{uid}"
route_text ByName = codes "/entities/by-name/{kind}/{namespace}/{name}"
route_text (Mutation Full) = codes "/providers/{name}/full"
route_text (Mutation Delta) = codes "/providers/{name}/delta"

-- all routes
abbrev pub all_routes : List Route
all_routes =
    FixedPath Entities ∷ FixedPath ByQuery ∷ FixedPath ByRefs ∷ FixedPath EntityFacets ∷ FixedPath Refresh ∷ FixedPath Shelf ∷ FixedPath Settle
    ∷ FixedPath Conflicts ∷ FixedPath Failed ∷ FixedPath Orphans ∷ FixedPath State ∷ FixedPath Changes ∷ ByUid ∷ ByName ∷ Mutation Full ∷ Mutation Delta ∷ []

-- ---- the route of a path

-- what a router of these routes holds
abbrev pub Rows : Type 0
Rows = RowsOf (RouteOf Route)

-- the rows with one route more, whose text was read
unfoldable pub seated : Result Scan InsertError → Route → Rows → Rows
seated (Ok read) route rows = placed (read.pattern, route_from read route) rows
seated (Err fault) route rows = rows

-- the rows with these routes more
abbrev pub with_routes : Rows → List Route → Rows
with_routes rows [] = rows
with_routes rows (route ∷ routes) = with_routes (seated (parse_route (route_text route)) route rows) routes

-- the rows of all routes
unfoldable pub route_rows : Rows
route_rows = with_routes [] all_routes

-- The route of a row, where there is one.
abbrev pub of_row : Option (RouteOf Route) → Option Route
of_row None = None
of_row (Some row) = Some row.value

-- the route that a path fits, if there is one
unfoldable pub route_of : List ℕ → Option Route
route_of path = of_row (first route_rows path)
