-- The routes may go to other threads.
use mathlib.Core.Path.{◌≡◌}
use denote.Model.Cut.{rejoined, split_one}
use denote.Model.Local.{Parts, rows}
use denote.Model.Marks.{tied_send}
use denote.Param.Send.{IsSend, sendable, view_send, recorded_send}
use denote.Param.SendFields.{declared_send, as_row_send}
use denote.RattleType.{RattleType}
use denote.Struct.Field.{row_field}
use Rattle.std.proofs.Crossing.{crosses, Vec-send}
use Rattle.std.specs.contracts.alloc.Global as Global
use Rattle.std.specs.contracts.impls.GlobalAllocator.TheImpl.{ghosts}
use Rattle.std.specs.contracts.vec.Vec as Vec
use Rattle.matchit.specs.contracts.route.Route as Read
use Rattle.matchit.specs.contracts.router.Router as Router
use Rattle.matchit.specs.contracts.router.Router.TheInside as within
use Rattle.matchit.specs.contracts.tree.Node as Node
use Rattle.matchit.specs.contracts.tree.Node.TheKnot as Knot
use Rattle.matchit.specs.declared.tree.Node.TheDeep.{the_members, member-Node}
use Rattle.cat_requests.specs.contracts.routes.Route as Route
use Rattle.cat_requests.specs.contracts.routes.Routes as Routes

ruleset known = (sendable, crosses)

abbrev vec : RattleType → RattleType
vec R = Vec.the_row R Global.the_row ghosts

module _ (R : RattleType) (D : Type 0) (split : D → R.Denot) (join : R.Denot → D) (e : (d : D) → join (split d) ≡ d) where
  rejoined_send : IsSend R → IsSend (rejoined R D split join e)
  rejoined_send s = recorded_send R D split (split_one R D split join e) s

-- ---- the tree of a router

nodes_send : (N : RattleType) → IsSend N → IsSend (Knot.layer-Node N N)
nodes_send N s = declared_send (Knot.type-Node N N) (
  search known depth 40,
  (
    search known depth 40,
    (
      as_row_send (row_field (vec N)) (Vec-send N s),
      (as_row_send (row_field (vec N)) (Vec-send N s), (search known depth 40, (search known depth 40, (search known depth 40, tt)))),
    ),
  ),
)

module _ (p : Parts Knot.frame) (s : (i : the_members) → IsSend (rows Knot.frame p i)) where
  node_within : IsSend (Knot.at-Node p)
  node_within = rejoined_send _ _ _ _ _ (nodes_send (rows Knot.frame p member-Node) (s member-Node))

  node_send' : IsSend (Knot.view-Node p)
  node_send' = view_send _ _ _ _ _ node_within

sends : (p : Parts Knot.frame) → ((i : the_members) → IsSend (rows Knot.frame p i)) → (i : the_members) → IsSend (rows Knot.frame (Knot.step p) i)
sends p s member-Node = record { owned = (node_send' p s).owned; leaving = λ k x w. tt }

node_send : IsSend Node.the_row
node_send = tied_send Knot.frame Knot.step Knot.sizes sends member-Node

-- ---- a router, and the routes

read_send : IsSend Read.the_row
read_send = search known depth 60

route_send : IsSend Route.the_row
route_send = search known depth 60

router_send : IsSend (Router.the_row Route.the_row)
router_send = view_send _ _ _ _ _ (declared_send (within.the_type Route.the_row) (
  search known depth 40,
  (
    search (node_send, known) depth 20,
    (search (read_send, known) depth 40, (search (route_send, known) depth 60, (search known depth 40, tt))),
  ),
))

pub routes_send : IsSend Routes.the_row
routes_send = declared_send Routes.the_type (router_send, tt)
