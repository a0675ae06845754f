use Rattle.std.proofs.Common.{◌≡◌, drop}
use Rattle.cat_session_model.specs.Session.{order_numbered}
use Rattle.cat_session.proofs.orders.order_numbered.Given as goal

-- what is found is found in what is left
abbrev pub invariant-loop-order : goal.invariant-loop-order
invariant-loop-order l = order_numbered l.token (drop l.order-index l.orders) ≡ order_numbered l.token l.orders
