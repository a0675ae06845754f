use Rattle.std.proofs.Common.{◌∷◌, [], ◌++◌, List, refl, sym, subst, rules}
use Rattle.std.specs.Vec.Iter.{into_iter_items}
use Rattle.cat_journal.specs.Histories.{Runs}
use Rattle.cat_journal.specs.declared.call.Call.{Call}
use Rattle.cat_journal.proofs.Histories.{runs_then, orders_more, are_safe}
use Rattle.cat_journal.proofs.history.run.Goals as goal

pub loop-order-preserved : goal.loop-order-preserved
loop-order-preserved g c = (
  tt,
  tt,
  orders_more c.loop-order.made.items c.push.new.self.items c.make-call.result c.in-Some.order (into_iter_items c.loop-order.order-iterator) (into_iter_items c.next.new.self) c.args.orders.items c.in_ok-push.ensures.items c.make-call.ensures.order c.in-Some.ensures.steps.0 c.loop-order.invariant.2,
  subst (λ (l : List Call). Runs l c.args.keeper.now c.make-call.new.keeper) (sym c.in_ok-push.ensures.items) (runs_then c.loop-order.made.items c.make-call.result c.args.keeper.now c.loop-order.keeper c.make-call.new.keeper c.loop-order.invariant.3 c.make-call.ensures.makes),
)

pub returns-in_err-push-clause-safe : goal.returns-in_err-push-clause-safe
returns-in_err-push-clause-safe g c = (
  c.loop-order.made.items ++ c.make-call.result ∷ [],
  (into_iter_items c.next.new.self, orders_more c.loop-order.made.items (c.loop-order.made.items ++ c.make-call.result ∷ []) c.make-call.result c.in-Some.order (into_iter_items c.loop-order.order-iterator) (into_iter_items c.next.new.self) c.args.orders.items refl c.make-call.ensures.order c.in-Some.ensures.steps.0 c.loop-order.invariant.2),
  search rules,
  are_safe (c.loop-order.made.items ++ c.make-call.result ∷ []) c.args.keeper.now c.make-call.new.keeper (runs_then c.loop-order.made.items c.make-call.result c.args.keeper.now c.loop-order.keeper c.make-call.new.keeper c.loop-order.invariant.3 c.make-call.ensures.makes),
)

pub returns-clause-safe : goal.returns-clause-safe
returns-clause-safe g c = (c.loop-order.made.items, (into_iter_items c.loop-order.order-iterator, c.loop-order.invariant.2), refl, are_safe c.loop-order.made.items c.args.keeper.now c.loop-order.keeper c.loop-order.invariant.3)
