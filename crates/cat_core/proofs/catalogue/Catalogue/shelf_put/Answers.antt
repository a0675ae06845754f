use Rattle.cat_model.specs.Step.Event.{ShelfPut}
use Rattle.cat_core.proofs.Calls.{ledger_kept, reply_is, state_is}
use Rattle.cat_core.proofs.catalogue.Catalogue.shelf_put.Goals as goal

pub invariant_of-self : goal.invariant_of-self
invariant_of-self g c =
    ledger_kept g.L.Layers.rules (ShelfPut c.args.name.now c.args.body.now) c.self.inside.ledger c.args.self.now c.self.view_is c.shelf_put-came.result c.shelf_put-came.new.state c.shelf_put-came.new.links c.shelf_put-came.ensures c.self.inside.links c.self.invariant

pub returns-clause-state : goal.returns-clause-state
returns-clause-state g c =
    state_is g.L.Layers.rules (ShelfPut c.args.name.now c.args.body.now) c.self.inside.ledger c.args.self.now c.self.view_is c.shelf_put-came.result c.shelf_put-came.new.state c.shelf_put-came.new.links c.shelf_put-came.ensures c.answered.result c.answered.ensures

pub returns-clause-reply : goal.returns-clause-reply
returns-clause-reply g c =
    reply_is g.L.Layers.rules (ShelfPut c.args.name.now c.args.body.now) c.self.inside.ledger c.args.self.now c.self.view_is c.shelf_put-came.result c.shelf_put-came.new.state c.shelf_put-came.new.links c.shelf_put-came.ensures c.answered.result c.answered.ensures
