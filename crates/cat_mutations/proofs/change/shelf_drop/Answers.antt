use Rattle.cat_model.specs.Step.Event.{ShelfDrop}
use Rattle.cat_events.proofs.Comes.{came_in}
use Rattle.cat_mutations.proofs.change.shelf_drop.Goals as goal

pub returns : goal.returns
returns g c =
    came_in g.L.Layers.rules c.args.settings.now (ShelfDrop c.args.name.now) c.args.state.now c.args.links.now c.take_in.new.links c.in_ok-step.step c.take_in.result c.take_in.new.state
    c.requires c.in_ok-step.ensures.come c.in_ok-step.ensures.linked c.take_in.ensures.state c.take_in.ensures.links c.take_in.ensures.fault
