use Rattle.std.proofs.Common.{[], ap}
use Rattle.cat_model.specs.Settle.{try_stitch_with}
use Rattle.cat_settle.proofs.Gathering.{within_itself}
use Rattle.cat_settle.proofs.Parts.{came_same, cut_here, rests}
use Rattle.cat_settle.proofs.Stays.{stitch_stays}
use Rattle.cat_settle.proofs.stitches.mark_tried.Goals as goal

pub returns-in-Ok-clause-came : goal.returns-in-Ok-clause-came
returns-in-Ok-clause-came g c =
    came_same c.given_stitched.result _ _ (λ limit. ap (λ v. try_stitch_with g.L.Layers.rules c.args.settings.now limit v c.args.p.now) c.in-Ok.ensures) c.given_stitched.new.p c.given_stitched.ensures.came

pub returns-in-Err-clause-came : goal.returns-in-Err-clause-came
returns-in-Err-clause-came g c = cut_here _ (stitch_stays g.L.Layers.rules c.args.settings.now c.args.reference.now) c.args.p.now

pub returns-in-Err-clause-goes : goal.returns-in-Err-clause-goes
returns-in-Err-clause-goes g c = rests g.L.Layers.rules c.args.p.now

pub returns-in-Err-clause-still : goal.returns-in-Err-clause-still
returns-in-Err-clause-still g c = within_itself [] c.args.p.now.state
