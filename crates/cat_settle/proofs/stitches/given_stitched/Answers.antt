use Rattle.std.proofs.Common.{[], ap, sym}
use Rattle.cat_model.specs.Settle.{try_stitch_with}
use Rattle.cat_settle.proofs.Gathering.{within_itself}
use Rattle.cat_settle.proofs.Parts.{came_same, nothing_done, rests, same_done}
use Rattle.cat_settle.proofs.stitches.given_stitched.Goals as goal

pub returns-in-Some-clause-came : goal.returns-in-Some-clause-came
returns-in-Some-clause-came g c =
    came_same c.stitch_tried.result _ _ (λ limit. sym (ap (λ v. try_stitch_with g.L.Layers.rules c.args.settings.now limit v c.args.p.now) c.in-Some.is)) c.stitch_tried.new.p c.stitch_tried.ensures.came

pub returns-in-None-clause-came : goal.returns-in-None-clause-came
returns-in-None-clause-came g c =
    same_done (λ limit. c.args.p.now) _ (λ limit. sym (ap (λ v. try_stitch_with g.L.Layers.rules c.args.settings.now limit v c.args.p.now) c.in-None.is)) c.args.p.now (nothing_done c.args.p.now)

pub returns-in-None-clause-goes : goal.returns-in-None-clause-goes
returns-in-None-clause-goes g c = rests g.L.Layers.rules c.args.p.now

pub returns-in-None-clause-still : goal.returns-in-None-clause-still
returns-in-None-clause-still g c = within_itself [] c.args.p.now.state
