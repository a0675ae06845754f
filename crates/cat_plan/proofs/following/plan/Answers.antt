use Rattle.cat_model.specs.Catalogue.{reheld, rerecorded}
use Rattle.cat_plan.proofs.Partly.{remarked_linked}
use Rattle.cat_plan.proofs.following.plan.Goals as goal

pub returns-clause-state : goal.returns-clause-state
returns-clause-state g c = λ n change i.
    record (reheld n) {
      records = c.in_ok-records.ensures.records n change i;
      orphans = c.in_ok-records.ensures.orphans n change i;
      number = c.in_ok-records.ensures.number n change i;
      marks = c.in_ok-marks.ensures.marks n change i;
      documents = c.in_ok-marks.ensures.documents n change i;
      ticket = c.in_ok-marks.ensures.ticket n change i;
    }

pub returns-clause-linked : goal.returns-clause-linked
returns-clause-linked g c = λ n change.
    let x = c.args.change.now in
    remarked_linked g.L.Layers.rules c.in_ok-links.links.after x.m.now (rerecorded g.L.Layers.rules x.how x.m.now n (reheld n)) (c.in_ok-links.ensures.linked n change)
