use Rattle.std.proofs.Common.{subst}
use Rattle.cat_settle.specs.Part.{CutRounds, EndRounds}
use Rattle.cat_settle.proofs.Gathering.{gathers_on, still_gathers}
use Rattle.cat_settle.proofs.Parts.{goes_on}
use Rattle.cat_settle.proofs.Whole.{cut_whole, marks_whole}
use Rattle.cat_settle.proofs.settle.settled.Goals as goal

pub returns-in-Ok-clause-came : goal.returns-in-Ok-clause-came
returns-in-Ok-clause-came g c =
    marks_whole g.L.Layers.rules c.args.settings.now c.args.now c.requires.interval c.args.p.now.state c.requires.steady.sound c.all_marks.result c.all_rounds.new.p c.all_marks.new.p
    (subst (λ q. EndRounds g.L.Layers.rules c.args.settings.now c.args.now q c.all_rounds.new.p) c.requires.begun c.in-Ok.ensures.came) c.all_marks.ensures.goes c.all_marks.ensures.came

pub returns-in-Ok-clause-goes : goal.returns-in-Ok-clause-goes
returns-in-Ok-clause-goes g c = goes_on g.L.Layers.rules c.args.p.now c.all_rounds.new.p c.all_marks.new.p c.in-Ok.ensures.goes c.all_marks.ensures.goes

pub returns-in-Err-clause-came : goal.returns-in-Err-clause-came
returns-in-Err-clause-came g c =
    cut_whole g.L.Layers.rules c.args.settings.now c.args.now c.requires.interval c.args.p.now.state c.requires.steady.sound c.all_rounds.new.p
    (subst (λ q. CutRounds g.L.Layers.rules c.args.settings.now c.args.now q c.all_rounds.new.p) c.requires.begun c.in-Err.ensures.came)

pub returns-in-Ok-clause-gathers : goal.returns-in-Ok-clause-gathers
returns-in-Ok-clause-gathers g c =
    gathers_on c.args.reached.now c.all_rounds.new.reached c.all_rounds.new.reached c.args.p.now.state c.all_rounds.new.p.state c.all_marks.new.p.state
    c.all_rounds.ensures.gathers (still_gathers c.all_rounds.new.reached c.all_rounds.new.p.state c.all_marks.new.p.state c.all_marks.ensures.still)
