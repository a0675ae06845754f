use Rattle.std.proofs.Common.{sym, ◌∙◌, true≢false}
use Rattle.cat_desk.proofs.Answered.{acts_kept}
use Rattle.cat_desk.proofs.timed_desk.FedTimedDesk.act_at.Goals as goal

pub returns-clause-cause : goal.returns-clause-cause
returns-clause-cause g c = λ lost. absurd (true≢false (sym lost ∙ acts_kept g.L.Layers.rules _ _ _ _ c.act_at.result.1 c.act_at.ensures.acts.acts))
