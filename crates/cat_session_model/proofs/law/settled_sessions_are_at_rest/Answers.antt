use Rattle.std.proofs.Common.{sym, subst}
use Rattle.cat_model.specs.Sound.{Sound}
use Rattle.cat_laws.proofs.Steps.{start_kept}
use Rattle.cat_session_model.specs.Program.{session_start}
use Rattle.cat_session_model.proofs.Kept.{lines_sound}
use Rattle.cat_session_model.proofs.Words.{settled_quiet}
use Rattle.cat_session_model.proofs.law.settled_sessions_are_at_rest.Goals as goal

pub returns-clause-sound : goal.returns-clause-sound
returns-clause-sound c rules settings m word line counts later sound reads told = settled_quiet rules settings m word line counts later sound reads told

pub returns-clause-sessions : goal.returns-clause-sessions
returns-clause-sessions c rules settings m lines words word line counts later is reads told =
    settled_quiet rules settings m word line counts later (subst (λ n. Sound rules n.state) (sym is) (lines_sound rules settings session_start lines words (start_kept rules settings))) reads told
