use Rattle.cat_laws.proofs.Fresh.{is_fresh}
use Rattle.cat_laws.proofs.Steps.{start_kept}
use Rattle.cat_session_model.specs.Program.{session_start}
use Rattle.cat_session_model.proofs.Kept.{lines_sound}
use Rattle.cat_session_model.proofs.law.sessions_stay_sound.Goals as goal

pub returns-clause-sound : goal.returns-clause-sound
returns-clause-sound c rules settings lines words = lines_sound rules settings session_start lines words (start_kept rules settings)

pub returns-clause-fresh : goal.returns-clause-fresh
returns-clause-fresh c rules settings lines words now quiet = is_fresh rules _ (lines_sound rules settings session_start lines words (start_kept rules settings)) now quiet
