use Rattle.cat_laws.proofs.Fresh.{is_fresh}
use Rattle.cat_stored_session.proofs.Sound.{lines_sound}
use Rattle.cat_stored_session.proofs.law.kept_sessions_stay_sound.Goals as goal

pub returns-clause-sound : goal.returns-clause-sound
returns-clause-sound c rules m lines words sound = lines_sound rules m lines words sound

pub returns-clause-fresh : goal.returns-clause-fresh
returns-clause-fresh c rules m lines words now sound quiet = is_fresh rules _ (lines_sound rules m lines words sound) now quiet
