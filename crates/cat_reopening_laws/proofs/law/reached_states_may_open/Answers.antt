use Rattle.cat_layers.specs.Layered.{layered}
use Rattle.cat_io.specs.Runs.{after_lines}
use Rattle.cat_reopening_laws.specs.Reached.{reached}
use Rattle.cat_session_model.specs.Program.{program_settings, session_start}
use Rattle.cat_session_model.specs.Session.{session_after}
use Rattle.cat_reopening_laws.proofs.Opens.{lines_stand, may_open}
use Rattle.cat_reopening_laws.proofs.law.reached_states_may_open.Goals as goal

pub returns-clause-program : goal.returns-clause-program
returns-clause-program c rule lines words =
    may_open (program_settings rule) (reached rule lines words)
    (c.sessions_stay_sound.ensures.sound layered (program_settings rule) lines words)
    (c.real_forms_are_kept.ensures.small (program_settings rule) lines words)
    (c.real_forms_are_kept.ensures.sessions (program_settings rule) lines words)
    (lines_stand (program_settings rule) lines words)

pub returns-clause-sessions : goal.returns-clause-sessions
returns-clause-sessions c settings lines words =
    may_open settings (after_lines (session_after layered settings) session_start lines words).state
    (c.sessions_stay_sound.ensures.sound layered settings lines words)
    (c.real_forms_are_kept.ensures.small settings lines words)
    (c.real_forms_are_kept.ensures.sessions settings lines words)
    (lines_stand settings lines words)
