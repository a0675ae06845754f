-- Sessions at rest.
use Rattle.cat_model.specs.Sound.{Quiet}
use Rattle.cat_session_model.specs.declared.state.SessionState.{SessionState}

-- the catalogue is quiet at the session's moment
abbrev pub IsAtRest : SessionState → Type 0
IsAtRest m = Quiet m.state m.now
