use Rattle.std.proofs.Common.{length}
use Rattle.cat_stored_session.proofs.sessions.+sittings.Given as goal

abbrev pub decreases-sittings : goal.decreases-sittings
decreases-sittings g l = length l.inputs.now
