use Rattle.std.proofs.Common.{refl}
use Rattle.cat_tool.proofs.top.answer_messages.Goals as goal

pub returns-in-None : goal.returns-in-None
returns-in-None g c = rw (c.in-None.is, ← c.unwrap_or-orphans.ensures) (refl, c.run_connection-status.ensures)

pub returns-in-Some : goal.returns-in-Some
returns-in-Some g c = rw c.in-Some.is (c.run_stored_connection-ran.result.keeper, refl, c.run_stored_connection-ran.ensures)
