use Rattle.std.proofs.Common.{refl}
use Rattle.cat_tool.proofs.top.answer_lines.Goals as goal

pub returns-in-None : goal.returns-in-None
returns-in-None g c = rw (c.in-None.is, ← c.unwrap_or-orphans.ensures) (refl, c.run_session-status.ensures)

pub returns-in-Some : goal.returns-in-Some
returns-in-Some g c = rw c.in-Some.is (c.run_stored-ran.result.keeper, refl, c.run_stored-ran.ensures)
