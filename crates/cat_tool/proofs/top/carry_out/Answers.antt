use Rattle.std.proofs.Common.{refl, subst}
use Rattle.cat_command_line.specs.Words.{IsWithin}
use Rattle.cat_tool.proofs.top.carry_out.Goals as goal

pub run_server-requires-clause-crew : goal.run_server-requires-clause-crew
run_server-requires-clause-crew g c κs is_well = subst IsWithin c.in-Serve.is c.requires.within

pub tell_sample-status-requires : goal.tell_sample-status-requires
tell_sample-status-requires g c = subst IsWithin c.in-Sample.is c.requires.within

pub returns-in-Session : goal.returns-in-Session
returns-in-Session g c = rw c.in-Session.is (refl, c.answer_lines.ensures)

pub returns-in-Wire : goal.returns-in-Wire
returns-in-Wire g c = rw c.in-Wire.is (refl, c.answer_messages.ensures)

pub returns-in-Serve : goal.returns-in-Serve
returns-in-Serve g c = rw c.in-Serve.is (refl, c.run_server.ensures)

pub returns-in-Mirror : goal.returns-in-Mirror
returns-in-Mirror g c = rw c.in-Mirror.is (refl, refl, c.run_mirror-status.ensures)

pub returns-in-Sample : goal.returns-in-Sample
returns-in-Sample g c = rw c.in-Sample.is (refl, refl, refl, c.tell_sample-status.ensures)
