use Rattle.std.proofs.Common.{rules, arith}
use Rattle.std.proofs.lemmas.Grind.{common_steps}
use Rattle.cat_in_memory.proofs.empty.tell_sample.Goals as goal

pub returns-in-Ok : goal.returns-in-Ok
returns-in-Ok g c = record {
  told = first_of (search rules, grind (arith, common_steps));
  memory = first_of (search rules, grind (arith, common_steps));
  write_fault = c.tell.ensures.write_fault;
  write_later = c.tell.ensures.later;
  statuses = first_of (search rules, grind (arith, common_steps));
}

pub returns-in-Err : goal.returns-in-Err
returns-in-Err g c = record {
  told = first_of (search rules, grind (arith, common_steps));
  memory = first_of (search rules, grind (arith, common_steps));
  write_fault = first_of (search rules, grind (arith, common_steps));
  write_later = first_of (search rules, grind (arith, common_steps));
  statuses = first_of (search rules, grind (arith, common_steps));
}
