use Rattle.std.proofs.Common.{rules, arith}
use Rattle.std.proofs.lemmas.Grind.{common_steps}
use Rattle.cat_in_memory.proofs.mirror.run_mirror.Goals as goal

pub returns-in-Ok : goal.returns-in-Ok
returns-in-Ok g c = record {
  mirrored = first_of (search rules, grind (arith, common_steps));
  read_fault = first_of (search rules, grind (arith, common_steps));
  write_fault = first_of (search rules, grind (arith, common_steps));
  memory = first_of (search rules, grind (arith, common_steps));
  read_later = c.follow.ensures.read_later;
  write_later = c.follow.ensures.write_later;
  statuses = first_of (search rules, grind (arith, common_steps));
}

pub returns-in-Err : goal.returns-in-Err
returns-in-Err g c = record {
  mirrored = first_of (search rules, grind (arith, common_steps));
  read_fault = first_of (search rules, grind (arith, common_steps));
  write_fault = first_of (search rules, grind (arith, common_steps));
  memory = first_of (search rules, grind (arith, common_steps));
  read_later = c.follow.ensures.read_later;
  write_later = c.follow.ensures.write_later;
  statuses = first_of (search rules, grind (arith, common_steps));
}
