use Rattle.cat_kinds.proofs.Whole.{reads_each}
use Rattle.cat_kinds.proofs.law.reads_each_reference.Goals as goal

pub returns : goal.returns
returns c = reads_each
