use Rattle.cat_process.proofs.Whole.{reads_each}
use Rattle.cat_process.proofs.law.reads_each_target.Goals as goal

pub returns : goal.returns
returns c = reads_each
