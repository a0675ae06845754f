use Rattle.cat_types.proofs.Readings.{one_reading}
use Rattle.cat_types.proofs.split.reads_one_way.Goals as goal

pub returns : goal.returns
returns c = one_reading
