use Rattle.cat_stitch.proofs.Ids.{ids_differ}
use Rattle.cat_stitch.proofs.laws.unique_ids_differ.Goals as goal

pub returns : goal.returns
returns c = ids_differ
