use Rattle.cat_stored_rows.proofs.Sames.{same_data}
use Rattle.cat_stored_rows.proofs.same.is_same_node.Goals as goal

pub returns : goal.returns
returns c = same_data c.args.left.now c.args.right.now c.same.result c.same.ensures
