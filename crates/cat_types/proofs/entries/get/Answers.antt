use Rattle.cat_collections.proofs.Placed.{find_at, find_between}
use Rattle.cat_types.proofs.entries.get.Goals as goal

pub returns-in-Ok : goal.returns-in-Ok
returns-in-Ok g c = find_at g.met.K.Key.total g.met.K.Key.apart c.args.key.now c.args.rows.now c.in-Ok.place c.index-rows-place.result c.in-Ok.ensures

pub returns-in-Err : goal.returns-in-Err
returns-in-Err g c = find_between g.met.K.Key.total g.met.K.Key.apart c.args.key.now c.args.rows.now c.in-Err.field-0 c.in-Err.ensures
