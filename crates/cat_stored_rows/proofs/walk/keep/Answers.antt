use Rattle.std.proofs.Common.{refl}
use Rattle.cat_stored_rows.proofs.Needing.{stays}
use Rattle.cat_stored_rows.proofs.walk.keep.Goals as goal

pub returns-clause-come : goal.returns-clause-come
returns-clause-come g c =
    let walk = c.args.walk.now in
    stays g.X.Told.told c.args.old.now c.args.new.now walk.from walk.to walk.batch walk.batch c.args.was.now c.args.is.now c.in_order.ensures c.in_order-2.ensures c.requires.come c.requires.from c.requires.to c.requires.key c.requires.same refl
