use Rattle.std.proofs.Common.{◌≡◌, ap, ◌∙◌}
use Rattle.cat_collections.specs.Table.{put}
use Rattle.cat_keeper.specs.Store.{row_cmp}
use Rattle.cat_keeper.specs.declared.rows.Change.TheVariants.{Gone}
use Rattle.cat_stored_rows.proofs.Needing.{leaves}
use Rattle.cat_stored_rows.proofs.walk.leave.Goals as goal

pub returns-clause-come : goal.returns-clause-come
returns-clause-come g c =
    let walk = c.args.walk.now in
    let made : c.put.new.self ≡ put row_cmp c.args.was.now.0 Gone walk.batch =
    c.in_ok-put.ensures ∙ ap (λ k. put row_cmp k Gone walk.batch) c.in_ok-key.ensures in
    leaves g.X.Told.told c.args.old.now c.args.new.now walk.from walk.to walk.batch c.put.new.self c.args.was.now c.in_order.ensures c.requires.come c.requires.at c.requires.above made
