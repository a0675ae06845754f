use Rattle.std.proofs.Common.{◌≡◌, ◌∙◌}
use Rattle.cat_collections.specs.Table.{put}
use Rattle.cat_keeper.specs.Store.{row_cmp}
use Rattle.cat_keeper.specs.declared.rows.Change.TheVariants.{Put}
use Rattle.cat_stored_rows.proofs.Needing.{turns}
use Rattle.cat_stored_rows.proofs.walk.turn.Goals as goal

pub returns-clause-come : goal.returns-clause-come
returns-clause-come g c =
    let walk = c.args.walk.now in
    let told = g.X.Told.told in
    let made : c.put.new.self ≡ put row_cmp c.args.is.now.0 (Put (told c.args.is.now.1)) walk.batch =
    c.in_ok-put.ensures ∙ (λ i. put row_cmp (c.in_ok-key.ensures i) (Put (c.in_ok-text.ensures i)) walk.batch) in
    turns told c.args.old.now c.args.new.now walk.from walk.to walk.batch c.put.new.self c.args.was.now c.args.is.now c.in_order.ensures c.in_order-2.ensures c.requires.come c.requires.from c.requires.to c.requires.key c.requires.differ made
