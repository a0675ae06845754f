use Rattle.std.proofs.Common.{ap, ◌∙◌}
use Rattle.cat_collections.specs.Table.{keys}
use Rattle.cat_row_updates.proofs.Renewing.{made_so, told_so}
use Rattle.cat_row_updates.proofs.renew.renewed_rows.Goals as goal

pub returns-clause-rows : goal.returns-clause-rows
returns-clause-rows c =
    made_so c.args.rule c.args.reached.now c.args.before.now c.args.after.now c.requires.beyond c.requires.kept.0 c.requires.kept.1 c.in_order.ensures c.in_order-2.ensures
    c.in_ok-places.places c.args.rows.now c.in_ok-made.made c.in_ok-places.ensures c.requires.rows c.in_ok-made.ensures

pub returns-clause-keys : goal.returns-clause-keys
returns-clause-keys c =
    told_so c.args.rule c.args.reached.now c.args.before.now c.args.after.now c.requires.beyond c.requires.kept.0 c.requires.kept.1 c.in_order.ensures c.in_order-2.ensures
    c.into_vec-keys.result.items c.args.rows.now c.in_ok-made.made (c.into_vec-keys.ensures ∙ (c.in_ok-keys.ensures ∙ ap keys c.in_ok-places.ensures)) c.requires.rows
    (made_so c.args.rule c.args.reached.now c.args.before.now c.args.after.now c.requires.beyond c.requires.kept.0 c.requires.kept.1 c.in_order.ensures c.in_order-2.ensures
    c.in_ok-places.places c.args.rows.now c.in_ok-made.made c.in_ok-places.ensures c.requires.rows c.in_ok-made.ensures)
