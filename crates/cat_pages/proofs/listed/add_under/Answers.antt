use Rattle.std.proofs.Common.{◌++◌, ap, map, take, ◌∙◌}
use Rattle.cat_pages.specs.Seen.{ranked_seen}
use Rattle.cat_pages.proofs.Walks.{looked_is}
use Rattle.cat_search.proofs.Finds.{after_ok}
use Rattle.cat_pages.proofs.listed.add_under.Goals as goal

pub returns : goal.returns
returns c =
    after_ok c.add_looked.result _ _
    (λ e. e ∙ ap (λ l. take c.args.most (map ranked_seen c.args.found.now.items ++ l))
    (looked_is c.args.query.now c.args.docs.now c.args.entry.now c.in_order.ensures c.in_order-2.ensures c.requires.listed c.requires.key))
    c.add_looked.ensures
