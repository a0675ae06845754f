use Rattle.std.proofs.Common.{ap, sym, ◌∙◌}
use Rattle.std.proofs.lemmas.List.{take-map}
use Rattle.cat_pages.specs.Seen.{ranked_seen}
use Rattle.cat_pages.proofs.Walks.{first_are}
use Rattle.cat_pages.proofs.listed.first.Goals as goal
use Rattle.std.proofs.Common.{map}

pub returns : goal.returns
returns c =
    ap (map ranked_seen) c.truncate.ensures.items
    ∙ sym (take-map ranked_seen c.args.most c.add_rest.new.found.items)
    ∙ first_are c.args.query.now c.args.docs.now c.args.lists.now c.args.most _ _ c.requires c.in_order.ensures c.in_order-2.ensures c.in_ok-found.ensures c.in_ok-add_rest.ensures
