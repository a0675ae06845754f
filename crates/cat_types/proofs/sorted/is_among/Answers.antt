use Rattle.std.proofs.Common.{rules, ◌∙◌}
use Rattle.std.specs.Ordering.{ordering_reverse}
use Rattle.std.proofs.lemmas.Fn.{always_returns_same}
use Rattle.cat_collections.proofs.Placed.{found_in}
use Rattle.cat_types.proofs.sorted.is_among.Goals as goal

pub returns : goal.returns
returns g c =
    c.is_ok.ensures.value
    ∙ found_in g.met.K.Key.total c.args.item.now c.args.items.now c.binary_search_by.result c.requires c.binary_search_by.ensures.bound
    (c.binary_search_by.ensures.position (λ e. ordering_reverse (g.K.Key.order c.args.item.now e)) (always_returns_same _ _ _ (λ a r f' k. search rules)))
