use Rattle.std.proofs.Common.{rules}
use Rattle.std.specs.Ordering.{ordering_reverse}
use Rattle.std.proofs.lemmas.Fn.{always_returns_same}
use Rattle.cat_collections.proofs.Placed.{spot}
use Rattle.cat_types.proofs.entries.place_of.Goals as goal

pub returns : goal.returns
returns g c =
    spot g.met.K.Key.total g.met.K.Key.apart c.args.key.now c.args.rows.now c.binary_search_by.result c.requires c.binary_search_by.ensures.bound
    (c.binary_search_by.ensures.position (λ e. ordering_reverse (g.K.Key.order c.args.key.now e.0)) (always_returns_same _ _ _ (λ a r f' k. search rules)))
