use Rattle.std.proofs.Common.{map, ap, sym, subst, ◌∙◌}
use Rattle.std.specs.List.Sorted.{IsStrictlySortedBy}
use Rattle.cat_tree.specs.Data.{keys_of}
use Rattle.cat_collections.specs.Table.{keys, text_cmp}
use Rattle.cat_query.specs.Facets.{facet_data}
use Rattle.cat_pages.specs.Page.{pair_seen}
use Rattle.cat_query.proofs.Numbers.{keys_of_made, keys_rise, made_of_keys}
use Rattle.cat_query.proofs.facets.facet_map.Goals as goal

pub from_vec-requires : goal.from_vec-requires
from_vec-requires c =
    let f = facet_data (map pair_seen c.args.documents.now) in
    subst (λ l. IsStrictlySortedBy text_cmp (keys_of l)) (sym c.in_ok-entries.ensures)
    (subst (IsStrictlySortedBy text_cmp) (sym (keys_of_made f c.in_ok-distinct.distinct)) (keys_rise c.in_ok-distinct.distinct c.in_order-2.ensures))

pub returns : goal.returns
returns c =
    let f = facet_data (map pair_seen c.args.documents.now) in
    c.from_vec.ensures ∙ c.in_ok-entries.ensures ∙ made_of_keys f c.in_ok-distinct.distinct ∙ ap (λ t. map (λ k. (k, f k)) (keys t)) c.in_ok-distinct.ensures
