use Rattle.std.proofs.Common.{◌≡◌, [], drop, map}
use Rattle.cat_query.specs.Facets.{counted, values_among}
use Rattle.cat_pages.specs.Page.{pair_seen}
use Rattle.cat_query.proofs.facets.counts.Given as goal

-- with those that are left counted too, all are
abbrev pub invariant-loop-document : goal.invariant-loop-document
invariant-loop-document l =
    counted (values_among l.key (map pair_seen (drop l.document-index l.documents))) l.counts ≡ counted (values_among l.key (map pair_seen l.documents)) []
