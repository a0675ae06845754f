use Rattle.std.proofs.Common.{ap, map, ◌∙◌, sym}
use Rattle.std.proofs.lemmas.List.{drop_all}
use Rattle.std.specs.Option.{unwrap_or}
use Rattle.cat_collections.specs.Table.{get}
use Rattle.cat_query.specs.Facets.{counted, values_among}
use Rattle.cat_pages.specs.Page.{pair_seen}
use Rattle.cat_query.proofs.Numbers.{number_at}
use Rattle.cat_query.proofs.facets.counts.Goals as goal

pub returns-clause-each : goal.returns-clause-each
returns-clause-each c v =
    let key = c.args.key.now in
    let ds = c.args.documents.now in
    ap (λ m. unwrap_or (get m v) 0)
    (ap (λ l. counted (values_among key (map pair_seen l)) c.loop-document.counts) (sym (drop_all c.loop-document.document-index ds c.loop-document-test.false))
    ∙ c.loop-document.invariant)
    ∙ number_at (values_among key (map pair_seen ds)) v
