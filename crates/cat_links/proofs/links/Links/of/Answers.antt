use Rattle.std.proofs.Common.{[], unwrap_or, ap, ◌∙◌}
use Rattle.cat_collections.specs.Table.{keys}
use Rattle.cat_links.specs.Links.{relations_of}
use Rattle.cat_links.proofs.Counted.{linked}
use Rattle.cat_links.proofs.links.Links.of.Goals as goal

pub returns : goal.returns
returns c =
    let s = c.args.source.now in
    ap (λ o. keys (unwrap_or o [])) c.get.ensures ∙ (linked c.self.inside.emitted c.self.inside.counts s c.self.invariant ∙ ap (λ m. relations_of m s) c.self.view_is)
