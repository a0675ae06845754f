use Rattle.std.proofs.Common.{ap, ◌∙◌}
use Rattle.cat_links.specs.Links.{all_emitted, has}
use Rattle.cat_links.proofs.Counted.{counted}
use Rattle.cat_links.proofs.links.Links.has.Goals as goal

pub returns : goal.returns
returns c =
    let x = c.args.relation.now in
    c.is_counted.ensures ∙ (counted c.self.inside.emitted c.self.inside.counts x c.self.invariant ∙ ap (λ m. has x (all_emitted m)) c.self.view_is)
