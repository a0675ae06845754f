use Rattle.std.proofs.Common.{sym, ap, ◌∙◌}
use Rattle.cat_sample.specs.Summary.{item_count}
use Rattle.cat_sample.proofs.Rest.{counted}
use Rattle.cat_sample.proofs.summary.relations_in.Goals as goal

pub returns : goal.returns
returns c = sym (counted c.relations.result.now) ∙ ap item_count c.relations.ensures
