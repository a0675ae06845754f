-- What claims first is what is rooted.
use Rattle.std.proofs.Common.{ap, length}
use Rattle.cat_collections.specs.Table.{keys}
use Rattle.cat_model.specs.Catalogue.{claim}
use Rattle.cat_model.proofs.Kept.{first_step}
use Rattle.cat_laws.proofs.theorem.rooted_stays.Goals as goal

pub returns : goal.returns
returns c rows holders names = ap (claim (length rows) rows (keys rows)) (first_step rows holders names)
