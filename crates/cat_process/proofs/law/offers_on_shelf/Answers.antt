use Rattle.cat_process.proofs.OnShelf.{offered_on_shelf}
use Rattle.cat_process.proofs.law.offers_on_shelf.Goals as goal

pub returns : goal.returns
returns c = offered_on_shelf
