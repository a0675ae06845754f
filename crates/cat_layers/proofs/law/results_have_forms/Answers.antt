use Rattle.cat_layers.proofs.Results.{gives_processed, gives_offers}
use Rattle.cat_layers.proofs.law.results_have_forms.Goals as goal

pub returns-clause-entity : goal.returns-clause-entity
returns-clause-entity c shelf x r output issues h good = gives_processed shelf x r output issues h good

pub returns-clause-offers : goal.returns-clause-offers
returns-clause-offers c shelf tree output issues good q y e = gives_offers shelf tree output issues good q y e
