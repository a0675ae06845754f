use Rattle.cat_core.proofs.catalogue.Catalogue.get.Goals as goal

pub returns-clause-fresh : goal.returns-clause-fresh
returns-clause-fresh g c = c.docs.ensures.fresh
