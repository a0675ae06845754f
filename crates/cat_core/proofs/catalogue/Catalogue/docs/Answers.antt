use Rattle.std.proofs.Common.{sym, subst}
use Rattle.cat_model.specs.Fresh.{IsFresh}
use Rattle.cat_model.specs.Sound.{Quiet}
use Rattle.cat_laws.proofs.Fresh.{is_fresh}
use Rattle.cat_core.proofs.catalogue.Catalogue.docs.Goals as goal

pub returns-clause-fresh : goal.returns-clause-fresh
returns-clause-fresh g c = λ now q.
    subst (λ l. IsFresh g.L.Layers.rules l.state) c.self.view_is
    (is_fresh g.L.Layers.rules c.self.inside.ledger.state c.self.invariant.steady.sound now (subst (λ l. Quiet l.state now) (sym c.self.view_is) q))
