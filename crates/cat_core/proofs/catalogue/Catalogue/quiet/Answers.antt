use Rattle.std.proofs.Common.{sym, subst, ◌∙◌}
use Rattle.cat_model.specs.Sound.{Quiet}
use Rattle.cat_laws.proofs.Asked.{asked_quiet, quiet_asked}
use Rattle.cat_core.proofs.catalogue.Catalogue.quiet.Goals as goal

pub returns : goal.returns
returns g c = (
  λ h. subst (λ l. Quiet l.state c.args.now) c.self.view_is (asked_quiet c.self.inside.ledger.state c.args.now (sym c.is_quiet.ensures ∙ h)),
  λ q. c.is_quiet.ensures ∙ quiet_asked c.self.inside.ledger.state c.args.now (subst (λ l. Quiet l.state c.args.now) (sym c.self.view_is) q),
)
