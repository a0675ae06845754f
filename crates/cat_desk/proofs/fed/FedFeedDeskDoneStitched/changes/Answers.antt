use Rattle.std.proofs.Common.{◌∙◌, ap, refl, subst}
use Rattle.cat_core.specs.declared.ledger.Ledger.{Ledger}
use Rattle.cat_feed.specs.Changes.{Documents}
use Rattle.cat_desk.specs.Told.{Tells}
use Rattle.cat_desk.proofs.fed.FedFeedDeskDoneStitched.changes.Goals as goal

pub returns-clause-answer : goal.returns-clause-answer
returns-clause-answer g c = (
  c.tell.ensures.answer.0,
  c.tell.ensures.answer.1,
  (
    subst (λ (ds : Documents). Tells ds c.args.since c.args.self.now.feed c.tell.new.feed c.tell.result c.tell.ensures.answer.0) (c.docs.ensures.docs ∙ ap (λ (l : Ledger). l.state.documents) c.catalogue.ensures) c.tell.ensures.answer.2,
    refl,
  ),
)
