use Rattle.cat_layers.proofs.Forms.{offer_is, offer_holds, entity_is, entity_holds}
use Rattle.cat_layers.proofs.law.tests_tell_forms.Goals as goal

pub returns-clause-item : goal.returns-clause-item
returns-clause-item c x r = (offer_is x r, offer_holds x r)

pub returns-clause-entity : goal.returns-clause-entity
returns-clause-entity c t r = (entity_is t r, entity_holds t r)
