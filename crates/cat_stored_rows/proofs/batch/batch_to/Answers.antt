use Rattle.cat_stored_rows.specs.Stored.{texts_of}
use Rattle.cat_stored_rows.proofs.Telling.{leads_texts, needed_texts}
use Rattle.cat_stored_rows.proofs.batch.batch_to.Goals as goal

pub returns-clause-leads : goal.returns-clause-leads
returns-clause-leads c = leads_texts c.args.old.now c.in_ok-told.told (texts_of c.args.new.now) c.changes.result c.in_ok-told.ensures c.changes.ensures.leads

pub returns-clause-needed : goal.returns-clause-needed
returns-clause-needed c = needed_texts c.args.old.now c.in_ok-told.told (texts_of c.args.new.now) c.changes.result c.in_ok-told.ensures c.changes.ensures.needed
