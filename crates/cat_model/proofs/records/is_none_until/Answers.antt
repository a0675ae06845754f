use Rattle.cat_model.proofs.DueNow.{first_of_none, first_of_some}
use Rattle.cat_model.proofs.records.is_none_until.Goals as goal

pub returns-in-None : goal.returns-in-None
returns-in-None c = first_of_none c.args.now c.args.dues.now c.in-None.ensures

pub returns-in-Some : goal.returns-in-Some
returns-in-Some c = first_of_some c.args.now c.args.dues.now c.in-Some.field-0.now c.in-Some.ensures
