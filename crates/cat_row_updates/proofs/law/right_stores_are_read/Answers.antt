use Rattle.cat_row_updates.proofs.Rested.{forms_pass}
use Rattle.cat_row_updates.proofs.Stores.{AreItsRows, its_rows}
use Rattle.cat_row_updates.proofs.law.right_stores_are_read.Goals as goal

pub returns-clause-read : goal.returns-clause-read
returns-clause-read c rules limit m texts may are =
    let its : AreItsRows rules limit m may texts = its_rows rules limit m may texts are in
    record { rows = its.read; spelled = its.texts; state = its.state }

pub returns-clause-formed : goal.returns-clause-formed
returns-clause-formed c rules limit m may = forms_pass rules m may.told may.placed may.formed
