-- Forms are kept.
use Rattle.cat_model.specs.declared.types.OrphanRule.TheVariants.{Keep}
use Rattle.cat_model.specs.declared.types.Settings.{Settings}
use Rattle.cat_laws.proofs.Forms.{start_form, run_form, settle_form, reopened_form, row_form, work_form, parts_form}
use Rattle.cat_laws.proofs.theorem.forms_are_kept.Goals as goal

no_settings : Settings
no_settings = record { interval = 1; lease = 1; input_limit = 0; orphans = Keep }

pub returns-clause-begins : goal.returns-clause-begins
returns-clause-begins c rules form = start_form rules form

pub returns-clause-keeps : goal.returns-clause-keeps
returns-clause-keeps c rules form settings m events sound h given = run_form rules form settings events m sound h given

pub returns-clause-settles : goal.returns-clause-settles
returns-clause-settles c rules form settings m now limit sound h = settle_form rules form settings now limit m sound h

pub returns-clause-reopens : goal.returns-clause-reopens
returns-clause-reopens c rules form m h = reopened_form rules form m h

pub returns-clause-rows : goal.returns-clause-rows
returns-clause-rows c rules form m a row sound h e = row_form rules form no_settings m sound h a row e

pub returns-clause-works : goal.returns-clause-works
returns-clause-works c rules form m r w sound h e = work_form rules form no_settings m sound h r w e

pub returns-clause-parts : goal.returns-clause-parts
returns-clause-parts c rules form m r p sound small h e = parts_form rules form no_settings m sound h small r p e
