-- The replacement of an origin's rows.
use Rattle.cat_model.proofs.Changed.{sound_ready, rows_after, after_in_order, after_open, replaced-is}
use Rattle.cat_model.proofs.mending.replacing_is_such_a_change.Goals as goal

pub returns-clause-sound : goal.returns-clause-sound
returns-clause-sound c rules m sound = sound_ready rules m sound

pub returns-clause-rows : goal.returns-clause-rows
returns-clause-rows c o offers order m ready = rows_after o offers m order ready

pub returns-clause-order : goal.returns-clause-order
returns-clause-order c o offers order m ready = after_in_order o offers m order ready

pub returns-clause-opens : goal.returns-clause-opens
returns-clause-opens c o offers order m ready may = after_open o offers m order ready may

pub returns-clause-holders : goal.returns-clause-holders
returns-clause-holders c o offers order m ready = replaced-is o offers m order ready
