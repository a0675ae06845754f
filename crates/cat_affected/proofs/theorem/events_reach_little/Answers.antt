-- What each event reaches.
use Rattle.cat_affected.proofs.Inputs.{inputs_stay, put_inputs, drop_inputs}
use Rattle.cat_affected.proofs.Mutated.{mutate_reaches, mutate_inputs}
use Rattle.cat_affected.proofs.Nothing.{shelf_put_reaches, shelf_drop_reaches, refresh_reaches, take_reaches, take_at_reaches, put_stitch_reaches}
use Rattle.cat_affected.proofs.Own.{finish_reaches, forget_reaches, forget_number_reaches, no_number}
use Rattle.cat_affected.proofs.theorem.events_reach_little.Goals as goal

pub returns-clause-mutate : goal.returns-clause-mutate
returns-clause-mutate c rules settings m p x sound = mutate_reaches rules settings m p x sound

pub returns-clause-finish : goal.returns-clause-finish
returns-clause-finish c rules settings m order now sound = finish_reaches rules settings m sound order now

pub returns-clause-forget : goal.returns-clause-forget
returns-clause-forget c rules settings m r sound = forget_reaches rules settings m sound r

pub returns-clause-forget_number : goal.returns-clause-forget_number
returns-clause-forget_number c rules settings m number r sound is = forget_number_reaches rules settings m sound number r is

pub returns-clause-no_number : goal.returns-clause-no_number
returns-clause-no_number c rules settings m number is = no_number rules settings m number is

pub returns-clause-shelf_put : goal.returns-clause-shelf_put
returns-clause-shelf_put c rules settings m name text sound = shelf_put_reaches rules settings m sound name text

pub returns-clause-shelf_drop : goal.returns-clause-shelf_drop
returns-clause-shelf_drop c rules settings m name sound = shelf_drop_reaches rules settings m sound name

pub returns-clause-refresh : goal.returns-clause-refresh
returns-clause-refresh c rules settings m r = refresh_reaches rules settings m r

pub returns-clause-take : goal.returns-clause-take
returns-clause-take c rules settings m now = take_reaches rules settings m now

pub returns-clause-take_at : goal.returns-clause-take_at
returns-clause-take_at c rules settings m r now = take_at_reaches rules settings m r now

pub returns-clause-put_stitch : goal.returns-clause-put_stitch
returns-clause-put_stitch c rules settings m order = put_stitch_reaches rules settings m order

pub returns-clause-mutated_inputs : goal.returns-clause-mutated_inputs
returns-clause-mutated_inputs c rules settings m p x = mutate_inputs rules settings m p x

pub returns-clause-put_inputs : goal.returns-clause-put_inputs
returns-clause-put_inputs c rules settings m name text = put_inputs rules settings m name text

pub returns-clause-dropped_inputs : goal.returns-clause-dropped_inputs
returns-clause-dropped_inputs c rules settings m name = drop_inputs rules settings m name

pub returns-clause-other_inputs : goal.returns-clause-other_inputs
returns-clause-other_inputs c rules settings m e is = inputs_stay rules settings m e is
