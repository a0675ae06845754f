-- Orders are given.
use Rattle.cat_model.specs.Settle.{marks_in_order}
use Rattle.cat_laws.proofs.Asked.{taken_given, stitch_given, taken_may, taken_first, mark_is_above, mark_least}
use Rattle.cat_laws.proofs.theorem.orders_are_given.Goals as goal

pub returns-clause-taken : goal.returns-clause-taken
returns-clause-taken c rules settings m now sound = taken_given rules settings m now sound

pub returns-clause-stitched : goal.returns-clause-stitched
returns-clause-stitched c rules m after sound = stitch_given rules m after sound

pub returns-clause-may : goal.returns-clause-may
returns-clause-may c m now r e = taken_may m now r e

pub returns-clause-first : goal.returns-clause-first
returns-clause-first c m now r x e may = taken_first m now r x e may

pub returns-clause-above : goal.returns-clause-above
returns-clause-above c m after mark e = mark_is_above after (marks_in_order m.marks) mark e

pub returns-clause-least : goal.returns-clause-least
returns-clause-least c m after r k e lt = mark_least m after r k e lt
