use Rattle.cat_collections.proofs.Tables.{none_or_some}
use Rattle.cat_session_model.proofs.Again.{old_line, lines_above, once}
use Rattle.cat_session_model.proofs.once.repeated_lines_act_once.Goals as goal

pub returns-clause-old : goal.returns-clause-old
returns-clause-old c rules settings m line p x reads le = old_line rules settings m line p x reads le

pub returns-clause-later : goal.returns-clause-later
returns-clause-later c rules settings m lines words p = lines_above rules settings p m lines words

pub returns-clause-once : goal.returns-clause-once
returns-clause-once c rules settings m line p x first second words rest reads accepted each = once rules settings m line p x first second words rest reads (none_or_some _ accepted) each
