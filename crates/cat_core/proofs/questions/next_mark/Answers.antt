use Rattle.std.proofs.Common.{sym, ◌∙◌}
use Rattle.cat_core.proofs.Marks.{above_in_order}
use Rattle.cat_core.proofs.questions.next_mark.Goals as goal

pub returns : goal.returns
returns c = c.next.ensures ∙ sym (above_in_order c.args.after c.args.m.now.marks)
