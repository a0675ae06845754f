use Rattle.std.proofs.Common.{◌∙◌, ap, rules}
use Rattle.cat_model.specs.Settle.{marks_in_order}
use Rattle.cat_settle.proofs.Sorted.{sorted_in_order}
use Rattle.cat_settle.proofs.stitches.sorted_marks.Goals as goal

pub returns : goal.returns
returns c =
    sorted_in_order c.in_ok-made.made.items c.sort_by_key.new.self.items c.in_ok-sort_by_key.ensures.sorted c.sort_by_key.ensures.stable (λ a r f' k. search rules)
    ∙ ap marks_in_order c.in_ok-made.ensures
