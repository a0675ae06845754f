use Rattle.std.proofs.Common.{ap, ◌∙◌}
use Rattle.std.specs.FinMap.Entries.{is_sorted}
use Rattle.cat_types.proofs.Known.{rise_is}
use Rattle.cat_types.proofs.entries.Entries.from_vec.Goals as goal

pub invariant_of-result : goal.invariant_of-result
invariant_of-result g c = rise_is g.K.Key.order c.rise-rising.result c.args.items.items (c.rise-rising.ensures ∙ ap (is_sorted g.K.Key.order) c.as_slice.ensures.value)
