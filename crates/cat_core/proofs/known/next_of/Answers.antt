use Rattle.std.proofs.Common.{option_map}
use Rattle.cat_model.specs.Reply.{comes_after}
use Rattle.cat_core.proofs.Firsts.{known_is}
use Rattle.cat_core.proofs.known.next_of.Goals as goal

pub returns : goal.returns
returns c = known_is (comes_after (option_map (λ r. r.now) c.args.after)) c.args.m.now c.in_order.ensures c.in_order-2.ensures _ _ _ c.record_after.ensures c.orphan_after.ensures c.lesser.ensures
