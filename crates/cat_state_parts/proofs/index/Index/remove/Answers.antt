use Rattle.std.proofs.Common.{None, refl}
use Rattle.cat_collections.specs.Rows.{without}
use Rattle.cat_collections.specs.Table.{put, text_cmp}
use Rattle.cat_state_parts.proofs.Waiting.{agree_noted, same_index}
use Rattle.cat_state_parts.proofs.index.Index.remove.Goals as goal

pub invariant_of-self-2 : goal.invariant_of-self-2
invariant_of-self-2 c =
    let self = c.self.inside in
    let r = c.args.reference.now in
    same_index (without text_cmp r self.documents) c.remove.new.self (put text_cmp r (tt {0}) self.pending) c.in_ok-pending.pending self.listed self.listed self.lists self.lists
    c.in_ok-remove.ensures c.in_ok-pending.ensures refl refl
    (c.self.invariant.0, agree_noted self.pending self.documents self.listed r None c.self.invariant.1)
