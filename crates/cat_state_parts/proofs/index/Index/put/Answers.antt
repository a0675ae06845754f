use Rattle.std.proofs.Common.{Some, refl}
use Rattle.cat_collections.specs.Table.{put, text_cmp}
use Rattle.cat_state_parts.proofs.Waiting.{agree_noted, same_index}
use Rattle.cat_state_parts.proofs.index.Index.put.Goals as goal

pub invariant_of-self-2 : goal.invariant_of-self-2
invariant_of-self-2 c =
    let self = c.self.inside in
    let r = c.args.reference in
    let d = c.args.document in
    same_index (put text_cmp r d self.documents) c.put.new.self (put text_cmp r (tt {0}) self.pending) c.in_ok-pending.pending self.listed self.listed self.lists self.lists
    c.in_ok-put.ensures c.in_ok-pending.ensures refl refl
    (c.self.invariant.0, agree_noted self.pending self.documents self.listed r (Some d) c.self.invariant.1)
