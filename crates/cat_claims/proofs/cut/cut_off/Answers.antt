use Rattle.std.proofs.Common.{rules, length}
use Rattle.cat_model.specs.Mend.{below}
use Rattle.cat_claims.proofs.Levels.{below_end, empty_is}
use Rattle.cat_claims.proofs.cut.cut_off.Goals as goal

pub returns-then-is_empty : goal.returns-then-is_empty
returns-then-is_empty c =
    below_end c.loop-left.left c.args.rows.now c.args.holders.now c.loop-left.cut.items c.loop-left.refs.items
    (below (length c.args.holders.now) c.args.rows.now c.args.holders.now c.args.lost.items) (empty_is c.loop-left.refs.items (search rules)) c.loop-left.invariant
