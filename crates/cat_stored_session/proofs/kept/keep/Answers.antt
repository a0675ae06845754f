use Rattle.std.proofs.Common.{sym, subst}
use Rattle.cat_row_updates.specs.Renewed.{IsBeyond}
use Rattle.cat_stored_session.specs.About.{IsFound}
use Rattle.cat_stored_session.proofs.kept.keep.Goals as goal

pub follow_reached-requires-clause-beyond : goal.follow_reached-requires-clause-beyond
follow_reached-requires-clause-beyond g c =
    let reached = c.in-Ok-Some.reached in
    let found = subst (IsFound c.args.about c.args.settled c.args.saved.now c.args.after.now) c.in-Ok-Some.field-0-is c.in-Ok-Some.ensures in
    subst (λ m. IsBeyond reached m c.args.after.now) (sym c.state.ensures.state) (c.requires.beyond reached found)
