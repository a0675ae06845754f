use Rattle.std.proofs.Common.{ap, ◌∙◌}
use Rattle.std.specs.Prelude.{option_map, slice_get}
use Rattle.cat_state_parts.specs.Marks.{least_above}
use Rattle.cat_state_parts.proofs.Least.{mark_of, next_is}
use Rattle.cat_state_parts.proofs.marks.Marks.next.Goals as goal

pub returns-in-Some : goal.returns-in-Some
returns-in-Some c =
    let tickets = c.self.inside.by_ticket in
    ap (option_map mark_of) (c.in-Some.ensures ∙ ap (slice_get tickets) c.seek_place-place.ensures)
    ∙ (next_is c.args.after c.self.inside.marks tickets c.in_order.ensures c.in_order-2.ensures c.self.invariant ∙ ap (least_above c.args.after) c.self.view_is)

pub returns-in-None : goal.returns-in-None
returns-in-None c =
    let tickets = c.self.inside.by_ticket in
    ap (option_map mark_of) (c.in-None.ensures ∙ ap (slice_get tickets) c.seek_place-place.ensures)
    ∙ (next_is c.args.after c.self.inside.marks tickets c.in_order.ensures c.in_order-2.ensures c.self.invariant ∙ ap (least_above c.args.after) c.self.view_is)
