use Rattle.cat_collections.specs.Rows.{without}
use Rattle.cat_collections.specs.Table.{get, text_cmp}
use Rattle.cat_state_parts.specs.Marks.{tickets_without}
use Rattle.cat_state_parts.proofs.Indexed.{same_indexed, without_indexed}
use Rattle.cat_state_parts.proofs.marks.Marks.remove.Goals as goal

pub invariant_of-self-2 : goal.invariant_of-self-2
invariant_of-self-2 c =
    let marks = c.self.inside.marks in
    let tickets = c.self.inside.by_ticket in
    let r = c.args.reference.now in
    same_indexed (without text_cmp r marks) c.remove.new.self (tickets_without r (get marks r) tickets) c.in_ok-by_ticket.by_ticket
    c.in_ok-remove.ensures c.in_ok-by_ticket.ensures (without_indexed marks tickets c.self.invariant r)
