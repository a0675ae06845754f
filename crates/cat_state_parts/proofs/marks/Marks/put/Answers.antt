use Rattle.cat_collections.specs.Table.{get, put, text_cmp}
use Rattle.cat_state_parts.specs.Marks.{tickets_with}
use Rattle.cat_state_parts.proofs.Indexed.{same_indexed, with_indexed}
use Rattle.cat_state_parts.proofs.marks.Marks.put.Goals as goal

pub invariant_of-self-2 : goal.invariant_of-self-2
invariant_of-self-2 c =
    let marks = c.self.inside.marks in
    let tickets = c.self.inside.by_ticket in
    same_indexed (put text_cmp c.args.reference c.args.ticket marks) c.put.new.self (tickets_with c.args.ticket c.args.reference (get marks c.args.reference) tickets) c.in_ok-by_ticket.by_ticket
    c.in_ok-put.ensures c.in_ok-by_ticket.ensures (with_indexed marks tickets c.self.invariant c.args.reference c.args.ticket)
