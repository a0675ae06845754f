use Rattle.std.proofs.Common.{sym, ◌∙◌}
use Rattle.cat_events.proofs.Planning.{planned_is}
use Rattle.cat_events.proofs.plan.followed.Goals as goal

pub returns-clause-state : goal.returns-clause-state
returns-clause-state g c = λ n owned.
    let o = owned.change in
    planned_is c.args.own.now c.in_ok-following.following c.args.m.now n owned
    ∙ c.in_ok-following.ensures.state n
    (record {
      records = o.records;
      orphans = o.orphans;
      marks = o.marks;
      documents = o.documents;
      number = o.number;
      ticket = o.ticket;
      same_shelf = o.same_shelf ∙ sym c.shelf_after.ensures;
      same_rows = o.same_rows ∙ sym c.rows_after.ensures;
      same_holders = o.same_holders ∙ sym c.holders_after.ensures;
    })

pub returns-clause-linked : goal.returns-clause-linked
returns-clause-linked g c = λ n owned.
    let o = owned.change in
    c.in_ok-following.ensures.linked n
    (record {
      records = o.records;
      orphans = o.orphans;
      marks = o.marks;
      documents = o.documents;
      number = o.number;
      ticket = o.ticket;
      same_shelf = o.same_shelf ∙ sym c.shelf_after.ensures;
      same_rows = o.same_rows ∙ sym c.rows_after.ensures;
      same_holders = o.same_holders ∙ sym c.holders_after.ensures;
    })
