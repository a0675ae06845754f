use Rattle.std.proofs.Common.{sym, ap, ◌∙◌, option_map}
use Rattle.std.specs.declared.option.Option.TheVariants.{None}
use Rattle.cat_desk.specs.Deed.Deed.{PutStitch}
use Rattle.cat_workers.specs.Kinds.{leapt, stitcher}
use Rattle.cat_workers.proofs.Rounding.{taken, untaken}
use Rattle.cat_workers.proofs.stitch.stitch.Goals as goal

pub returns-in-Some : goal.returns-in-Some
returns-in-Some g c =
    taken g.D.WorkDesk.acts (g.G.Gate.told c.args.gate.now) stitcher c.args.after.now c.leapt.result c.is_placed.result c.args.desk.now c.take-taken.new.desk c.put-brought.new.desk c.take-taken.result (PutStitch c.in-Some.order) c.put-brought.result c.take-taken.ensures
    (ap (option_map PutStitch) (sym c.order_in.ensures ∙ c.in-Some.is)) (c.leapt.ensures ∙ ap (λ n. leapt n c.put-brought.result) c.next_ticket-ticket.ensures) c.put-brought.ensures c.is_placed.ensures

pub returns-in-None : goal.returns-in-None
returns-in-None g c =
    untaken g.D.WorkDesk.acts (g.G.Gate.told c.args.gate.now) stitcher c.args.after.now c.next_ticket-ticket.result c.begins_anew-anew.result c.args.desk.now c.take-taken.new.desk c.take-taken.result c.take-taken.ensures
    (ap (option_map PutStitch) (sym c.order_in.ensures ∙ c.in-None.is)) c.next_ticket-ticket.ensures c.begins_anew-anew.ensures
