use Rattle.std.proofs.Common.{refl, sym, ap, ◌∙◌, option_map}
use Rattle.cat_desk.specs.Deed.Deed.{Finish}
use Rattle.cat_workers.specs.Kinds.{worker}
use Rattle.cat_workers.proofs.Rounding.{taken, untaken}
use Rattle.cat_workers.proofs.work.work.Goals as goal

pub returns-in-Some : goal.returns-in-Some
returns-in-Some g c =
    taken g.D.WorkDesk.acts (g.G.Gate.told c.args.gate.now) worker 0 0 c.is_finished.result c.args.desk.now c.take-taken.new.desk c.finish.new.desk c.take-taken.result (Finish c.in-Some.order) c.finish.result c.take-taken.ensures
    (ap (option_map Finish) (sym c.order_in.ensures ∙ c.in-Some.is)) refl c.finish.ensures c.is_finished.ensures

pub returns-in-None : goal.returns-in-None
returns-in-None g c =
    untaken g.D.WorkDesk.acts (g.G.Gate.told c.args.gate.now) worker 0 0 _ c.args.desk.now c.take-taken.new.desk c.take-taken.result c.take-taken.ensures
    (ap (option_map Finish) (sym c.order_in.ensures ∙ c.in-None.is)) refl refl
