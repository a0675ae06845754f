use Rattle.std.proofs.Common.{◌≡◌, true, false, rules, subst}
use Rattle.cat_workers.specs.Kinds.{worker}
use Rattle.cat_workers.specs.Rounds.{MayGoOn}
use Rattle.cat_workers.proofs.Rounding.{ends, goes_on}
use Rattle.cat_workers.proofs.work.work_loop.Goals as goal

pub returns-then-not-goes_on : goal.returns-then-not-goes_on
returns-then-not-goes_on g c =
    let said = g.G.Gate.said c.args.gate.now in
    let stops : c.goes_on.result ≡ false = search rules in
    let end = subst (MayGoOn said c.work-busy.result) stops c.goes_on.ensures in
    ends g.D.WorkDesk.acts (g.G.Gate.told c.args.gate.now) worker said 0 0 c.work-busy.result c.args.desk.now c.loop.desk c.work-busy.new.desk c.loop.invariant c.work-busy.ensures end.0 end.1

pub loop-preserved : goal.loop-preserved
loop-preserved g c =
    let said = g.G.Gate.said c.args.gate.now in
    let goes : c.goes_on.result ≡ true = search rules in
    goes_on g.D.WorkDesk.acts (g.G.Gate.told c.args.gate.now) worker said 0 0 c.work-busy.result c.args.desk.now c.loop.desk c.work-busy.new.desk c.loop.invariant c.work-busy.ensures
    (subst (MayGoOn said c.work-busy.result) goes c.goes_on.ensures)
