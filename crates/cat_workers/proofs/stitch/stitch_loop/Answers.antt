use Rattle.std.proofs.Common.{◌≡◌, true, false, rules, subst}
use Rattle.cat_workers.specs.Kinds.{stitcher}
use Rattle.cat_workers.specs.Rounds.{MayGoOn}
use Rattle.cat_workers.proofs.Rounding.{ends, goes_on}
use Rattle.cat_workers.proofs.stitch.stitch_loop.Goals as goal

pub returns-then-not-goes_on : goal.returns-then-not-goes_on
returns-then-not-goes_on g c =
    let said = g.G.Gate.said c.args.gate.now in
    let stops : c.goes_on.result ≡ false = search rules in
    let end = subst (MayGoOn said c.stitch-busy.result) stops c.goes_on.ensures in
    ends g.D.WorkDesk.acts (g.G.Gate.told c.args.gate.now) stitcher said c.loop.after c.stitch-busy.new.after c.stitch-busy.result c.args.desk.now c.loop.desk c.stitch-busy.new.desk c.loop.invariant c.stitch-busy.ensures end.0 end.1

pub loop-preserved : goal.loop-preserved
loop-preserved g c =
    let said = g.G.Gate.said c.args.gate.now in
    let goes : c.goes_on.result ≡ true = search rules in
    goes_on g.D.WorkDesk.acts (g.G.Gate.told c.args.gate.now) stitcher said c.loop.after c.stitch-busy.new.after c.stitch-busy.result c.args.desk.now c.loop.desk c.stitch-busy.new.desk c.loop.invariant c.stitch-busy.ensures
    (subst (MayGoOn said c.stitch-busy.result) goes c.goes_on.ensures)
