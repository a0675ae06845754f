use Rattle.std.proofs.Common.{◌≤◌}
use Rattle.cat_events.specs.Coming.{IsSteady}
use Rattle.cat_affected.specs.Gathered.{Gathers}
use Rattle.cat_settle.specs.Part.{Goes, HaveRounds}
use Rattle.cat_settle.proofs.Moves.{left}
use Rattle.cat_settle.proofs.rounds.all_rounds.Given as goal

abbrev pub invariant-rounds : goal.invariant-rounds
invariant-rounds g l = record {
  have : HaveRounds g.L.Layers.rules l.settings l.now l.initial.p l.p;
  goes : Goes g.L.Layers.rules l.initial.p l.p;
  within : l.initial.p.events ≤ l.most → l.p.events ≤ l.most;
  gathers : Gathers l.initial.reached l.initial.p.state l.reached l.p.state;
  steady : IsSteady g.L.Layers.rules l.links l.p.state;
}

abbrev pub decreases-rounds : goal.decreases-rounds
decreases-rounds g l = left g.L.Layers.rules l.settings l.now l.p
