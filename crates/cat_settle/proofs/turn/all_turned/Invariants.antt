use Rattle.std.proofs.Common.{◌≤◌, drop}
use Rattle.cat_model.specs.Settle.{try_turns}
use Rattle.cat_events.specs.Coming.{IsSteady}
use Rattle.cat_affected.specs.Gathered.{Gathers}
use Rattle.cat_settle.specs.Part.{Goes}
use Rattle.cat_settle.proofs.Parts.{Leads}
use Rattle.cat_settle.proofs.turn.all_turned.Given as goal

abbrev pub invariant-loop-reference : goal.invariant-loop-reference
invariant-loop-reference g l = record {
  leads : Leads g.L.Layers.rules (λ limit. try_turns g.L.Layers.rules l.settings l.now limit l.refs l.initial.p) l.p (λ limit q. try_turns g.L.Layers.rules l.settings l.now limit (drop l.reference-index l.refs) q);
  goes : Goes g.L.Layers.rules l.initial.p l.p;
  within : l.initial.p.events ≤ l.most → l.p.events ≤ l.most;
  gathers : Gathers l.initial.reached l.initial.p.state l.reached l.p.state;
  steady : IsSteady g.L.Layers.rules l.links l.p.state;
}
