use Rattle.std.proofs.Common.{◌≤◌, [], drop}
use Rattle.std.specs.declared.option.Option.TheVariants.{Some}
use Rattle.cat_model.specs.Settle.{try_stitches}
use Rattle.cat_events.specs.Coming.{IsSteady}
use Rattle.cat_affected.specs.Gathered.{IsWithin}
use Rattle.cat_settle.specs.Part.{Goes}
use Rattle.cat_settle.proofs.Parts.{Leads}
use Rattle.cat_settle.proofs.stitches.all_stitched.Given as goal

abbrev pub invariant-loop-reference : goal.invariant-loop-reference
invariant-loop-reference g l = record {
  leads : Leads g.L.Layers.rules (λ limit. try_stitches g.L.Layers.rules l.settings limit l.refs l.initial.p) l.p (λ limit q. try_stitches g.L.Layers.rules l.settings limit (drop l.reference-index l.refs) q);
  goes : Goes g.L.Layers.rules l.initial.p l.p;
  within : l.initial.p.events ≤ l.most → l.p.events ≤ l.most;
  still : IsWithin (Some []) l.initial.p.state l.p.state;
  steady : IsSteady g.L.Layers.rules l.links l.p.state;
}
