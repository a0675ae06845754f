-- What holds of a catalogue between two calls.
use Rattle.std.specs.Prelude.{◌<◌, ◌≤◌, ◌^◌}
use Rattle.cat_model.specs.declared.types.Settings.{Settings}
use Rattle.cat_model.specs.declared.types.State.{State}
use Rattle.cat_model.specs.Catalogue.{Rules}
use Rattle.cat_model.specs.Sound.{AreBegun}
use Rattle.cat_links.specs.Links.{Emitted}
use Rattle.cat_events.specs.Coming.{IsSteady}
use Rattle.cat_core.specs.declared.ledger.Ledger.{Ledger}

-- the interval and the lease are 1 to 2^40, and the limit on the stored input bytes is below 2^62
pub record AreSettings (s : Settings) : Type 0 where
  pub interval_from : 1 ≤ s.interval
  pub interval_to : s.interval ≤ 2 ^ 40
  pub lease_from : 1 ≤ s.lease
  pub lease_to : s.lease ≤ 2 ^ 40
  pub input_limit : s.input_limit < 2 ^ 62

-- what holds between two events holds of a state and the links beside it, and the counters are at least 1
pub record IsSaved (rules : Rules) (links : Emitted) (m : State) : Type 0 where
  pub steady : IsSteady rules links m
  pub begun : AreBegun m

-- the settings are in their bounds, what holds between two events holds of the state and the links beside it, and the counters are at least 1
pub record IsKept (rules : Rules) (links : Emitted) (ledger : Ledger) : Type 0 where
  pub settings : AreSettings ledger.settings
  pub steady : IsSteady rules links ledger.state
  pub begun : AreBegun ledger.state
