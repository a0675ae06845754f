-- What an event comes to.
use Rattle.std.specs.declared.option.Option.{Option}
use Rattle.std.specs.declared.option.Option.TheVariants.{None, Some}
use Rattle.cat_model.specs.declared.types.Fault.{Fault}
use Rattle.cat_model.specs.declared.types.Settings.{Settings}
use Rattle.cat_model.specs.declared.types.State.{State}
use Rattle.std.specs.Prelude.{ℕ, ◌<◌, ◌≤◌, ◌^◌, Bool, ◌||◌, is_some, nat_lt}
use Rattle.cat_model.specs.declared.types.Fault.TheVariants.{TooLarge}
use Rattle.cat_collections.specs.Table.{Text, get, put, text_cmp}
use Rattle.cat_model.specs.Catalogue.{Rules}
use Rattle.cat_model.specs.Step.{Event, change, fault_where, refusal, without_key}
use Rattle.cat_events.specs.declared.stepped.Stepped.{Stepped}
use Rattle.cat_events.specs.declared.stepped.Stepped.TheVariants.{Refused, Acts}

-- the refusal, or the state after
abbrev pub stepped : Option Fault → State → Stepped
stepped None n = Acts n
stepped (Some fault) n = Refused fault

-- what an event comes to: its refusal, or the state that it gives
abbrev pub come_to : Rules → Settings → Event → State → Stepped
come_to rules s e m = stepped (refusal rules s e m) (change rules s e m)

-- the refusal of a state whose stored input bytes pass the limit
abbrev pub over_limit : Rules → Settings → State → Option Fault
over_limit rules s n = let sum = rules.bytes n.providers n.shelf in fault_where (nat_lt s.input_limit sum) (TooLarge sum)

-- a text is put on the shelf
abbrev pub shelved : Text → Text → State → State
shelved name text m = record m { shelf = put text_cmp name text m.shelf }

-- the shelf without a name
abbrev pub dropped : Text → State → State
dropped name m = record m { shelf = without_key name m.shelf }

-- a reference has a record or is an orphan
abbrev pub is_known : State → Text → Bool
is_known m r = is_some (get m.records r) || is_some (get m.orphans r)

-- a moment, and settings that reach from it, stay below 64 bits
pub record AreMoments (s : Settings) (now : ℕ) : Type 0 where
  pub now_below : now < 2 ^ 53
  pub interval_below : s.interval ≤ 2 ^ 40
  pub lease_below : s.lease ≤ 2 ^ 40
