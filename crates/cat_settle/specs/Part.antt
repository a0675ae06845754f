-- Parts of a settle. A part is what a settle makes of its progress, for a limit on the events.
use Rattle.std.specs.Prelude.{◌≡◌, ℕ, ◌-◌, ◌<◌, ◌≤◌, ◌^◌, false, true, is_some}
use Rattle.std.specs.declared.option.Option.{Option}
use Rattle.std.specs.declared.option.Option.TheVariants.{None, Some}
use Rattle.std.specs.declared.result.Result.{Result}
use Rattle.std.specs.declared.result.Result.TheVariants.{Ok, Err}
use Rattle.cat_model.specs.declared.types.Fault.{Fault}
use Rattle.cat_model.specs.declared.types.Progress.{Progress}
use Rattle.cat_model.specs.declared.types.Settings.{Settings}
use Rattle.cat_model.specs.declared.types.Stop.TheVariants.{Refused as StopRefused}
use Rattle.cat_model.specs.Catalogue.{Rules}
use Rattle.cat_model.specs.Settle.{is_ended, stood, try_rounds}
use Rattle.cat_model.specs.Sound.{Sound}
use Rattle.cat_model.specs.Step.{Event}
use Rattle.cat_events.specs.declared.stepped.Stepped.{Stepped}
use Rattle.cat_events.specs.declared.stepped.Stepped.TheVariants.{Refused, Acts}

-- one event more stands, or the settle is stopped
abbrev pub moved : Event → Stepped → Progress → Progress
moved e (Acts n) p = stood e n p
moved e (Refused fault) p = record p { stop = Some (StopRefused fault) }

-- an event has made its state, and its refusal stops the settle, or else it is counted
abbrev pub noted : Event → Option Fault → Progress → Progress
noted e None p = stood e p.state p
noted e (Some fault) p = record p { stop = Some (StopRefused fault) }

-- what a call makes of a progress; where memory is wanted it changes nothing
abbrev pub moved_in : {A E : Type 0} → Result A E → Event → Stepped → Progress → Progress
moved_in (Ok x) e c p = moved e c p
moved_in (Err x) e c p = p

-- a part of a settle: how far it comes, with a limit on its events or without one
abbrev pub Part : Type 0
Part = Option ℕ → Progress

-- exactly the first events of the part stand: those that it has where the limit is as many
pub record IsCut (f : Part) (new : Progress) : Type 0 where
  pub state : new.events < 2 ^ 64 - 1 → (f (Some new.events)).state ≡ new.state
  pub events : new.events < 2 ^ 64 - 1 → (f (Some new.events)).events ≡ new.events

-- the whole part was done; a limit that its events don't pass changes nothing, unless the part stopped
pub record IsDone (f : Part) (new : Progress) : Type 0 where
  pub whole : f None ≡ new
  pub within : new.events < 2 ^ 64 - 1 → new.stop ≡ None → (n : ℕ) → new.events ≤ n → f (Some n) ≡ new
  pub first : IsCut f new

-- a part was done, or it was cut by want of memory
abbrev pub Came : {A E : Type 0} → Result A E → Part → Progress → Type 0
Came (Ok x) f new = IsDone f new
Came (Err e) f new = IsCut f new

-- nothing happened but that rounds were counted
pub record Rests (old new : Progress) : Type 0 where
  pub state : new.state ≡ old.state
  pub events : new.events ≡ old.events
  pub stop : new.stop ≡ old.stop

-- no event is undone, what holds between two events stays, and nothing happens after a stop
pub record Goes (rules : Rules) (old new : Progress) : Type 0 where
  pub events : new.events < 2 ^ 64 - 1 → old.events ≤ new.events
  pub sound : Sound rules old.state → Sound rules new.state
  pub stopped : is_some old.stop ≡ true → Rests old new

-- some rounds were done, none of them begun at an end
pub record HaveRounds (rules : Rules) (s : Settings) (now : ℕ) (old new : Progress) : Type 0 where
  pub rounds : ℕ
  pub done : IsDone (λ limit. try_rounds rules s now limit rounds old) new
  pub first : (n : ℕ) → n < rounds → is_ended now (try_rounds rules s now None n old) ≡ false

-- all rounds were done
pub record EndRounds (rules : Rules) (s : Settings) (now : ℕ) (old new : Progress) : Type 0 where
  pub have : HaveRounds rules s now old new
  pub ended : is_ended now new ≡ true

-- some rounds were done or begun, and the last of them was cut
pub record CutRounds (rules : Rules) (s : Settings) (now : ℕ) (old new : Progress) : Type 0 where
  pub rounds : ℕ
  pub cut : IsCut (λ limit. try_rounds rules s now limit rounds old) new
  pub first : (n : ℕ) → n < rounds → is_ended now (try_rounds rules s now None n old) ≡ false

-- all rounds were done, or they were cut by want of memory
abbrev pub CameRounds : {A E : Type 0} → Rules → Settings → ℕ → Progress → Result A E → Progress → Type 0
CameRounds rules s now old (Ok x) new = EndRounds rules s now old new
CameRounds rules s now old (Err e) new = CutRounds rules s now old new
