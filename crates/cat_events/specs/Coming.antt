-- What a call makes of a state and its links.
use Rattle.std.specs.Prelude.{◌≡◌, ⊤, IfOk}
use Rattle.std.specs.declared.option.Option.{Option}
use Rattle.std.specs.declared.option.Option.TheVariants.{None, Some}
use Rattle.std.specs.declared.result.Result.{Result}
use Rattle.std.specs.declared.result.Result.TheVariants.{Ok, Err}
use Rattle.cat_links.specs.Links.{Emitted}
use Rattle.cat_plan.specs.Linked.{AreLinked}
use Rattle.cat_model.specs.declared.types.Fault.{Fault}
use Rattle.cat_model.specs.declared.types.State.{State}
use Rattle.cat_model.specs.Catalogue.{Rules}
use Rattle.cat_model.specs.Sound.{AreOrdered, AreSmall, Sound}
use Rattle.cat_events.specs.declared.stepped.Step.{Step}
use Rattle.cat_events.specs.declared.stepped.Step.TheVariants.{Refused as StepRefused, Acts as StepActs}
use Rattle.cat_events.specs.Planned.{planned}
use Rattle.cat_events.specs.declared.stepped.Stepped.{Stepped}
use Rattle.cat_events.specs.declared.stepped.Stepped.TheVariants.{Refused, Acts}

-- what holds between two events of a state and the links beside it
pub record IsSteady (rules : Rules) (links : Emitted) (m : State) : Type 0 where
  pub sound : Sound rules m
  pub small : AreSmall m
  pub ordered : AreOrdered m
  pub linked : AreLinked rules links m

-- the state after an event; a refusal changes nothing
abbrev pub came_state : Stepped → State → State
came_state (Acts n) m = n
came_state (Refused fault) m = m

-- the refusal of an event
abbrev pub came_fault : Stepped → Option Fault
came_fault (Acts n) = None
came_fault (Refused fault) = Some fault

-- the state after a call; where memory is wanted it is the one before
abbrev pub state_after : {A E : Type 0} → Result A E → Stepped → State → State
state_after (Ok x) c m = came_state c m
state_after (Err e) c m = m

-- a call has made n of m as the event comes to c, and answers its refusal; where memory is wanted it has changed nothing
pub record HasCome {E : Type 0} (rules : Rules) (c : Stepped) (answer : Result (Option Fault) E) (m n : State) (links : Emitted) : Type 0 where
  pub state : n ≡ state_after answer c m
  pub fault : IfOk answer (λ f. f ≡ came_fault c)
  pub steady : IsSteady rules links n

-- a step, as what it makes of the state before it
abbrev pub seen : Step → State → Stepped
seen (StepRefused fault) m = Refused fault
seen (StepActs plan) m = Acts (planned plan.value m)

-- the links after a step
abbrev pub links_in : Step → Emitted → Emitted
links_in (StepRefused fault) links = links
links_in (StepActs plan) links = plan.value.following.links.after

-- the links after a call that takes a step in; where memory is wanted they are those before it
abbrev pub links_after : {A E : Type 0} → Result A E → Step → Emitted → Emitted
links_after (Ok x) o links = links_in o links
links_after (Err e) o links = links

-- the links after a step are those of its state
abbrev pub IsLinkedStep : Rules → Step → State → Type 0
IsLinkedStep rules (StepRefused fault) m = ⊤
IsLinkedStep rules (StepActs plan) m = AreLinked rules plan.value.following.links.after (planned plan.value m)
