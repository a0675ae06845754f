-- What is answered to a question.
use Rattle.std.specs.Prelude.{◌≡◌, ℕ, List, []}
use Rattle.std.specs.declared.result.Result.{Result}
use Rattle.std.specs.declared.result.Result.TheVariants.{Ok, Err}
use Rattle.cat_core.specs.declared.ledger.Ledger.{Ledger}
use Rattle.cat_desk.specs.declared.command.Asked.{Asked}
use Rattle.cat_desk.specs.declared.command.Asked.TheVariants.{Written, NotFound, NoFacet, NoMemory}
use Rattle.cat_io.specs.Clock.{CountsReading}
use Rattle.cat_query.specs.declared.ask.Ask.{Ask}
use Rattle.cat_replies.specs.Asks.{AskFault, ask_text}
use Rattle.cat_replies.specs.Asks.AskFault.{not_found, no_facet}

-- What was answered and appended to a question whose answer is given: its text, or nothing where it has none or memory lacked.
abbrev pub IsAnswer : Result (List ℕ) AskFault → Asked → List ℕ → Type 0
IsAnswer answer Written text = answer ≡ Ok text
IsAnswer answer NotFound text = (answer ≡ Err not_found) × (text ≡ [])
IsAnswer answer NoFacet text = (answer ≡ Err no_facet) × (text ≡ [])
IsAnswer answer NoMemory text = text ≡ []

-- an append either is done or lacks memory
abbrev pub written_as : {A E : Type 0} → Result A E → Asked
written_as (Ok x) = Written
written_as (Err e) = NoMemory

-- A question was answered at the moment that a clock gave last, which was read once for it, and the catalogue is as before.
pub record AsksOnce (now readings readings' : ℕ) (ask : Ask) (old new : Ledger) (asked : Asked) (text : List ℕ) : Type 0 where
  pub same : new ≡ old
  pub answer : IsAnswer (ask_text ask now old.state) asked text
  pub reads : CountsReading readings readings'
