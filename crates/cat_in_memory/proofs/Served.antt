-- A connection over a service that is a catalogue with a clock and a feed.
use Rattle.std.proofs.Common.{◌≡◌, ℕ, List, subst}
use Rattle.std.specs.declared.option.Option.{Option}
use Rattle.cat_api.proofs.Serving.{acts_at, asks_at, is_worded, tells_at, wired, IsAtZero}
use Rattle.cat_api.specs.Answering.{AnswersBytes, Lacks}
use Rattle.cat_api.specs.Wire.{Wired, wire_after, wire_reply}
use Rattle.cat_core.specs.declared.ledger.Ledger.{Ledger}
use Rattle.cat_feed.specs.declared.ledger.Ledger.{Ledger as Feed}
use Rattle.cat_model.specs.Catalogue.{Rules}
use Rattle.cat_requests.specs.Requests.{request_of}
use Rattle.cat_connection.specs.Runs.{Answering, Lacking, AnswersItems}
use Rattle.cat_connection.specs.Worded.{HasWords, IsWorded}
use Rattle.cat_connection.proofs.Wording.{outcome_worded, transcript_worded}
use Rattle.cat_connection.specs.Status.{HasServed}
use Rattle.cat_connection.specs.declared.command.Status.{Status}

module _ {S A T : Type 0} (old new : S) (desk : S → A) (timed : A → T) (catalogue : T → Ledger) (moment readings : T → ℕ) (feed : A → Feed) (rules : Rules) where
  abbrev answers : Answering S
  answers a m b text =
      AnswersBytes (acts_at rules timed catalogue moment readings feed) (asks_at rules timed catalogue moment readings feed) (tells_at rules timed catalogue moment readings feed) (desk a) m (desk b) text

  abbrev lacks : Lacking S
  lacks a m b =
      Lacks (acts_at rules timed catalogue moment readings feed) (asks_at rules timed catalogue moment readings feed) (tells_at rules timed catalogue moment readings feed) (desk a) (desk b) (request_of m)

  abbrev seen : S → Wired
  seen s = wired rules timed catalogue moment readings feed (desk s)

  abbrev Holds : S → Type 0
  Holds s = IsAtZero rules timed catalogue moment readings feed (desk s)

  worded : IsWorded answers lacks Holds seen (wire_after rules) (wire_reply rules)
  worded = is_worded rules timed catalogue moment readings feed desk

  -- from the moment 0 it is answered by words, up to what it comes to
  pub served_to : (status : Status) (left left' written written' : Option (List ℕ)) (first : Wired) → Holds old → seen old ≡ first → HasServed (AnswersItems answers lacks) status left left' written written' old new
      → HasServed (HasWords (wire_after rules) (wire_reply rules)) status left left' written written' first (seen new)
  served_to status left left' written written' first holds same h =
      subst (λ b. HasServed (HasWords (wire_after rules) (wire_reply rules)) status left left' written written' b (seen new)) same (
        h.0,
        h.1,
        outcome_worded answers lacks Holds seen (wire_after rules) (wire_reply rules) worded h.0 left left' written written' old new holds h.2,
        transcript_worded answers lacks Holds seen (wire_after rules) (wire_reply rules) worded h.0 left written written' old new holds h.3,
      )

  -- from the moment 0 it is answered by words
  pub served : (status : Status) (left left' written written' : Option (List ℕ)) (first : Wired) → Holds old → seen old ≡ first → HasServed (AnswersItems answers lacks) status left left' written written' old new
      → (end : Wired) × HasServed (HasWords (wire_after rules) (wire_reply rules)) status left left' written written' first end
  served status left left' written written' first holds same h = (seen new, served_to status left left' written written' first holds same h)
