-- What a catalogue is where it opens.
use Rattle.std.specs.Prelude.{◌≡◌, ℕ, ◌≤◌, ◌^◌, []}
use Rattle.cat_model.specs.Step.{start}
use Rattle.cat_model.specs.declared.types.State.{State}
use Rattle.cat_model.specs.declared.types.OrphanRule.TheVariants.{Keep}
use Rattle.cat_row_reader.specs.declared.types.Candidate.{Candidate}

-- tokens and tickets start at 1, nothing is marked, no document is there, and the counters of arrivals and numbers are in
-- their bounds
pub record IsAtStart (m : State) : Type 0 where
  pub token : m.token ≡ 1
  pub ticket : m.ticket ≡ 1
  pub marks : m.marks ≡ []
  pub documents : m.documents ≡ []
  pub arrival_begun : 1 ≤ m.arrival
  pub number_begun : 1 ≤ m.number
  pub arrival_small : m.arrival ≤ 2 ^ 59
  pub number_small : m.number ≤ 2 ^ 59

-- an empty catalogue
abbrev pub empty_candidate : Candidate
empty_candidate = record { rule = Keep; state = start }
