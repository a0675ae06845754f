-- A candidate that passes is steady with its links and documents, its counters have begun, and it is what it reopens as.
use Rattle.std.proofs.Common.{◌≡◌, true}
use Rattle.std.specs.Option.{option_map}
use Rattle.cat_collections.specs.Table.{Map, tabulate, text_cmp}
use Rattle.cat_links.specs.Links.{Emitted}
use Rattle.cat_model.specs.Catalogue.{Rules, Tree, known_refs, parts}
use Rattle.cat_model.specs.Sound.{AreBegun}
use Rattle.cat_model.specs.Step.{reopened}
use Rattle.cat_model.specs.declared.types.State.{State}
use Rattle.cat_plan.specs.Linked.{AreLinked}
use Rattle.cat_events.specs.Coming.{IsSteady}
use Rattle.cat_state_check.specs.declared.offers.RowIndex.{RowIndex}
use Rattle.cat_state_check.specs.Candidate.{is_candidate, names_of}
use Rattle.cat_state_check.specs.Indexed.{Names, row_index}
use Rattle.cat_state_check.proofs.Reopening.{IsPassed, begun, is_reopened, ordered, passed, small, sound}

module _ (rules : Rules) (m : State) (h : is_candidate m ≡ true) (documents : Map Tree) (made : documents ≡ tabulate text_cmp (known_refs m) (λ r. option_map rules.doc (parts rules m r))) where
  abbrev index : RowIndex
  index = row_index m.rows

  abbrev names : Names
  names = names_of m

  passes : IsPassed m index names
  passes = passed m h

  pub opens_steady : (links : Emitted) → AreLinked rules links m → IsSteady rules links (record m { documents = documents })
  opens_steady links linked = record {
    sound = sound m index names passes rules documents made;
    small = small m index names passes rules documents made;
    ordered = ordered m index names passes rules documents made;
    linked = record { in_order = linked.in_order; each = linked.each };
  }

  pub opens_begun : AreBegun (record m { documents = documents })
  opens_begun = begun m index names passes rules documents made

  pub opens_as : record m { documents = documents } ≡ reopened rules m
  opens_as = is_reopened m index names passes rules documents made
