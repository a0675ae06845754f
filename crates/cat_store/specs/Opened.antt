-- What the rows of a store say of the state that it opens as, and what holds of that state.
use Rattle.std.specs.Prelude.{◌≡◌, ℕ, ◌≤◌, true}
use Rattle.cat_events.specs.Coming.{IsSteady}
use Rattle.cat_links.specs.Links.{Emitted}
use Rattle.cat_model.specs.Catalogue.{Rules}
use Rattle.cat_model.specs.Sound.{AreBegun}
use Rattle.cat_model.specs.Step.{reopened}
use Rattle.cat_model.specs.declared.types.State.{State}
use Rattle.cat_row_reader.specs.Forms.{has_forms}
use Rattle.cat_stored_rows.specs.Told.{AreFirstNarrow, IsTold}
pub use Rattle.cat_stored_rows.specs.Opened.{HasRule, IsRead, is_first, is_of_first, is_row_of_first, rows_in}

-- A catalogue may begin with a state and the relations of its kept outputs: all holds that must hold between two events, its counters have begun,
-- its rows tell it in either version, and it opens again as itself.
pub record IsOpening (rules : Rules) (links : Emitted) (m : State) : Type 0 where
  pub steady : IsSteady rules links m
  pub begun : AreBegun m
  pub tells : IsTold m
  pub tells_first : AreFirstNarrow m
  pub again : reopened rules m ≡ m

-- all that a state keeps has its form, and its inputs are within the limit
abbrev pub IsRight : Rules → ℕ → State → Type 0
IsRight rules limit m = (has_forms m ≡ true) × (rules.bytes m.providers m.shelf ≤ limit)
