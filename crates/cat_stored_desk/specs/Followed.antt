-- What follows a catalogue's state.
use Rattle.std.specs.Prelude.{◌≡◌, Option}
use Rattle.cat_keeper.specs.Answers.{Are}
use Rattle.cat_keeper.specs.Store.{Rows}
use Rattle.cat_model.specs.declared.types.OrphanRule.{OrphanRule}
use Rattle.cat_model.specs.declared.types.State.{State}
use Rattle.cat_stored_rows.specs.Stored.{Stored, stored, texts_of}

-- A store follows a state under a rule for orphans, and what the keeper tells are the rows of that state.
pub record IsFollowed (told : Option Rows) (orphans : OrphanRule) (rows : Stored) (rule : OrphanRule) (m : State) : Type 0 where
  pub rule_is : orphans ≡ rule
  pub rows_are : rows ≡ stored rule m
  pub told_are : Are told (texts_of rows)
