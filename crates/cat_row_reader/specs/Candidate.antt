-- What a store's candidate is.
use Rattle.std.specs.Prelude.{◌≡◌, List}
use Rattle.cat_keeper.specs.Store.{Rows}
use Rattle.cat_row_format.specs.declared.row.StoredRow.{StoredRow}
use Rattle.cat_row_reader.specs.Read.{AreRead}
use Rattle.cat_row_reader.specs.Standing.{rule_of, state_of}
use Rattle.cat_row_reader.specs.declared.types.Candidate.{Candidate}

-- the texts of a store spell rows that stand for this state and this rule for orphans
pub record IsCandidate (texts : Rows) (c : Candidate) : Type 0 where
  pub rows : List StoredRow
  pub read : AreRead texts rows
  pub state : c.state ≡ state_of rows
  pub rule : c.rule ≡ rule_of rows
