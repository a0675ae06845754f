-- Which row is named where the rows of a store are compared with those of their state.
use Rattle.std.proofs.Common.{◌≡◌, inr, subst, ◌∙◌}
use Rattle.std.specs.Prelude.{IfOk, MatchOption}
use Rattle.std.specs.declared.option.Option.{Option}
use Rattle.std.specs.declared.option.Option.TheVariants.{None, Some}
use Rattle.std.specs.declared.result.Result.{Result}
use Rattle.std.specs.declared.result.Result.TheVariants.{Ok, Err}
use Rattle.cat_row_faults.specs.Difference.{PartAt}
use Rattle.cat_keeper.specs.Store.{RowKey, Rows}
use Rattle.cat_row_reader.specs.Candidate.{IsCandidate}
use Rattle.cat_row_reader.specs.declared.types.Candidate.{Candidate}
use Rattle.cat_store.specs.Refused.{AreTheirs, IsDifference}
use Rattle.cat_stored_rows.specs.Opened.{is_first, rows_in}
use Rattle.cat_stored_rows.specs.Stored.{texts_of}

-- the texts of the state are those that rows were compared with
pub compared : (rows others : Rows) (found : Candidate) → IsCandidate rows found → others ≡ texts_of (rows_in (is_first rows) found.rule found.state)
    → (key : Option RowKey) → MatchOption key (rows ≡ others) (PartAt rows others) → MatchOption key (AreTheirs rows) (IsDifference rows)
compared rows others found is same None h = inr (found, is, h ∙ same)
compared rows others found is same (Some key) h = (found, is, subst (λ o. PartAt rows o key) same h)

-- the same of what came of the comparison
pub named_after : {E : Type 0} (rows others : Rows) (found : Candidate) → IsCandidate rows found → others ≡ texts_of (rows_in (is_first rows) found.rule found.state)
    → (came : Result (Option RowKey) E) → IfOk came (λ key. MatchOption key (rows ≡ others) (PartAt rows others)) → IfOk came (λ key. MatchOption key (AreTheirs rows) (IsDifference rows))
named_after rows others found is same (Ok key) h = compared rows others found is same key h
named_after rows others found is same (Err e) h = h
