use Rattle.std.proofs.Common.{◌≡◌, inl, subst}
use Rattle.std.specs.Prelude.{MatchOption}
use Rattle.cat_row_reader.specs.Candidate.{IsCandidate}
use Rattle.cat_row_reader.specs.Read.{AreNoTexts}
use Rattle.cat_stored_rows.specs.Opened.{is_first, rows_in}
use Rattle.cat_stored_rows.specs.Stored.{texts_of}
use Rattle.cat_store.specs.Boxed.{unboxed}
use Rattle.cat_store.proofs.Naming.{named_after}
use Rattle.cat_store.proofs.open.difference.Goals as goal

pub returns-in_default : goal.returns-in_default
returns-in_default c =
    let rows = c.args.rows.now in
    inl (subst (λ v. MatchOption v (AreNoTexts rows) (λ x. IsCandidate rows (unboxed x))) c.in_default.is c.in_ok-found.ensures)

pub returns : goal.returns
returns c =
    let rows = c.args.rows.now in
    let found = unboxed c.in-Some.found in
    let is : IsCandidate rows found = subst (λ v. MatchOption v (AreNoTexts rows) (λ x. IsCandidate rows (unboxed x))) c.in-Some.is c.in_ok-found.ensures in
    named_after rows c.in_ok-told.told found is (subst (λ m. c.in_ok-told.told ≡ texts_of (rows_in (is_first rows) found.rule m)) c.deref.ensures c.in_ok-told.ensures) c.first_difference.result c.first_difference.ensures
