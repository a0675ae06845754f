use Rattle.std.proofs.Common.{◌≡◌, subst}
use Rattle.std.specs.Prelude.{MatchOption}
use Rattle.cat_row_reader.specs.Candidate.{IsCandidate}
use Rattle.cat_row_reader.specs.Read.{AreNoTexts}
use Rattle.cat_store.proofs.open.boxed_candidate.Goals as goal

pub returns-in-None : goal.returns-in-None
returns-in-None c =
    let rows = c.args.rows.now in
    subst (λ v. MatchOption v (AreNoTexts rows) (IsCandidate rows)) c.in-None.is c.in_ok-candidate.ensures.read
