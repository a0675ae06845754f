use Rattle.std.proofs.Common.{subst}
use Rattle.std.specs.Prelude.{IfSome}
use Rattle.cat_row_reader.specs.Candidate.{IsCandidate}
use Rattle.cat_store.specs.Boxed.{unboxed}
use Rattle.cat_store.specs.Opened.{IsRight}
use Rattle.cat_store.proofs.Accepting.{at_limit}
use Rattle.cat_store.proofs.Admitting.{admitted}
use Rattle.cat_store.proofs.open.found_in.Goals as goal

pub returns-clause-opens : goal.returns-clause-opens
returns-clause-opens g c = at_limit g.L.Layers.rules c.args.input_limit c.args.rows.now c.found_as.result c.found_as.ensures.opens

pub returns-clause-admissible : goal.returns-clause-admissible
returns-clause-admissible g c =
    let rules = g.L.Layers.rules in
    let limit = c.args.input_limit in
    let rows = c.args.rows.now in
    let is : IsCandidate rows (unboxed c.in-Some.candidate) = subst (λ v. IfSome v (λ x. IsCandidate rows (unboxed x))) c.in-Some.is c.in_ok-candidate.ensures.candidate in
    let right : IsRight rules limit c.in-Some.candidate.state.value = subst (λ v. IfSome v (λ x. IsRight rules limit x.state.value)) c.in-Some.is c.in_ok-candidate.ensures.right in
    admitted rules limit rows (unboxed c.in-Some.candidate) is right c.found_as.result c.found_as.ensures.opening c.found_as.ensures.proper c.found_as.ensures.state
