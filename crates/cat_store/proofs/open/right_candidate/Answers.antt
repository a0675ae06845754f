use Rattle.std.proofs.Common.{◌≡◌, ◌&&◌, nat_le, subst}
use Rattle.std.specs.Prelude.{MatchOption}
use Rattle.cat_row_reader.specs.Candidate.{IsCandidate}
use Rattle.cat_row_reader.specs.Forms.{has_forms}
use Rattle.cat_row_reader.specs.Read.{AreNoTexts}
use Rattle.cat_store.specs.Boxed.{unboxed}
use Rattle.cat_store.proofs.Accepting.{refused_unread, refused_wrong}
use Rattle.cat_store.proofs.Righting.{is_right_candidate}
use Rattle.cat_store.proofs.open.right_candidate.Goals as goal

pub returns-in_default-clause-opens : goal.returns-in_default-clause-opens
returns-in_default-clause-opens g c =
    let rows = c.args.rows.now in
    let none : AreNoTexts rows = subst (λ v. MatchOption v (AreNoTexts rows) (λ x. IsCandidate rows (unboxed x))) c.in_default.is c.in_ok-candidate.ensures in
    λ _. refused_unread g.L.Layers.rules c.args.input_limit rows none

pub returns-then-branch-clause-candidate : goal.returns-then-branch-clause-candidate
returns-then-branch-clause-candidate g c =
    let rows = c.args.rows.now in
    subst (λ v. MatchOption v (AreNoTexts rows) (λ x. IsCandidate rows (unboxed x))) c.in-Some.is c.in_ok-candidate.ensures

pub returns-else-branch-clause-opens : goal.returns-else-branch-clause-opens
returns-else-branch-clause-opens g c =
    let rows = c.args.rows.now in
    let is : IsCandidate rows (unboxed c.in-Some.candidate) = subst (λ v. MatchOption v (AreNoTexts rows) (λ x. IsCandidate rows (unboxed x))) c.in-Some.is c.in_ok-candidate.ensures in
    let tests = subst (λ m. c.in_ok-is_right.field-0 ≡ (has_forms m && nat_le (g.L.Layers.rules.bytes m.providers m.shelf) c.args.input_limit)) c.deref.ensures c.in_ok-is_right.ensures in
    λ _. refused_wrong g.L.Layers.rules c.args.input_limit rows (unboxed c.in-Some.candidate) is c.in_ok-is_right.field-0 tests c.if-branch.false

pub returns-then-branch-clause-right : goal.returns-then-branch-clause-right
returns-then-branch-clause-right g c =
    let tests = subst (λ m. c.in_ok-is_right.field-0 ≡ (has_forms m && nat_le (g.L.Layers.rules.bytes m.providers m.shelf) c.args.input_limit)) c.deref.ensures c.in_ok-is_right.ensures in
    is_right_candidate g.L.Layers.rules c.args.input_limit c.in-Some.candidate.state.value c.in_ok-is_right.field-0 tests c.if-branch.true
