use Rattle.std.proofs.Common.{◌≡◌, subst}
use Rattle.std.specs.Prelude.{IfSome}
use Rattle.cat_model.specs.Step.{reopened}
use Rattle.cat_stored_rows.specs.Opened.{is_first, rows_in}
use Rattle.cat_stored_rows.specs.Stored.{texts_of}
use Rattle.cat_store.specs.Boxed.{unboxed}
use Rattle.cat_store.proofs.Accepting.{refused_other, refused_untold}
use Rattle.cat_store.proofs.Ruling.{has_rule, second_rule}
use Rattle.cat_store.proofs.open.found_as.Goals as goal

pub returns-in_default-clause-opens : goal.returns-in_default-clause-opens
returns-in_default-clause-opens g c = λ _ limit. refused_untold g.L.Layers.rules limit c.args.rows.now (unboxed c.args.candidate) c.requires c.in_ok-opening.field-0 c.in_ok-opening.ensures.opens c.in_default.is

pub returns-then-branch-clause-rule : goal.returns-then-branch-clause-rule
returns-then-branch-clause-rule g c =
    has_rule c.args.rows.now c.args.candidate.rule c.stored_rule-orphans.result c.is_first.result c.is_first.ensures c.stored_rule-orphans.ensures c.in-Some.opening.state.value
    (subst (λ m. texts_of (rows_in (is_first c.args.rows.now) c.stored_rule-orphans.result m) ≡ c.args.rows.now) c.deref.ensures (c.in_ok-are_rows_of.ensures.rows c.if-branch.true))

pub returns-else-branch-clause-opens : goal.returns-else-branch-clause-opens
returns-else-branch-clause-opens g c =
    let rules = g.L.Layers.rules in
    let found = unboxed c.args.candidate in
    let opens : c.in-Some.opening.state.value ≡ reopened rules found.state = subst (λ v. IfSome v (λ x. x.state.value ≡ reopened rules found.state)) c.in-Some.is c.in_ok-opening.ensures.state in
    λ _ limit. refused_other rules limit c.args.rows.now found c.requires c.in-Some.opening.state.value opens c.stored_rule-orphans.result
    (second_rule c.args.rows.now found.rule c.stored_rule-orphans.result c.is_first.result c.is_first.ensures c.stored_rule-orphans.ensures) (subst (λ m. texts_of (rows_in (is_first c.args.rows.now) c.stored_rule-orphans.result m) ≡ c.args.rows.now → ⊥) c.deref.ensures (c.in_ok-are_rows_of.ensures.differ c.if-branch.false))
