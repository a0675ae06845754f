use Rattle.std.proofs.Common.{ℕ, Bool, sym, subst, ◌∙◌}
use Rattle.cat_model.specs.Catalogue.{claims, row_at}
use Rattle.cat_claims.specs.Waiting.{IsPopped}
use Rattle.cat_claims.proofs.Waits.{found_one, passed_over, popped_less}
use Rattle.cat_claims.proofs.waiting.next_claim.Goals as goal

pub returns-then-may_claim : goal.returns-then-may_claim
returns-then-may_claim c =
    let passes : ℕ → Bool = λ a. claims c.args.holders.now (row_at c.args.rows.now a) in
    found_one passes c.args.waiting.now c.loop-arrival.waiting c.pop.new.waiting c.in-Some.arrival c.loop-arrival.invariant
    (subst (λ v. IsPopped c.loop-arrival.waiting v c.pop.new.waiting) c.in-Some.is c.in_ok-arrival.ensures) (sym c.may_claim.ensures ∙ c.if-may_claim.true)

pub loop-arrival-smaller : goal.loop-arrival-smaller
loop-arrival-smaller c =
    popped_less c.loop-arrival.waiting c.in-Some.arrival c.pop.new.waiting (subst (λ v. IsPopped c.loop-arrival.waiting v c.pop.new.waiting) c.in-Some.is c.in_ok-arrival.ensures)

pub loop-arrival-preserved : goal.loop-arrival-preserved
loop-arrival-preserved c =
    let passes : ℕ → Bool = λ a. claims c.args.holders.now (row_at c.args.rows.now a) in
    passed_over passes c.args.waiting.now c.loop-arrival.waiting c.pop.new.waiting c.in-Some.arrival c.loop-arrival.invariant
    (subst (λ v. IsPopped c.loop-arrival.waiting v c.pop.new.waiting) c.in-Some.is c.in_ok-arrival.ensures) (sym c.may_claim.ensures ∙ c.if-may_claim.false)
