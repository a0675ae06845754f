use Rattle.std.proofs.Common.{sym, subst, [], ◌∷◌}
use Rattle.cat_collections.specs.Table.{keys}
use Rattle.cat_claims.specs.Touched.{AreKeptBut}
use Rattle.cat_claims.specs.Waiting.{AllWait}
use Rattle.cat_claims.proofs.Touched.{kept_self}
use Rattle.cat_claims.proofs.Waits.{none_claims, none_wait, one_claims, one_kept, one_waits, is_there, wait_on}
use Rattle.cat_claims.proofs.waiting.claim_once.Goals as goal

pub returns-in_default-clause-claims : goal.returns-in_default-clause-claims
returns-in_default-clause-claims c =
    none_claims c.args.rows.now c.args.holders.now c.args.waiting.now c.in_order.ensures c.in_order-2.ensures c.requires.waits c.in_ok-arrival.field-0 (keys c.next_claim.new.waiting) c.in_ok-arrival.ensures c.in_default.is

pub returns-in_default-clause-waits : goal.returns-in_default-clause-waits
returns-in_default-clause-waits c =
    none_wait c.args.rows.now c.args.holders.now c.args.waiting.now c.in_order.ensures c.in_order-2.ensures c.requires.waits c.in_ok-arrival.field-0 (keys c.next_claim.new.waiting) c.in_ok-arrival.ensures c.in_default.is

pub returns-in_default-clause-others : goal.returns-in_default-clause-others
returns-in_default-clause-others c = kept_self [] c.args.holders.now

pub returns-in_default-get-clause-claims : goal.returns-in_default-get-clause-claims
returns-in_default-get-clause-claims c =
    absurd (is_there c.args.rows.now c.args.holders.now c.args.waiting.now c.in_order.ensures c.in_order-2.ensures c.requires.waits c.in_ok-arrival.field-0 (keys c.next_claim.new.waiting) c.in_ok-arrival.ensures
    c.in-Some.arrival c.in-Some.is (sym c.in_default-get.ensures))

pub returns-in_default-get-clause-others : goal.returns-in_default-get-clause-others
returns-in_default-get-clause-others c = kept_self [] c.args.holders.now

pub returns-clause-claims : goal.returns-clause-claims
returns-clause-claims c =
    one_claims c.args.rows.now c.args.holders.now c.args.waiting.now c.in_order.ensures c.in_order-2.ensures c.requires.waits c.in_ok-arrival.field-0 (keys c.next_claim.new.waiting) c.in_ok-arrival.ensures
    c.in-Some.arrival c.in-Some-get.row.now c.take_hold.new.holders c.in-Some.is (sym c.in-Some-get.ensures) c.in_ok-take_hold.ensures c.in_ok-duplicate.field-0

pub returns-clause-waits : goal.returns-clause-waits
returns-clause-waits c =
    subst (λ h. AllWait c.args.rows.now (keys c.open.new.waiting) h) (sym c.in_ok-take_hold.ensures)
    (wait_on c.args.rows.now c.args.holders.now c.in-Some-get.row.now c.in-Some.arrival (keys c.next_claim.new.waiting) (keys c.open.new.waiting) (sym c.in-Some-get.ensures)
    (one_waits c.args.rows.now c.args.holders.now c.args.waiting.now c.in_order.ensures c.in_order-2.ensures c.requires.waits c.in_ok-arrival.field-0 (keys c.next_claim.new.waiting) c.in_ok-arrival.ensures
    c.in-Some.arrival c.in-Some.is) c.in_ok-open.ensures)

pub returns-clause-others : goal.returns-clause-others
returns-clause-others c =
    subst (λ r. AreKeptBut (r ∷ []) c.args.holders.now c.take_hold.new.holders) (sym c.in_ok-duplicate.ensures)
    (one_kept c.args.holders.now c.take_hold.new.holders c.in-Some-get.row.now c.in-Some.arrival c.in_ok-take_hold.ensures)
