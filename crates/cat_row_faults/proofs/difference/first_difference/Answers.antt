use Rattle.std.proofs.Common.{◌≤◌, sym, subst, ◌∙◌}
use Rattle.cat_row_faults.specs.Difference.{earlier}
use Rattle.cat_row_faults.proofs.Parting.{all_same, one_further, parted}
use Rattle.cat_row_faults.proofs.difference.first_difference.Goals as goal

pub returns-then-not-is_same : goal.returns-then-not-is_same
returns-then-not-is_same c =
    parted c.args.rows.now c.args.others.now c.loop-place.place (λ same. c.is_same.ensures.differ c.if-not-is_same.true (c.at.ensures ∙ (same ∙ sym c.at-in-loop-place.ensures)))
    c.loop-place.invariant c.earlier.result (sym (c.earlier.ensures ∙ (λ i. earlier (c.in_ok-left.ensures i) (c.in_ok-right.ensures i))))

pub loop-place-preserved : goal.loop-place-preserved
loop-place-preserved c =
    one_further c.args.rows.now c.args.others.now c.loop-place.place c.loop-place.invariant (sym c.at.ensures ∙ (c.is_same.ensures.same c.if-not-is_same.false ∙ c.at-in-loop-place.ensures))

pub returns : goal.returns
returns c =
    let most = c.longer-most.result in
    all_same c.args.rows.now c.args.others.now most c.loop-place.place (subst (λ n. n ≤ most) c.len.ensures.entries c.longer-most.ensures.left)
    (subst (λ n. n ≤ most) c.len-2.ensures.entries c.longer-most.ensures.right) c.loop-place-test.false c.loop-place.invariant
