-- The way up from a row, step by step.
use Rattle.std.proofs.Common.{◌≡◌, ℕ, zero, suc, ◌-◌, ◌<◌, ap, sym, ◌∙◌, arith}
use Rattle.cat_row_faults.specs.Rules.{above, climbs, goes_on}
use Rattle.cat_row_faults.specs.Told.{Answers}
use Rattle.cat_row_faults.specs.declared.climb.Above.{Above}

-- where a step is left, the way goes on from what is above the row
pub climbs_on : (a : Answers) (steps n : ℕ) (next : Above) → 0 < steps → next ≡ above a (a.given n) → climbs a steps n ≡ goes_on (climbs a (steps - 1)) next
climbs_on a zero n next h e = absurd (omega arith)
climbs_on a (suc steps) n next h e =
    let one : steps ≡ suc steps - 1 = omega arith in
    ap (λ s. goes_on (climbs a s) (above a (a.given n))) one ∙ ap (goes_on (climbs a (suc steps - 1))) (sym e)
