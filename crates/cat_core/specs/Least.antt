-- The least of the keys that pass, said without a sorted list of them.
use Rattle.std.specs.Prelude.{Bool, true, false, cond, List, [], ◌∷◌}
use Rattle.std.specs.declared.cmp.Ordering.{Ordering}
use Rattle.std.specs.declared.option.Option.{Option}
use Rattle.std.specs.declared.option.Option.TheVariants.{None, Some}
use Rattle.std.specs.Ordering.{is_gt}

-- the lesser of a key that passes and the best so far, if there is one
abbrev pub lesser : {K : Type 0} → (K → K → Ordering) → K → Option K → Option K
lesser R k None = Some k
lesser R k (Some b) = cond (is_gt (R k b)) (Some b) (Some k)

-- the lesser of two keys, or the only one, if there is any
abbrev pub lesser_of : {K : Type 0} → (K → K → Ordering) → Option K → Option K → Option K
lesser_of R None best = best
lesser_of R (Some k) best = lesser R k best

-- the best with one key more, which counts only where it passes
abbrev pub nearer : {K : Type 0} → (K → K → Ordering) → Bool → K → Option K → Option K
nearer R true k best = lesser R k best
nearer R false k best = best

-- the least of the best so far and of the keys that pass
abbrev pub least : {K : Type 0} → (K → K → Ordering) → (K → Bool) → List K → Option K → Option K
least R p [] best = best
least R p (k ∷ ks) best = nearer R (p k) k (least R p ks best)
