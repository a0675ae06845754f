-- The order of pairs.
use Rattle.std.specs.Prelude.{◌≡◌}
use Rattle.std.specs.declared.cmp.Ordering.{Ordering}
use Rattle.std.specs.declared.cmp.Ordering.TheVariants.{Less, Equal, Greater}
use Rattle.std.specs.Ordering.{ordering_then}
use Rattle.std.specs.Cmp.{IsTotalOrder, on_total, then_total}
use Rattle.std.specs.FinMap.{IsAntisymmetric}

-- pairs are ordered by their first parts, and by their second ones where those tie
abbrev pub pair_cmp : {A B : Type 0} → (A → A → Ordering) → (B → B → Ordering) → A × B → A × B → Ordering
pair_cmp R S x y = ordering_then (R x.0 y.0) (S x.1 y.1)

pub pair_total : {A B : Type 0} {R : A → A → Ordering} {S : B → B → Ordering} → IsTotalOrder R → IsTotalOrder S → IsTotalOrder (pair_cmp R S)
pair_total o p = then_total (on_total (λ x. x.0) o) (on_total (λ x. x.1) p)

both_tie : (o p : Ordering) → ordering_then o p ≡ Equal → (o ≡ Equal) × (p ≡ Equal)
both_tie Less p e = absurd (cc)
both_tie Equal p e = (cc, e)
both_tie Greater p e = absurd (cc)

pub pair_antisymmetric : {A B : Type 0} {R : A → A → Ordering} {S : B → B → Ordering} → IsAntisymmetric R → IsAntisymmetric S → IsAntisymmetric (pair_cmp R S)
pair_antisymmetric s t x y e = let both = both_tie _ _ e in λ i. (s x.0 y.0 both.0 i, t x.1 y.1 both.1 i)
