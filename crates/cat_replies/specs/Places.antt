-- The order of the places of rows.
use Rattle.std.specs.Prelude.{◌≡◌}
use Rattle.std.proofs.Common.{refl, ap, true≢false}
use Rattle.std.specs.declared.cmp.Ordering.{Ordering}
use Rattle.std.specs.declared.cmp.Ordering.TheVariants.{Less, Equal, Greater}
use Rattle.std.specs.Ordering.{is_gt, is_lt, nat_cmp, ordering_then}
use Rattle.std.specs.Cmp.{IsTotalOrder, nat_cmp_total, on_total, then_total}
use Rattle.std.specs.FinMap.{IsAntisymmetric, nat_cmp-IsAntisymmetric}
use Rattle.cat_collections.specs.Table.{text_antisymmetric, text_cmp, text_total}
use Rattle.cat_model.specs.Reply.{RowPlace, place_cmp}
use Rattle.cat_replies.specs.declared.conflicts.Place.{Place}

-- a reference and an arrival
abbrev pub place_of : Place → RowPlace
place_of p = (p.reference, p.arrival)

-- by reference, and then by arrival
abbrev pub place_order : Place → Place → Ordering
place_order x y = place_cmp (place_of x) (place_of y)

-- places are in a total order
pub place_total : IsTotalOrder place_order
place_total = on_total place_of (then_total (on_total (λ (k : RowPlace). k.0) text_total) (on_total (λ (k : RowPlace). k.1) nat_cmp_total))

-- only equal places tie
pub place_apart : IsAntisymmetric place_order
place_apart x y h = go (text_cmp x.reference y.reference) refl h
  where
    go : (r : Ordering) → text_cmp x.reference y.reference ≡ r → ordering_then r (nat_cmp x.arrival y.arrival) ≡ Equal → x ≡ y
    go Equal t h = let a = text_antisymmetric x.reference y.reference t in let b = nat_cmp-IsAntisymmetric x.arrival y.arrival h in λ i. record { reference = a i; arrival = b i }
    go Less t h = absurd (true≢false (ap is_lt h))
    go Greater t h = absurd (true≢false (ap is_gt h))
