-- What is known of entries whose keys rise.
use Rattle.std.proofs.Common.{T, ◌≡◌, Bool, true, false, List, refl, sym, true≢false, Ordering}
use Rattle.std.specs.FinMap.Entries.{is_sorted}
use Rattle.cat_types.specs.Rising.{RiseWhere}

to_T : (b : Bool) → b ≡ true → T b
to_T true h = tt
to_T false h = absurd (true≢false (sym h))

module _ {K X : Type 0} (R : K → K → Ordering) where
  -- the keys of entries rise, where it is known
  pub rise_is : (b : Bool) (m : List (K × X)) → b ≡ is_sorted R m → RiseWhere R b m
  rise_is true m e = to_T _ (sym e)
  rise_is false m e = tt
