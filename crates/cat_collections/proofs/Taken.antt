-- What is taken out at a key's place.
use Rattle.std.proofs.Common.{◌≡◌, ℕ, List, sym, ap, ◌∙◌}
use Rattle.std.specs.Prelude.{option_map, slice_get}
use Rattle.std.specs.declared.option.Option.{Option}
use Rattle.std.specs.declared.option.Option.TheVariants.{None, Some}
use Rattle.std.specs.declared.cmp.Ordering.{Ordering}
use Rattle.std.specs.Cmp.{IsTotalOrder}
use Rattle.std.specs.FinMap.{IsAntisymmetric}
use Rattle.std.proofs.lemmas.Option.{get_or_from_slice_get}
use Rattle.cat_collections.specs.Rows.{IsAt, IsBetween}
use Rattle.cat_collections.specs.Table.{find}
use Rattle.cat_collections.proofs.Placed.{find_at, find_between}

module _ {K X : Type 0} {R : K → K → Ordering} (o : IsTotalOrder R) (s : IsAntisymmetric R) where
  pub taken_at : (k : K) (rows : List (K × X)) (i : ℕ) (e : K × X) → IsAt R k rows i → slice_get rows i ≡ Some e → Some e ≡ option_map (λ x. (k, x)) (find R k rows)
  taken_at k rows i e a h =
      let is = get_or_from_slice_get rows i e e h in
      let same = s k e.0 (ap (λ (y : K × X). R k y.0) (sym is) ∙ a.tied e) in
      let found = ap (λ (y : K × X). Some y.1) (sym is) ∙ find_at o s k rows i e a in
      ap (λ q. Some (q, e.1)) (sym same) ∙ ap (option_map (λ x. (k, x))) found

  pub none_taken : (k : K) (rows : List (K × X)) (i : ℕ) → IsBetween R k rows i → ◌≡◌ {A = Option (K × X)} None (option_map (λ x. (k, x)) (find R k rows))
  none_taken k rows i b = ap (option_map (λ x. (k, x))) (find_between o s k rows i b)
