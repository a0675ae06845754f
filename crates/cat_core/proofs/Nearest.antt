-- Of rows in order, the nearest that waits is found among the entries.
use Rattle.std.proofs.Common.{◌≡◌, ℕ, Bool, true, false, ◌&&◌, List, [], ◌∷◌, map, refl, sym, ap, ◌∙◌, is_some}
use Rattle.std.specs.declared.option.Option.{Option}
use Rattle.std.specs.declared.option.Option.TheVariants.{None, Some}
use Rattle.std.specs.Cmp.{nat_cmp_total}
use Rattle.std.specs.FinMap.{nat_cmp-IsAntisymmetric}
use Rattle.std.specs.FinMap.Entries.{is_sorted}
use Rattle.std.specs.Ordering.{nat_cmp}
use Rattle.cat_model.specs.declared.types.Row.{Row}
use Rattle.cat_model.specs.declared.types.State.{State}
use Rattle.cat_model.specs.Reply.{RowPlace, place_cmp, waits}
use Rattle.cat_settle.proofs.Held.{AreHeld, are_held}
use Rattle.cat_core.specs.Least.{least, nearer}
use Rattle.cat_core.specs.Waits.{is_above, nearest, next_waiting, place_of, waits_at}

and_swapped : (a b : Bool) → (a && b) ≡ (b && a)
and_swapped true true = refl
and_swapped true false = refl
and_swapped false true = refl
and_swapped false false = refl

module _ (m : State) (after : Option RowPlace) where
  nearest_held : (es : List (ℕ × Row)) → AreHeld nat_cmp m.rows es → nearest m after es ≡ least place_cmp (λ k. is_some (waits_at m k) && is_above place_cmp after k) (map place_of es) None
  nearest_held [] h = refl
  nearest_held (e ∷ es) h =
      let same = and_swapped (is_above place_cmp after (place_of e)) (is_some (waits m e.0 (Some e.1))) ∙ ap (λ v. is_some (waits m e.0 v) && is_above place_cmp after (place_of e)) (sym h.0) in
      λ i. nearer place_cmp (same i) (place_of e) (nearest_held es h.1 i)

  pub nearest_is : is_sorted nat_cmp m.rows ≡ true → nearest m after m.rows ≡ next_waiting m after
  nearest_is h = nearest_held m.rows (are_held nat_cmp_total nat_cmp-IsAntisymmetric m.rows h)
