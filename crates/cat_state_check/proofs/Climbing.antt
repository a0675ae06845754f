-- Climbing from row to row is climbing from reference to reference.
use Rattle.std.proofs.Common.{◌≡◌, ℕ, zero, suc, ◌-◌, ◌<◌, Bool, true, false, refl, sym, ap, ◌∙◌, arith}
use Rattle.std.specs.declared.option.Option.{Option}
use Rattle.std.specs.declared.option.Option.TheVariants.{None, Some}
use Rattle.std.specs.Option.{option_and_then}
use Rattle.cat_collections.specs.Table.{get}
use Rattle.cat_model.specs.Catalogue.{Holders, Ref, Rows, climbs, climbs_origin, climbs_row, row_at}
use Rattle.cat_model.specs.declared.types.Origin.{Origin}
use Rattle.cat_model.specs.declared.types.Origin.TheVariants.{Provider, Entity}
use Rattle.cat_model.specs.declared.types.Row.{Row}
use Rattle.cat_state_check.specs.declared.holders.Above.{Above}
use Rattle.cat_state_check.specs.declared.holders.Above.TheVariants.{Giver, Holder, Nothing}
use Rattle.cat_state_check.specs.Above.{above_holder, above_origin, above_row, climbs_from}

module _ (rows : Rows) (holders : Holders) where
  -- whether a provider is reached from what is above, within n steps
  abbrev pub climbs_above : ℕ → Above → Bool
  climbs_above n Giver = true
  climbs_above n Nothing = false
  climbs_above n (Holder a) = climbs_from rows holders n a

  -- a reference climbs as the row that holds it does
  pub climbs_is : (n : ℕ) (r : Ref) (a : ℕ) → get holders r ≡ Some a → climbs rows holders n r ≡ climbs_from rows holders n a
  climbs_is zero r a e = refl
  climbs_is (suc n) r a e = ap (λ v. climbs_row (climbs rows holders n) (option_and_then (row_at rows) v)) e

  unheld : (n : ℕ) (r : Ref) → get holders r ≡ None → climbs rows holders n r ≡ false
  unheld zero r e = refl
  unheld (suc n) r e = ap (λ v. climbs_row (climbs rows holders n) (option_and_then (row_at rows) v)) e

  emitter_is : (n : ℕ) (e : Ref) (v : Option ℕ) → get holders e ≡ v → climbs rows holders n e ≡ climbs_above n (above_holder v)
  emitter_is n e None is = unheld n e is
  emitter_is n e (Some a) is = climbs_is n e a is

  origin_is : (n : ℕ) (o : Origin) → climbs_origin (climbs rows holders n) o ≡ climbs_above n (above_origin holders o)
  origin_is n (Provider p) = refl
  origin_is n (Entity e) = emitter_is n e (get holders e) refl

  row_is : (n : ℕ) (v : Option Row) → climbs_row (climbs rows holders n) v ≡ climbs_above n (above_row holders v)
  row_is n None = refl
  row_is n (Some row) = origin_is n row.origin

  -- a step from a row goes on from what is above it
  pub climbs_on : (n : ℕ) (a : ℕ) (u : Above) → 0 < n → u ≡ above_row holders (row_at rows a) → climbs_from rows holders n a ≡ climbs_above (n - 1) u
  climbs_on zero a u l e = absurd (omega arith)
  climbs_on (suc n) a u l e =
      let k : suc n - 1 ≡ n = omega arith in
      row_is n (row_at rows a) ∙ (ap (climbs_above n) (sym e) ∙ ap (λ j. climbs_above j u) (sym k))
