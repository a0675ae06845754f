-- The numbers of a tested candidate.
use Rattle.std.proofs.Common.{◌≡◌, ℕ, ◌≤◌, true, ◌&&◌, nat_le, nat_lt, refl, sym, ap, ◌∙◌, is_some, unwrap_or, true≢false, leb-true, ltb-true}
use Rattle.std.specs.declared.option.Option.{Option}
use Rattle.std.specs.declared.option.Option.TheVariants.{None, Some}
use Rattle.std.specs.Ordering.{nat_cmp}
use Rattle.cat_collections.specs.Table.{find, get}
use Rattle.cat_collections.proofs.Tables.{and_first, and_second, same_is, text_antisymmetric, text_total}
use Rattle.cat_model.specs.Catalogue.{Ref}
use Rattle.cat_model.specs.Sound.{AreNumbers, its_number, number_in}
use Rattle.cat_model.specs.declared.types.Orphan.{Orphan}
use Rattle.cat_model.specs.declared.types.Record.{Record}
use Rattle.cat_model.specs.declared.types.State.{State}
use Rattle.cat_state_check.specs.Candidate.{is_name, is_right_number}
use Rattle.cat_state_check.specs.Indexed.{Names}

name_is : (r : Ref) (v : Option Ref) → is_name r v ≡ true → v ≡ Some r
name_is r None h = absurd (true≢false (sym h))
name_is r (Some q) h = ap Some (same_is text_total text_antisymmetric q r h)

module _ (m : State) (names : Names) (records : (r : Ref) (x : Record) → get m.records r ≡ Some x → is_right_number m.number names x.number r ≡ true)
    (orphans : (r : Ref) (x : Orphan) → get m.orphans r ≡ Some x → is_right_number m.number names x.number r ≡ true) where
  number_passes : (r : Ref) (k : ℕ) → its_number m r ≡ Some k → is_right_number m.number names k r ≡ true
  number_passes r k e = go (get m.records r) (get m.orphans r) refl refl e
    where
      at : (j : ℕ) → Some j ≡ Some k → is_right_number m.number names j r ≡ true → is_right_number m.number names k r ≡ true
      at j f h = ap (λ v. is_right_number m.number names (unwrap_or v k) r) (sym f) ∙ h

      go : (x : Option Record) (y : Option Orphan) → get m.records r ≡ x → get m.orphans r ≡ y → number_in x y ≡ Some k → is_right_number m.number names k r ≡ true
      go None None ex ey f = absurd (true≢false (sym (ap is_some f)))
      go None (Some y) ex ey f = at y.number f (orphans r y ey)
      go (Some x) y ex ey f = at x.number f (records r x ex)

  name_at : (r : Ref) (k : ℕ) → its_number m r ≡ Some k → find nat_cmp k names ≡ Some r
  name_at r k e = name_is r _ (and_second (nat_le 1 k && nat_lt k m.number) _ (number_passes r k e))

  -- numbers are at least 1, below the counter, and differ
  pub are_numbers : 1 ≤ m.number → AreNumbers m
  are_numbers begun = record {
    begun = begun;
    from_one = λ r k e. leb-true 1 k (and_first _ _ (and_first _ _ (number_passes r k e)));
    below = λ r k e. ltb-true k m.number (and_second (nat_le 1 k) _ (and_first _ _ (number_passes r k e)));
    differ = λ r q k e f. ap (λ v. unwrap_or v r) (sym (name_at r k e) ∙ name_at q k f);
  }
