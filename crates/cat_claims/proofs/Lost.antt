-- Which references lose the row that held them.
use Rattle.std.proofs.Common.{◌≡◌, ℕ, Bool, true, false, cond, not, ◌&&◌, List, refl, sym, ap, ◌∙◌, is_some, is_none, unwrap_or, true≢false, arith, nat_cmp, nat_eq}
use Rattle.std.specs.declared.option.Option.{Option}
use Rattle.std.specs.declared.option.Option.TheVariants.{None, Some}
use Rattle.std.specs.Option.{option_and_then}
use Rattle.std.specs.List.{filter, list_any}
use Rattle.std.specs.Cmp.{both_ways, nat_cmp_total}
use Rattle.std.specs.FinMap.{nat_cmp-IsAntisymmetric}
use Rattle.std.proofs.lemmas.Bool.Decides.{nat_tests}
use Rattle.cat_collections.specs.Table.{get, keys, over, same_text}
use Rattle.cat_collections.proofs.Orders.{has-filter}
use Rattle.cat_collections.proofs.Tables.{and_first, and_second, find-over, found_key, text_antisymmetric, text_total}
use Rattle.cat_types.specs.declared.input.Offered.{Offered}
use Rattle.cat_model.specs.Catalogue.{Holders, Ref}
use Rattle.cat_model.specs.Rows.{Rows, given, is_from, row_at, same_origin}
use Rattle.cat_model.specs.Step.{is_offer, replaced, row_after}
use Rattle.cat_model.specs.declared.types.Numbered.{Numbered}
use Rattle.cat_model.specs.declared.types.Origin.{Origin}
use Rattle.cat_model.specs.declared.types.Row.{Row}
use Rattle.cat_model.specs.declared.types.State.{State}
use Rattle.cat_model.specs.Mend.{held_by, is_holder, lost, lost_by}
use Rattle.cat_model.proofs.Members.{filter_map_from, filter_map_in}
use Rattle.cat_claims.specs.Change.{IsChangedAmong, among}
use Rattle.cat_claims.specs.Renewed.{is_gone, loses}
use Rattle.cat_claims.proofs.Added.{stays}
use Rattle.cat_claims.proofs.Renewed.{after_same, and_true, same_name, self_name}

-- the row that held a reference, was of the origin, and is gone
pub record IsLoss (o : Origin) (before after : Rows) (holders : Holders) (r : Ref) : Type 0 where
  pub arrival : ℕ
  pub row : Row
  pub holds : get holders r ≡ Some arrival
  pub at : row_at before arrival ≡ Some row
  pub own : same_origin o row.origin ≡ true
  pub names : row.reference ≡ r
  pub gone : is_none (row_at after arrival) ≡ true

module _ (o : Origin) (before after : Rows) (holders : Holders) (r : Ref) where
  loss_from_loses : loses o before after holders r ≡ true → IsLoss o before after holders r
  loss_from_loses h = by_holder (get holders r) refl h
    where
      by_row : (a : ℕ) → get holders r ≡ Some a → is_none (row_at after a) ≡ true → (v : Option Row) → row_at before a ≡ v → is_offer o r v ≡ true → IsLoss o before after holders r
      by_row a holds gone None at h = absurd (true≢false (sym h))
      by_row a holds gone (Some row) at h = record {
        arrival = a;
        row = row;
        holds = holds;
        at = at;
        own = and_first _ _ h;
        names = sym (same_name r row.reference (and_second _ _ h));
        gone = gone;
      }

      by_holder : (w : Option ℕ) → get holders r ≡ w → is_gone o before after r w ≡ true → IsLoss o before after holders r
      by_holder None holds h = absurd (true≢false (sym h))
      by_holder (Some a) holds h = by_row a holds (and_second _ _ h) (row_at before a) refl (and_first _ _ h)

  loses_from_loss : IsLoss o before after holders r → loses o before after holders r ≡ true
  loses_from_loss x =
      ap (is_gone o before after r) x.holds
      ∙ (ap (λ b. is_offer o r (row_at before x.arrival) && b) x.gone
      ∙ (and_true (is_offer o r (row_at before x.arrival))
      ∙ (ap (is_offer o r) x.at
      ∙ (ap (λ b. b && same_text r x.row.reference) x.own ∙ (ap (same_text r) x.names ∙ self_name r)))))

  -- a row of the origin that held the reference and is gone
  loss_at : (a : ℕ) → is_from o (row_at before a) ≡ true → lost_by before after holders a ≡ Some r → IsLoss o before after holders r
  loss_at a own e = by_gone (is_none (row_at after a)) refl e
    where
      by_same : (row : Row) (b : ℕ) → is_none (row_at after a) ≡ true → row_at before a ≡ Some row → same_origin o row.origin ≡ true → get holders row.reference ≡ Some b
          → (c : Bool) → nat_eq a b ≡ c → cond c (Some row.reference) None ≡ Some r → IsLoss o before after holders r
      by_same row b gone at own holds true n e =
          let is : row.reference ≡ r = ap (λ v. unwrap_or v r) e in
          let k : b ≡ a = grind (arith, nat_tests) in
          record { arrival = a; row = row; holds = sym (ap (get holders) is) ∙ (holds ∙ ap Some k); at = at; own = own; names = is; gone = gone }
      by_same row b gone at own holds false n e = absurd (true≢false (sym (ap is_some e)))

      by_holder : (row : Row) → is_none (row_at after a) ≡ true → row_at before a ≡ Some row → same_origin o row.origin ≡ true
          → (w : Option ℕ) → get holders row.reference ≡ w → cond (is_holder a w) (Some row.reference) None ≡ Some r → IsLoss o before after holders r
      by_holder row gone at own None holds e = absurd (true≢false (sym (ap is_some e)))
      by_holder row gone at own (Some b) holds e = by_same row b gone at own holds (nat_eq a b) refl e

      by_row : is_none (row_at after a) ≡ true → (v : Option Row) → row_at before a ≡ v → is_from o v ≡ true → held_by holders a v ≡ Some r → IsLoss o before after holders r
      by_row gone None at own e = absurd (true≢false (sym own))
      by_row gone (Some row) at own e = by_holder row gone at own (get holders row.reference) refl e

      by_gone : (b : Bool) → is_none (row_at after a) ≡ b → cond b (held_by holders a (row_at before a)) None ≡ Some r → IsLoss o before after holders r
      by_gone true gone e = by_row gone (row_at before a) refl own e
      by_gone false gone e = absurd (true≢false (sym (ap is_some e)))

  lost_at : (x : IsLoss o before after holders r) → lost_by before after holders x.arrival ≡ Some r
  lost_at x =
      let n : nat_eq x.arrival x.arrival ≡ true = grind (arith, nat_tests) in
      ap (λ b. cond b (held_by holders x.arrival (row_at before x.arrival)) None) x.gone
      ∙ (ap (held_by holders x.arrival) x.at
      ∙ (ap (λ q. cond (is_holder x.arrival (get holders q)) (Some q) None) x.names
      ∙ (ap (λ w. cond (is_holder x.arrival w) (Some r) None) x.holds ∙ ap (λ b. cond b (Some r) None) n)))

  among_given : (a : ℕ) → among a (given before o) ≡ (is_from o (row_at before a) && among a (keys before))
  among_given a = has-filter nat_cmp_total nat_cmp-IsAntisymmetric (λ b. is_from o (row_at before b)) a (keys before)

  given_there : (x : IsLoss o before after holders r) → among x.arrival (given before o) ≡ true
  given_there x =
      among_given x.arrival
      ∙ (ap (λ b. is_from o (row_at before x.arrival) && b) (found_key nat_cmp_total nat_cmp-IsAntisymmetric x.arrival before x.row x.at)
      ∙ (and_true (is_from o (row_at before x.arrival)) ∙ (ap (is_from o) x.at ∙ x.own)))

  pub lost_is : list_any (same_text r) (lost o before after holders) ≡ loses o before after holders r
  lost_is = both_ways _ _ (λ h. to_loses h) (λ h. to_lost (loss_from_loses h))
    where
      to_loses : list_any (same_text r) (lost o before after holders) ≡ true → loses o before after holders r ≡ true
      to_loses h =
          let w = filter_map_from nat_cmp_total nat_cmp-IsAntisymmetric text_total text_antisymmetric (lost_by before after holders) (given before o) r h in
          loses_from_loss (loss_at w.0 (and_first _ _ (sym (among_given w.0) ∙ w.1)) w.2)

      to_lost : IsLoss o before after holders r → list_any (same_text r) (lost o before after holders) ≡ true
      to_lost x = filter_map_in nat_cmp_total nat_cmp-IsAntisymmetric text_total text_antisymmetric (lost_by before after holders) (given before o) x.arrival r (given_there x) (lost_at x)

  -- what is lost is among the references that change
  in_changed : (f : Ref → Option Offered) (changed : List Ref) → IsChangedAmong o f changed before
      → ((a : ℕ) → is_some (row_at (over nat_cmp before (λ a row. row_after o f row)) a) ≡ true → is_some (row_at after a) ≡ true)
      → IsLoss o before after holders r → list_any (same_text r) changed ≡ true
  in_changed f changed is kept x = go (list_any (same_text r) changed) refl
    where
      there : list_any (same_text r) changed ≡ false → is_some (row_at after x.arrival) ≡ true
      there h =
          let same : row_after o f x.row ≡ Some x.row = after_same o f x.row (λ own. is x.arrival x.row x.at own (ap (λ q. list_any (same_text q) changed) x.names ∙ h)) in
          kept x.arrival (ap is_some (find-over nat_cmp_total nat_cmp-IsAntisymmetric x.arrival before (λ a row. row_after o f row) ∙ (ap (option_and_then (row_after o f)) x.at ∙ same)))

      go : (b : Bool) → list_any (same_text r) changed ≡ b → b ≡ true
      go true h = refl
      go false h = absurd (true≢false (sym x.gone ∙ ap not (there h)))

-- those of the changed references that lose their row are all that is lost
pub lost_of_changed : (o : Origin) (f : Ref → Option Offered) (order changed : List Ref) (m : State) (after : Numbered) (refs : List Ref) → IsChangedAmong o f changed m.rows → after ≡ replaced o f order m
    → refs ≡ filter (loses o m.rows after.rows m.holders) changed → (r : Ref) → list_any (same_text r) refs ≡ list_any (same_text r) (lost o m.rows after.rows m.holders)
lost_of_changed o f order changed m after refs is made e r =
    ap (list_any (same_text r)) e
    ∙ (has-filter text_total text_antisymmetric (loses o m.rows after.rows m.holders) r changed
    ∙ (go (loses o m.rows after.rows m.holders r) refl ∙ sym (lost_is o m.rows after.rows m.holders r)))
  where
    kept : (a : ℕ) → is_some (row_at (over nat_cmp m.rows (λ a row. row_after o f row)) a) ≡ true → is_some (row_at after.rows a) ≡ true
    kept a h = ap (λ (x : Numbered). is_some (row_at x.rows a)) made ∙ stays o f order (record { rows = over nat_cmp m.rows (λ a row. row_after o f row); next = m.arrival }) a h

    go : (b : Bool) → loses o m.rows after.rows m.holders r ≡ b → (b && list_any (same_text r) changed) ≡ b
    go true h = in_changed o m.rows after.rows m.holders r f changed is kept (loss_from_loses o m.rows after.rows m.holders r h)
    go false h = refl
