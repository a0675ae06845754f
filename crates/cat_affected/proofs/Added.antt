-- The rows of an origin that are replaced: those that stay, and those that are new.
use Rattle.std.proofs.Common.{◌≡◌, ℕ, ◌+◌, ◌<◌, ◌≤◌, Bool, true, false, cond, ◌||◌, ◌⊎◌, inl, inr, List, [], ◌∷◌, refl, sym, ap, ◌∙◌, is_some, unwrap_or, arith, true≢false, nat_cmp}
use Rattle.std.specs.declared.option.Option.{Option}
use Rattle.std.specs.declared.option.Option.TheVariants.{None, Some}
use Rattle.std.specs.Option.{option_and_then}
use Rattle.std.specs.Ordering.{eq_by_cmp}
use Rattle.std.specs.Cmp.{nat_cmp_total}
use Rattle.std.specs.FinMap.{nat_cmp-IsAntisymmetric}
use Rattle.cat_collections.specs.Table.{same_text, put, over}
use Rattle.cat_collections.proofs.Tables.{text_total, text_antisymmetric, same_is, same_self, find-over, find-put_same, find-put_other, or_true}
use Rattle.cat_types.specs.declared.input.Offered.{Offered}
use Rattle.cat_model.specs.Catalogue.{Ref, Rows, row_at}
use Rattle.cat_model.specs.Step.{same_origin, offered_again, row_after, has_row, add_offer, add_offers, replaced}
use Rattle.cat_model.specs.declared.types.Numbered.{Numbered}
use Rattle.cat_model.specs.declared.types.Origin.{Origin}
use Rattle.cat_model.specs.declared.types.Row.{Row}
use Rattle.cat_model.specs.declared.types.State.{State}
use Rattle.cat_model.proofs.Replaced.{same_origin-self}
use Rattle.cat_affected.specs.Reach.{has}

module _ (o : Origin) (offers : Ref → Option Offered) where
  module _ (r : Ref) (f : Offered) (x : Numbered) where
    abbrev its_row : Row
    its_row = record { origin = o; reference = r; offered = f }

    abbrev added : Rows
    added = put nat_cmp x.next its_row x.rows

    abbrev more : Numbered
    more = record { rows = added; next = x.next + 1 }

    added_or_was : (a : ℕ) (row : Row) → row_at added a ≡ Some row → (same_text row.reference r ≡ true) ⊎ (row_at x.rows a ≡ Some row)
    added_or_was a row h = go (eq_by_cmp nat_cmp a x.next) refl
      where
        go : (b : Bool) → eq_by_cmp nat_cmp a x.next ≡ b → (same_text row.reference r ≡ true) ⊎ (row_at x.rows a ≡ Some row)
        go true is =
            let s = same_is nat_cmp_total nat_cmp-IsAntisymmetric a x.next is in
            let same : its_row ≡ row = ap (λ v. unwrap_or v row) (sym (find-put_same nat_cmp_total nat_cmp-IsAntisymmetric x.next its_row x.rows) ∙ (ap (row_at added) (sym s) ∙ h)) in
            inl (ap (λ (y : Row). same_text y.reference r) (sym same) ∙ same_self text_total text_antisymmetric r)
        go false is = inr (sym (find-put_other nat_cmp_total nat_cmp-IsAntisymmetric a x.next its_row x.rows is) ∙ h)

    added_below : (a : ℕ) → a < x.next → row_at added a ≡ row_at x.rows a
    added_below a l = go (eq_by_cmp nat_cmp a x.next) refl
      where
        go : (b : Bool) → eq_by_cmp nat_cmp a x.next ≡ b → row_at added a ≡ row_at x.rows a
        go true is = let s : a ≡ x.next = same_is nat_cmp_total nat_cmp-IsAntisymmetric a x.next is in absurd (omega arith)
        go false is = find-put_other nat_cmp_total nat_cmp-IsAntisymmetric a x.next its_row x.rows is

  -- a row that an offer leaves is of its reference, or was there
  named_one : (r : Ref) (v : Option Offered) (x : Numbered) (a : ℕ) (row : Row) → row_at (add_offer o r v x).rows a ≡ Some row → (same_text row.reference r ≡ true) ⊎ (row_at x.rows a ≡ Some row)
  named_one r None x a row h = inr h
  named_one r (Some f) x a row h = go (has_row x.rows o r) h
    where
      go : (b : Bool) → row_at (cond b x (more r f x)).rows a ≡ Some row → (same_text row.reference r ≡ true) ⊎ (row_at x.rows a ≡ Some row)
      go true h = inr h
      go false h = added_or_was r f x a row h

  named_all : (order : List Ref) (x : Numbered) (a : ℕ) (row : Row) → row_at (add_offers o offers order x).rows a ≡ Some row → (has row.reference order ≡ true) ⊎ (row_at x.rows a ≡ Some row)
  named_all [] x a row h = inr h
  named_all (r ∷ rs) x a row h = go (named_all rs (add_offer o r (offers r) x) a row h)
    where
      first : (same_text row.reference r ≡ true) ⊎ (row_at x.rows a ≡ Some row) → (has row.reference (r ∷ rs) ≡ true) ⊎ (row_at x.rows a ≡ Some row)
      first (inl i) = inl (ap (λ b. b || has row.reference rs) i)
      first (inr k) = inr k

      go : (has row.reference rs ≡ true) ⊎ (row_at (add_offer o r (offers r) x).rows a ≡ Some row) → (has row.reference (r ∷ rs) ≡ true) ⊎ (row_at x.rows a ≡ Some row)
      go (inl i) = inl (or_true (same_text row.reference r) (has row.reference rs) i)
      go (inr k) = first (named_one r (offers r) x a row k)

  -- rows below the next arrival stay
  kept_one : (r : Ref) (v : Option Offered) (x : Numbered) (a : ℕ) → a < x.next → (row_at (add_offer o r v x).rows a ≡ row_at x.rows a) × (a < (add_offer o r v x).next)
  kept_one r None x a l = (refl, l)
  kept_one r (Some f) x a l = go (has_row x.rows o r)
    where
      go : (b : Bool) → (row_at (cond b x (more r f x)).rows a ≡ row_at x.rows a) × (a < (cond b x (more r f x)).next)
      go true = (refl, l)
      go false = (added_below r f x a l, omega arith)

  kept_all : (order : List Ref) (x : Numbered) (a : ℕ) → a < x.next → row_at (add_offers o offers order x).rows a ≡ row_at x.rows a
  kept_all [] x a l = refl
  kept_all (r ∷ rs) x a l = let w = kept_one r (offers r) x a l in kept_all rs (add_offer o r (offers r) x) a w.1 ∙ w.0

  module _ (order : List Ref) (m : State) (under : (a : ℕ) (row : Row) → row_at m.rows a ≡ Some row → a < m.arrival) where
    abbrev first_rows : Rows
    first_rows = over nat_cmp m.rows (λ a row. row_after o offers row)

    first_at : (a : ℕ) → row_at first_rows a ≡ option_and_then (row_after o offers) (row_at m.rows a)
    first_at a = find-over nat_cmp_total nat_cmp-IsAntisymmetric a m.rows (λ a row. row_after o offers row)

    -- a row whose offer is as before stands as before
    pub offered_stays : (a : ℕ) (row : Row) → row_at m.rows a ≡ Some row → row.origin ≡ o → offers row.reference ≡ Some row.offered → row_at (replaced o offers order m).rows a ≡ Some row
    offered_stays a row e is offer =
        kept_all order (record { rows = first_rows; next = m.arrival }) a (under a row e)
        ∙ (first_at a ∙ (ap (option_and_then (row_after o offers)) e
        ∙ (ap (λ b. cond b (offered_again row (offers row.reference)) (Some row)) (ap (same_origin o) is ∙ same_origin-self o)
        ∙ (ap (offered_again row) offer ∙ ap (λ b. cond b (Some row) None) (same_self text_total text_antisymmetric row.offered.key)))))

    -- a new row is of a reference of the order
    pub new_named : (a : ℕ) (row : Row) → row_at (replaced o offers order m).rows a ≡ Some row → m.arrival ≤ a → has row.reference order ≡ true
    new_named a row h l = go (named_all order (record { rows = first_rows; next = m.arrival }) a row h)
      where
        old : (v : Option Row) → row_at m.rows a ≡ v → option_and_then (row_after o offers) v ≡ Some row → has row.reference order ≡ true
        old None e h = absurd (true≢false (sym (ap is_some h)))
        old (Some was) e h = let k = under a was e in absurd (omega arith)

        go : (has row.reference order ≡ true) ⊎ (row_at first_rows a ≡ Some row) → has row.reference order ≡ true
        go (inl i) = i
        go (inr k) = old (row_at m.rows a) refl (sym (first_at a) ∙ k)
