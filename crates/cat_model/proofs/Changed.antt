-- The replacement of an origin's rows is a change that can be mended.
use Rattle.std.proofs.Common.{T, ◌≡◌, ℕ, ◌+◌, ◌<◌, ◌≤◌, Bool, true, false, cond, List, [], ◌∷◌, refl, sym, ap, ◌∙◌, is_some, unwrap_or, arith, true≢false, le_refl, nat_cmp}
use Rattle.std.specs.declared.option.Option.{Option}
use Rattle.std.specs.declared.option.Option.TheVariants.{None, Some}
use Rattle.std.specs.Option.{option_and_then}
use Rattle.std.specs.Ordering.{eq_by_cmp}
use Rattle.std.specs.Cmp.{nat_cmp_total}
use Rattle.std.specs.FinMap.{nat_cmp-IsAntisymmetric}
use Rattle.std.specs.FinMap.Entries.{is_sorted, is_sorted-put}
use Rattle.cat_collections.specs.Table.{same_text, keys, get, put, over}
use Rattle.cat_types.specs.declared.input.Offered.{Offered}
use Rattle.cat_types.specs.declared.work.Output.{Output}
use Rattle.cat_model.specs.Catalogue.{Ref, Rows, Rules, row_at, may_offer, rehold}
use Rattle.cat_model.specs.declared.types.Numbered.{Numbered}
use Rattle.cat_model.specs.declared.types.Origin.{Origin}
use Rattle.cat_model.specs.declared.types.Record.{Record}
use Rattle.cat_model.specs.declared.types.Row.{Row}
use Rattle.cat_model.specs.declared.types.State.{State}
use Rattle.cat_model.specs.declared.types.Origin.TheVariants.{Provider, Entity}
use Rattle.cat_model.specs.Sound.{Sound, offered}
use Rattle.cat_model.specs.Step.{same_origin, offered_again, row_after, has_row, add_offer, add_offers, replaced}
use Rattle.cat_collections.proofs.Tables.{same_is, find-over, find-put_same, find-put_other, is_sorted-tabulate}
use Rattle.cat_model.specs.Mend.{IsReplaced, AreOpen, WasThere, IsReady, mended}
use Rattle.cat_model.proofs.Mended.{rehold-is}

same_number : (a b : ℕ) → eq_by_cmp nat_cmp a b ≡ true → a ≡ b
same_number = same_is nat_cmp_total nat_cmp-IsAntisymmetric

pub sound_ready : (rules : Rules) (m : State) → Sound rules m → IsReady m
sound_ready rules m sound = record { holders = sound.holders; below = sound.offers.below; opens = λ a row e. go row row.origin (ap is_some (sound.offers.given a row e)) }
  where
    has_record : (row : Row) (v : Option Record) → is_some (option_and_then (λ (z : Output). get z.offers row.reference) (option_and_then (λ (z : Record). z.output) v)) ≡ true → is_some v ≡ true
    has_record row None h = h
    has_record row (Some z) h = refl

    go : (row : Row) (o : Origin) → is_some (offered m o row.reference) ≡ true → may_offer m.holders o ≡ true
    go row (Provider p) h = refl
    go row (Entity f) h = sym (sound.records f) ∙ has_record row (get m.records f) h

module _ (o : Origin) (offers : Ref → Option Offered) (m : State) where
  -- a row that is kept has its origin and its reference
  record IsAgain (was row : Row) : Type 0 where
    origin : was.origin ≡ row.origin
    reference : was.reference ≡ row.reference

  same_again : (was row : Row) → was ≡ row → IsAgain was row
  same_again was row e = record { origin = ap (λ (x : Row). x.origin) e; reference = ap (λ (x : Row). x.reference) e }

  again : (was row : Row) → row_after o offers was ≡ Some row → IsAgain was row
  again was row = by_origin (same_origin o was.origin)
    where
      by_key : (x : Offered) (b : Bool) → cond b (Some (record was { offered = x })) None ≡ Some row → IsAgain was row
      by_key x true e = let s : record was { offered = x } ≡ row = ap (λ v. unwrap_or v row) e in record { origin = ap (λ (y : Row). y.origin) s; reference = ap (λ (y : Row). y.reference) s }
      by_key x false e = absurd (true≢false (sym (ap is_some e)))

      by_offer : (v : Option Offered) → offered_again was v ≡ Some row → IsAgain was row
      by_offer None e = absurd (true≢false (sym (ap is_some e)))
      by_offer (Some x) e = by_key x (same_text x.key was.offered.key) e

      by_origin : (b : Bool) → cond b (offered_again was (offers was.reference)) (Some was) ≡ Some row → IsAgain was row
      by_origin true e = by_offer (offers was.reference) e
      by_origin false e = same_again was row (ap (λ v. unwrap_or v row) e)

  abbrev first_rows : Rows
  first_rows = over nat_cmp m.rows (λ a row. row_after o offers row)

  kept : (a : ℕ) (row : Row) → row_at first_rows a ≡ Some row → WasThere m.rows a row
  kept a row h = go (row_at m.rows a) refl (sym (find-over nat_cmp_total nat_cmp-IsAntisymmetric a m.rows (λ a row. row_after o offers row)) ∙ h)
    where
      go : (v : Option Row) → row_at m.rows a ≡ v → option_and_then (row_after o offers) v ≡ Some row → WasThere m.rows a row
      go None e h = absurd (true≢false (sym (ap is_some h)))
      go (Some was) e h = let x = again was row h in record { was = was; at = e; same_origin = x.origin; same_reference = x.reference }

  may_again : IsReady m → (a : ℕ) (row : Row) → row_at first_rows a ≡ Some row → may_offer m.holders row.origin ≡ true
  may_again ready a row h = let x = kept a row h in ap (may_offer m.holders) (sym x.same_origin) ∙ ready.opens a x.was x.at

  -- what each added row keeps
  record IsGrown (x : Numbered) : Type 0 where
    next : m.arrival ≤ x.next
    were : (a : ℕ) (row : Row) → row_at x.rows a ≡ Some row → a < m.arrival → WasThere m.rows a row
    others : (a : ℕ) (row : Row) → row_at m.rows a ≡ Some row → same_origin o row.origin ≡ false → row_at x.rows a ≡ Some row
    fresh : (a : ℕ) (row : Row) → row_at x.rows a ≡ Some row → m.arrival ≤ a → row.origin ≡ o
    in_order : T (is_sorted nat_cmp x.rows)

  module _ (ready : IsReady m) (r : Ref) (f : Offered) (x : Numbered) where
    abbrev its_row : Row
    its_row = record { origin = o; reference = r; offered = f }

    abbrev added : Rows
    added = put nat_cmp x.next its_row x.rows

    grown : IsGrown x → IsGrown (record { rows = added; next = x.next + 1 })
    grown g = record {
      next = let l = g.next in omega arith;
      were = λ a row h l. go a row h l (eq_by_cmp nat_cmp a x.next) refl;
      others = λ a row h s. other a row h s (eq_by_cmp nat_cmp a x.next) refl;
      fresh = λ a row h l. new a row h l (eq_by_cmp nat_cmp a x.next) refl;
      in_order = is_sorted-put nat_cmp nat_cmp_total x.next its_row x.rows g.in_order;
    }
      where
        other : (a : ℕ) (row : Row) → row_at m.rows a ≡ Some row → same_origin o row.origin ≡ false → (b : Bool) → eq_by_cmp nat_cmp a x.next ≡ b → row_at added a ≡ Some row
        other a row h s true is = let k = same_number a x.next is in let n = g.next in let l = ready.below a row h in absurd (omega arith)
        other a row h s false is = find-put_other nat_cmp_total nat_cmp-IsAntisymmetric a x.next its_row x.rows is ∙ g.others a row h s

        new : (a : ℕ) (row : Row) → row_at added a ≡ Some row → m.arrival ≤ a → (b : Bool) → eq_by_cmp nat_cmp a x.next ≡ b → row.origin ≡ o
        new a row h l true is =
            let s = same_number a x.next is in
            let same : its_row ≡ row = ap (λ v. unwrap_or v row) (sym (find-put_same nat_cmp_total nat_cmp-IsAntisymmetric x.next its_row x.rows) ∙ (ap (row_at added) (sym s) ∙ h)) in
            ap (λ (y : Row). y.origin) (sym same)
        new a row h l false is = g.fresh a row (sym (find-put_other nat_cmp_total nat_cmp-IsAntisymmetric a x.next its_row x.rows is) ∙ h) l

        go : (a : ℕ) (row : Row) → row_at added a ≡ Some row → a < m.arrival → (b : Bool) → eq_by_cmp nat_cmp a x.next ≡ b → WasThere m.rows a row
        go a row h l true is = let s = same_number a x.next is in let n = g.next in absurd (omega arith)
        go a row h l false is = g.were a row (sym (find-put_other nat_cmp_total nat_cmp-IsAntisymmetric a x.next its_row x.rows is) ∙ h) l

    opened : may_offer m.holders o ≡ true → AreOpen x.rows m.holders → AreOpen added m.holders
    opened may open_rows a row h = go (eq_by_cmp nat_cmp a x.next) refl
      where
        go : (b : Bool) → eq_by_cmp nat_cmp a x.next ≡ b → may_offer m.holders row.origin ≡ true
        go true is =
            let s = same_number a x.next is in
            let same : its_row ≡ row = ap (λ v. unwrap_or v row) (sym (find-put_same nat_cmp_total nat_cmp-IsAntisymmetric x.next its_row x.rows) ∙ (ap (row_at added) (sym s) ∙ h)) in
            ap (λ (y : Row). may_offer m.holders y.origin) (sym same) ∙ may
        go false is = open_rows a row (sym (find-put_other nat_cmp_total nat_cmp-IsAntisymmetric a x.next its_row x.rows is) ∙ h)

  grown_one : IsReady m → (r : Ref) (v : Option Offered) (x : Numbered) → IsGrown x → IsGrown (add_offer o r v x)
  grown_one ready r None x g = g
  grown_one ready r (Some f) x g = go (has_row x.rows o r)
    where
      go : (b : Bool) → IsGrown (cond b x (record { rows = added ready r f x; next = x.next + 1 }))
      go true = g
      go false = grown ready r f x g

  grown_all : IsReady m → (order : List Ref) (x : Numbered) → IsGrown x → IsGrown (add_offers o offers order x)
  grown_all ready [] x g = g
  grown_all ready (r ∷ rs) x g = grown_all ready rs (add_offer o r (offers r) x) (grown_one ready r (offers r) x g)

  open_one : IsReady m → (r : Ref) (v : Option Offered) → ((x : Offered) → v ≡ Some x → may_offer m.holders o ≡ true) → (x : Numbered) → AreOpen x.rows m.holders → AreOpen (add_offer o r v x).rows m.holders
  open_one ready r None may x g = g
  open_one ready r (Some f) may x g = go (has_row x.rows o r)
    where
      go : (b : Bool) → AreOpen (cond b x (record { rows = added ready r f x; next = x.next + 1 })).rows m.holders
      go true = g
      go false = opened ready r f x (may f refl) g

  open_all : IsReady m → ((r : Ref) (x : Offered) → offers r ≡ Some x → may_offer m.holders o ≡ true) → (order : List Ref) (x : Numbered) → AreOpen x.rows m.holders → AreOpen (add_offers o offers order x).rows m.holders
  open_all ready may [] x g = g
  open_all ready may (r ∷ rs) x g = open_all ready may rs (add_offer o r (offers r) x) (open_one ready r (offers r) (may r) x g)

  first_grown : IsReady m → IsGrown (record { rows = first_rows; next = m.arrival })
  first_grown ready = record {
    next = le_refl m.arrival;
    were = λ a row h l. kept a row h;
    others = λ a row h s. find-over nat_cmp_total nat_cmp-IsAntisymmetric a m.rows (λ a row. row_after o offers row) ∙ (ap (option_and_then (row_after o offers)) h ∙ ap (λ b. cond b (offered_again row (offers row.reference)) (Some row)) s);
    fresh = λ a row h l. let x = kept a row h in let k = ready.below a x.was x.at in absurd (omega arith);
    in_order = is_sorted-tabulate nat_cmp_total nat_cmp-IsAntisymmetric (keys m.rows) (λ a. option_and_then (λ row. row_after o offers row) (row_at m.rows a));
  }

  module _ (order : List Ref) (ready : IsReady m) where
    abbrev after : Rows
    after = (replaced o offers order m).rows

    all_grown : IsGrown (replaced o offers order m)
    all_grown = grown_all ready order (record { rows = first_rows; next = m.arrival }) (first_grown ready)

    pub rows_after : IsReplaced o m.rows m.arrival after
    rows_after = record { below = ready.below; others = all_grown.others; were = all_grown.were; fresh = all_grown.fresh }

    pub after_in_order : T (is_sorted nat_cmp after)
    after_in_order = all_grown.in_order

    pub after_open : ((r : Ref) (x : Offered) → offers r ≡ Some x → may_offer m.holders o ≡ true) → AreOpen after m.holders
    after_open may = open_all ready may order (record { rows = first_rows; next = m.arrival }) (may_again ready)

    pub replaced-is : rehold after m.holders ≡ mended o m.rows m.arrival after m.holders
    replaced-is = rehold-is o m.rows after m.arrival m.holders ready.holders rows_after after_in_order
