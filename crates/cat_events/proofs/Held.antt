-- Which references keep their holding row when the rows of one origin are replaced.
use Rattle.std.proofs.Common.{◌≡◌, ℕ, ◌+◌, ◌<◌, Bool, true, false, cond, not, nat_eq, List, [], ◌∷◌, refl, sym, ap, ◌∙◌, is_some, unwrap_or, arith, true≢false, nat_cmp}
use Rattle.std.specs.declared.option.Option.{Option}
use Rattle.std.specs.declared.option.Option.TheVariants.{None, Some}
use Rattle.std.specs.Option.{option_and_then}
use Rattle.std.specs.Ordering.{eq_by_cmp}
use Rattle.std.specs.List.{list_any}
use Rattle.std.proofs.lemmas.Bool.Decides.{nat_tests}
use Rattle.std.specs.Cmp.{nat_cmp_total}
use Rattle.std.specs.FinMap.{nat_cmp-IsAntisymmetric}
use Rattle.cat_collections.specs.Table.{Text, get, keys, over, put, same_text}
use Rattle.cat_collections.proofs.Tables.{find-over, find-put_other, no_key, or_false_first, or_false_second, same_is, text_antisymmetric, text_total}
use Rattle.cat_types.specs.declared.input.Offered.{Offered}
use Rattle.cat_types.specs.declared.work.Outcome.{Outcome}
use Rattle.cat_types.specs.declared.work.Outcome.TheVariants.{Bad, Good}
use Rattle.cat_model.specs.declared.types.Given.{Given}
use Rattle.cat_model.specs.declared.types.Numbered.{Numbered}
use Rattle.cat_model.specs.declared.types.Origin.{Origin}
use Rattle.cat_model.specs.declared.types.Origin.TheVariants.{Entity, Provider}
use Rattle.cat_model.specs.declared.types.ProviderInputs.{ProviderInputs}
use Rattle.cat_model.specs.declared.types.Record.{Record}
use Rattle.cat_model.specs.declared.types.Row.{Row}
use Rattle.cat_model.specs.declared.types.Settings.{Settings}
use Rattle.cat_model.specs.declared.types.State.{State}
use Rattle.cat_model.specs.Catalogue.{Holders, Offers, Ref, Rows, held, holding, rehold, reheld, row_at, standing}
use Rattle.cat_model.specs.Sound.{AreHolders, AreOffers, offered}
use Rattle.cat_model.specs.Step.{add_offer, add_offers, finished_state, forgotten, has_row, items_after, mutated_state, offered_again, put_all, replaced, row_after, same_origin, source_at, without}
use Rattle.cat_claims.specs.Claimed.{are_others}
use Rattle.cat_events.specs.OwnChanges.{offered_refs}
use Rattle.cat_model.proofs.Holding.{reheld_holders, stood}
use Rattle.cat_model.proofs.Replaced.{same_origin-is}

-- ---- one holder before and after

-- a reference with one holder before and after keeps its row where the row of that holder stays
pub holder_keeps : (rows changed : Rows) (holders : Holders) (r : Ref) (a : ℕ) → AreHolders rows holders → get holders r ≡ Some a → get (rehold changed holders) r ≡ Some a
    → ((before after : Row) → before.reference ≡ r → row_at rows a ≡ Some before → row_at changed a ≡ Some after → before ≡ after)
    → holding rows holders r ≡ holding (standing changed (rehold changed holders)) (rehold changed holders) r
holder_keeps rows changed holders r a are was is stays =
    let w = are.rows_of r a was in
    let v = (reheld_holders changed holders).rows_of r a is in
    let same = stays w.row v.row w.names w.at (stood changed holders a v.row v.at).0 in
    ap (option_and_then (row_at rows)) was ∙ w.at ∙ ap Some same ∙ sym (ap (option_and_then (row_at (standing changed (rehold changed holders)))) is ∙ v.at)

-- ---- the rows of one origin are replaced

module _ (o : Origin) (offers : Ref → Option Offered) where
  -- a row whose arrival isn't a new one is as it was before an offer gets its row
  record IsUnder (a : ℕ) (x y : Numbered) : Type 0 where
    same : row_at y.rows a ≡ row_at x.rows a
    under : a < y.next

  one_under : (r : Ref) (v : Option Offered) (x : Numbered) (a : ℕ) → a < x.next → IsUnder a x (add_offer o r v x)
  one_under r None x a lt = record { same = refl; under = lt }
  one_under r (Some f) x a lt = go (has_row x.rows o r)
    where
      apart : eq_by_cmp nat_cmp a x.next ≡ false
      apart = at (eq_by_cmp nat_cmp a x.next) refl
        where
          at : (b : Bool) → eq_by_cmp nat_cmp a x.next ≡ b → b ≡ false
          at true is = let e : a ≡ x.next = same_is nat_cmp_total nat_cmp-IsAntisymmetric a x.next is in absurd (omega arith)
          at false is = refl

      go : (b : Bool) → IsUnder a x (cond b x (record { rows = put nat_cmp x.next (record { origin = o; reference = r; offered = f }) x.rows; next = x.next + 1 }))
      go true = record { same = refl; under = lt }
      go false = record { same = find-put_other nat_cmp_total nat_cmp-IsAntisymmetric a x.next (record { origin = o; reference = r; offered = f }) x.rows apart; under = omega arith }

  -- so it is as it was before all of them do
  all_under : (order : List Ref) (x : Numbered) (a : ℕ) → a < x.next → row_at (add_offers o offers order x).rows a ≡ row_at x.rows a
  all_under [] x a lt = refl
  all_under (r ∷ rs) x a lt =
      let one = one_under r (offers r) x a lt in
      all_under rs (add_offer o r (offers r) x) a one.under ∙ one.same

  -- a row that is offered again as it was is the same
  again_same : (before after : Row) (v : Option Offered) → ((y : Offered) → v ≡ Some y → y ≡ before.offered) → offered_again before v ≡ Some after → before ≡ after
  again_same before after None as_was e = absurd (true≢false (sym (ap is_some e)))
  again_same before after (Some y) as_was e = go (same_text y.key before.offered.key) e
    where
      go : (b : Bool) → cond b (Some (record before { offered = y })) None ≡ Some after → before ≡ after
      go true e = let same : before.offered ≡ y = sym (as_was y refl) in (λ i. record before { offered = same i }) ∙ ap (λ v. unwrap_or v before) e
      go false e = absurd (true≢false (sym (ap is_some e)))

  after_same : (before after : Row) → (o ≡ before.origin → (y : Offered) → offers before.reference ≡ Some y → y ≡ before.offered) → row_after o offers before ≡ Some after → before ≡ after
  after_same before after as_was e = go (same_origin o before.origin) refl e
    where
      go : (b : Bool) → same_origin o before.origin ≡ b → cond b (offered_again before (offers before.reference)) (Some before) ≡ Some after → before ≡ after
      go true is e = again_same before after (offers before.reference) (as_was (same_origin-is o before.origin is)) e
      go false is e = ap (λ v. unwrap_or v before) e

  module _ (order : List Ref) (m : State) (are_offers : AreOffers m) where
    abbrev changed : Rows
    changed = (replaced o offers order m).rows

    -- what stands at an old arrival is what becomes of its row
    old_at : (a : ℕ) (before : Row) → row_at m.rows a ≡ Some before → row_at changed a ≡ row_after o offers before
    old_at a before e =
        all_under order (record { rows = over nat_cmp m.rows (λ a row. row_after o offers row); next = m.arrival }) a (are_offers.below a before e)
        ∙ find-over nat_cmp_total nat_cmp-IsAntisymmetric a m.rows (λ a row. row_after o offers row) ∙ ap (option_and_then (row_after o offers)) e

    -- a reference keeps its holding row where its holder is the same, and what the origin offers for it now is what it offered
    pub row_kept : AreHolders m.rows m.holders → (r : Ref) (a : ℕ) → get m.holders r ≡ Some a → get (rehold changed m.holders) r ≡ Some a → ((y : Offered) → offers r ≡ Some y → offered m o r ≡ Some y)
        → holding m.rows m.holders r ≡ holding (standing changed (rehold changed m.holders)) (rehold changed m.holders) r
    row_kept are_holders r a was is as_was = holder_keeps m.rows changed m.holders r a are_holders was is
        (λ before after names e e'. after_same before after (as_offered before names e) (sym (old_at a before e) ∙ e'))
      where
        as_offered : (before : Row) → before.reference ≡ r → row_at m.rows a ≡ Some before → o ≡ before.origin → (y : Offered) → offers before.reference ≡ Some y → y ≡ before.offered
        as_offered before names e from y offer =
            let now : offered m o r ≡ Some y = as_was y (ap offers (sym names) ∙ offer) in
            let was : offered m o r ≡ Some before.offered = (λ i. offered m (from i) (sym names i)) ∙ are_offers.given a before e in
            ap (λ v. unwrap_or v y) (sym now ∙ was)

-- ---- a mutation's items

pub put_all_stay : (es items : Offers) (r : Ref) → list_any (same_text r) (keys es) ≡ false → get (put_all es items) r ≡ get items r
put_all_stay [] items r h = refl
put_all_stay (e ∷ es) items r h =
    find-put_other text_total text_antisymmetric r e.0 e.1 (put_all es items) (or_false_first (same_text r e.0) _ h) ∙ put_all_stay es items r (or_false_second (same_text r e.0) _ h)

-- an item that a mutation doesn't give was there before it
pub items_stay : (x : Given) (items : Offers) (r : Ref) (y : Offered) → list_any (same_text r) (keys x.items) ≡ false → get (items_after x items) r ≡ Some y → get items r ≡ Some y
items_stay x items r y none e = at x.full (sym (put_all_stay x.items (cond x.full [] (without x.removed items)) r none) ∙ e)
  where
    stays : (b : Bool) (v : Option Offered) → option_and_then (λ z. cond b None (Some z)) v ≡ Some y → v ≡ Some y
    stays b None e = e
    stays true (Some z) e = absurd (true≢false (sym (ap is_some e)))
    stays false (Some z) e = e

    at : (b : Bool) → get (cond b [] (without x.removed items)) r ≡ Some y → get items r ≡ Some y
    at true e = absurd (true≢false (sym (ap is_some e)))
    at false e = stays (list_any (same_text r) x.removed) (get items r) (sym (find-over text_total text_antisymmetric r items (λ q z. cond (list_any (same_text q) x.removed) None (Some z))) ∙ e)

-- ---- one row holds before and after an event

one_holder : (v w : Option ℕ) → is_some v ≡ true → is_some w ≡ true → are_others v w ≡ false → (a : ℕ) × (v ≡ Some a) × (w ≡ Some a)
one_holder None w h g e = absurd (true≢false (sym h))
one_holder (Some a) None h g e = absurd (true≢false (sym g))
one_holder (Some a) (Some b) h g e = (a, refl, ap Some (sym (one a b e)))
  where
    one : (a b : ℕ) → not (nat_eq a b) ≡ false → a ≡ b
    one a b e = grind (arith, nat_tests)

-- where a reference is held in m, and by the same row in n reheld, it has the same holding row; n is m with an event's own change
abbrev pub KeepsRow : State → State → Ref → Type 0
KeepsRow m n r = held m.holders r ≡ true → held (reheld n).holders r ≡ true → are_others (get m.holders r) (get (reheld n).holders r) ≡ false
    → holding m.rows m.holders r ≡ holding (reheld n).rows (reheld n).holders r

keeps_row : (rows changed : Rows) (holders : Holders) (r : Ref)
    → ((a : ℕ) → get holders r ≡ Some a → get (rehold changed holders) r ≡ Some a → holding rows holders r ≡ holding (standing changed (rehold changed holders)) (rehold changed holders) r)
    → held holders r ≡ true → held (rehold changed holders) r ≡ true → are_others (get holders r) (get (rehold changed holders) r) ≡ false
    → holding rows holders r ≡ holding (standing changed (rehold changed holders)) (rehold changed holders) r
keeps_row rows changed holders r keeps h g e = let one = one_holder (get holders r) (get (rehold changed holders) r) h g e in keeps one.0 one.1 one.2

-- where the rows stay, each reference that isn't moved keeps its row
pub same_rows_keep : (rows : Rows) (holders : Holders) (r : Ref) → AreHolders rows holders
    → held holders r ≡ true → held (rehold rows holders) r ≡ true → are_others (get holders r) (get (rehold rows holders) r) ≡ false
    → holding rows holders r ≡ holding (standing rows (rehold rows holders)) (rehold rows holders) r
same_rows_keep rows holders r are = keeps_row rows rows holders r (λ a was is. holder_keeps rows rows holders r a are was is (λ before after _ e e'. ap (λ v. unwrap_or v before) (sym e ∙ e')))

module _ (m : State) (are_offers : AreOffers m) (are_holders : AreHolders m.rows m.holders) (r : Ref) where
  -- a mutation keeps the row of each reference that it doesn't give and that isn't moved
  pub mutation_keeps : (p : Text) (x : Given) → list_any (same_text r) (keys x.items) ≡ false → KeepsRow m (mutated_state p x (source_at (get m.providers p)) m) r
  mutation_keeps p x none = keeps_row m.rows (mutated_state p x (source_at (get m.providers p)) m).rows m.holders r
      (λ a was is. row_kept (Provider p) (get (items_after x (source_at (get m.providers p)).items)) (keys x.items) m are_offers are_holders r a was is
      (λ y e. was_given y (get m.providers p) (items_stay x (source_at (get m.providers p)).items r y none e)))
    where
      was_given : (y : Offered) (v : Option ProviderInputs) → get (source_at v).items r ≡ Some y → option_and_then (λ (z : ProviderInputs). get z.items r) v ≡ Some y
      was_given y None e = absurd (true≢false (sym (ap is_some e)))
      was_given y (Some z) e = e

  -- a finish keeps the row of each reference that its outcome doesn't offer and that isn't moved
  pub finish_keeps : (s : Settings) (q : Ref) (now : ℕ) (x : Record) (outcome : Outcome) → list_any (same_text r) (offered_refs outcome) ≡ false → KeepsRow m (finished_state s q now x outcome m) r
  finish_keeps s q now x (Good output issues) none = keeps_row m.rows (replaced (Entity q) (get output.offers) (keys output.offers) m).rows m.holders r
      (λ a was is. row_kept (Entity q) (get output.offers) (keys output.offers) m are_offers are_holders r a was is
      (λ y e. absurd (true≢false (ap is_some (sym e ∙ no_key text_total text_antisymmetric r output.offers none)))))
  finish_keeps s q now x (Bad issues) none = same_rows_keep m.rows m.holders r are_holders

  -- to forget what is known under a reference keeps the row of each that isn't moved
  pub forget_keeps : (q : Ref) → KeepsRow m (forgotten q m) r
  forget_keeps q = keeps_row m.rows (forgotten q m).rows m.holders r
      (λ a was is. row_kept (Entity q) (λ k. None) [] m are_offers are_holders r a was is (λ y e. absurd (true≢false (sym (ap is_some e)))))
