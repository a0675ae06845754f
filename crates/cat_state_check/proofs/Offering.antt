-- The rows of a tested candidate are what is offered.
use Rattle.std.proofs.Common.{◌≡◌, ℕ, ◌<◌, true, ◌&&◌, nat_lt, refl, sym, ap, ◌∙◌, is_some, unwrap_or, true≢false, eqb-true, ltb-true}
use Rattle.std.specs.declared.option.Option.{Option}
use Rattle.std.specs.declared.option.Option.TheVariants.{None, Some}
use Rattle.std.specs.Cmp.{nat_cmp_total}
use Rattle.std.specs.FinMap.{nat_cmp-IsAntisymmetric}
use Rattle.std.specs.List.{list_all}
use Rattle.std.specs.Option.{option_and_then}
use Rattle.cat_tree.proofs.Equality.{is_same-true}
use Rattle.cat_collections.specs.Table.{get, same_text}
use Rattle.cat_collections.proofs.Tables.{and_first, and_second, same_is, text_antisymmetric, text_total}
use Rattle.cat_types.specs.declared.input.Offered.{Offered}
use Rattle.cat_types.specs.declared.work.Output.{Output}
use Rattle.cat_model.specs.Catalogue.{Ref, row_at}
use Rattle.cat_model.specs.Sound.{AreOffers, HasRow, offered}
use Rattle.cat_model.specs.Step.{is_offer, same_origin}
use Rattle.cat_model.specs.declared.types.Origin.{Origin}
use Rattle.cat_model.specs.declared.types.Origin.TheVariants.{Provider, Entity}
use Rattle.cat_model.specs.declared.types.ProviderInputs.{ProviderInputs}
use Rattle.cat_model.specs.declared.types.Record.{Record}
use Rattle.cat_model.specs.declared.types.Row.{Row}
use Rattle.cat_model.specs.declared.types.State.{State}
use Rattle.cat_model.proofs.Replaced.{same_origin-is}
use Rattle.cat_state_check.specs.declared.offers.RowIndex.{RowIndex}
use Rattle.cat_state_check.specs.Candidate.{are_items_shown, are_offers_shown, is_arrival, is_offered, is_right_row, is_shown}
use Rattle.cat_state_check.specs.Indexed.{arrival_in}
use Rattle.cat_state_check.proofs.Found.{found_passes}

pub offered_is : (x : Offered) (v : Option Offered) → is_offered x v ≡ true → v ≡ Some x
offered_is x None h = absurd (true≢false (sym h))
offered_is x (Some y) h =
    let key : y.key ≡ x.key = same_is text_total text_antisymmetric y.key x.key (and_first _ _ h) in
    let tree : y.tree ≡ x.tree = is_same-true y.tree x.tree (and_second (same_text y.key x.key) _ h) in
    λ i. Some (record { key = key i; tree = tree i })

pub arrival_is : (a : ℕ) (v : Option ℕ) → is_arrival a v ≡ true → v ≡ Some a
arrival_is a None h = absurd (true≢false (sym h))
arrival_is a (Some b) h = ap Some (eqb-true b a h)

module _ (m : State) (index : RowIndex) (rows : list_all (is_right_row m index) m.rows ≡ true) where
  -- what was tested of a row
  pub record IsTested (a : ℕ) (row : Row) : Type 0 where
    pub given : offered m row.origin row.reference ≡ Some row.offered
    pub kept : arrival_in index row.origin row.reference ≡ Some a
    pub below : a < m.arrival
    pub is_held : is_some (get m.holders row.reference) ≡ true

  pub tested : (a : ℕ) (row : Row) → row_at m.rows a ≡ Some row → IsTested a row
  tested a row e =
      let h = found_passes nat_cmp_total nat_cmp-IsAntisymmetric (is_right_row m index) m.rows rows a row e in
      let three = and_first _ _ h in
      let two = and_first _ _ three in
      record {
        given = offered_is row.offered _ (and_first _ _ two);
        kept = arrival_is a _ (and_second (is_offered row.offered (offered m row.origin row.reference)) _ two);
        below = ltb-true a m.arrival (and_second (is_offered row.offered (offered m row.origin row.reference) && is_arrival a (arrival_in index row.origin row.reference)) _ three);
        is_held = and_second (is_offered row.offered (offered m row.origin row.reference) && is_arrival a (arrival_in index row.origin row.reference) && nat_lt a m.arrival) _ h;
      }

  -- what is offered, and has a row of its origin and reference, has that row
  row_has : (o : Origin) (r : Ref) (x : Offered) → offered m o r ≡ Some x → (a : ℕ) (row : Row) → row_at m.rows a ≡ Some row → is_offer o r (Some row) ≡ true → HasRow m.rows o r x
  row_has o r x f a row e h =
      let origin : row.origin ≡ o = sym (same_origin-is o row.origin (and_first _ _ h)) in
      let reference : row.reference ≡ r = sym (same_is text_total text_antisymmetric r row.reference (and_second (same_origin o row.origin) _ h)) in
      let same : Some row.offered ≡ Some x = sym (tested a row e).given ∙ ((λ i. offered m (origin i) (reference i)) ∙ f) in
      let offer : row.offered ≡ x = ap (λ v. unwrap_or v x) same in
      record { arrival = a; row = e ∙ (λ i. Some (record { origin = origin i; reference = reference i; offered = offer i })) }

  shown_has : (o : Origin) (r : Ref) (x : Offered) → offered m o r ≡ Some x → is_shown m.rows index o r ≡ true → HasRow m.rows o r x
  shown_has o r x f h = go (arrival_in index o r) h
    where
      at : (a : ℕ) (v : Option Row) → row_at m.rows a ≡ v → is_offer o r v ≡ true → HasRow m.rows o r x
      at a None e h = absurd (true≢false (sym h))
      at a (Some row) e h = row_has o r x f a row e h

      go : (v : Option ℕ) → is_offer o r (option_and_then (row_at m.rows) v) ≡ true → HasRow m.rows o r x
      go None h = absurd (true≢false (sym h))
      go (Some a) h = at a (row_at m.rows a) refl h

  module _ (items : list_all (are_items_shown m.rows index) m.providers ≡ true) (offers : (e : Ref) (x : Record) → get m.records e ≡ Some x → are_offers_shown m.rows index e x.output ≡ true) where
    item_shown : (p r : Ref) (x : Offered) (v : Option ProviderInputs) → get m.providers p ≡ v → option_and_then (λ y. get y.items r) v ≡ Some x → is_shown m.rows index (Provider p) r ≡ true
    item_shown p r x None e f = absurd (true≢false (sym (ap is_some f)))
    item_shown p r x (Some inputs) e f =
        found_passes text_total text_antisymmetric (λ y. is_shown m.rows index (Provider p) y.0) inputs.items
        (found_passes text_total text_antisymmetric (are_items_shown m.rows index) m.providers items p inputs e) r x f

    output_shown : (e r : Ref) (x : Offered) (v : Option Output) → are_offers_shown m.rows index e v ≡ true → option_and_then (λ y. get y.offers r) v ≡ Some x → is_shown m.rows index (Entity e) r ≡ true
    output_shown e r x None h f = absurd (true≢false (sym (ap is_some f)))
    output_shown e r x (Some output) h f = found_passes text_total text_antisymmetric (λ y. is_shown m.rows index (Entity e) y.0) output.offers h r x f

    offer_shown : (e r : Ref) (x : Offered) (v : Option Record) → get m.records e ≡ v → option_and_then (λ y. get y.offers r) (option_and_then (λ y. y.output) v) ≡ Some x → is_shown m.rows index (Entity e) r ≡ true
    offer_shown e r x None is f = absurd (true≢false (sym (ap is_some f)))
    offer_shown e r x (Some y) is f = output_shown e r x y.output (offers e y is) f

    all_shown : (o : Origin) (r : Ref) (x : Offered) → offered m o r ≡ Some x → is_shown m.rows index o r ≡ true
    all_shown (Provider p) r x f = item_shown p r x (get m.providers p) refl f
    all_shown (Entity e) r x f = offer_shown e r x (get m.records e) refl f

    -- the rows are what providers and kept outputs offer
    pub are_offers : AreOffers m
    are_offers = record {
      given = λ a row e. (tested a row e).given;
      shown = λ o r x f. shown_has o r x f (all_shown o r x f);
      below = λ a row e. (tested a row e).below;
      once = λ a b row other e f origin reference.
          ap (λ v. unwrap_or v a) (sym (tested a row e).kept ∙ ((λ i. arrival_in index (origin i) (reference i)) ∙ (tested b other f).kept));
    }
