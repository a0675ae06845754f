-- Outside of which references an event offers what was offered.
use Rattle.std.proofs.Common.{◌≡◌, Bool, true, false, cond, ◌||◌, List, [], ◌++◌, sym, ap, ◌∙◌, is_some, true≢false}
use Rattle.std.specs.declared.option.Option.{Option}
use Rattle.std.specs.declared.option.Option.TheVariants.{None, Some}
use Rattle.std.specs.Option.{option_and_then}
use Rattle.std.specs.List.{list_any}
use Rattle.std.specs.FinMap.Entries.{is_some-find}
use Rattle.std.proofs.lemmas.List.Folds.{list_any-append}
use Rattle.cat_collections.specs.Table.{Map, Text, get, keys, same_text, text_cmp}
use Rattle.cat_collections.proofs.Tables.{find-over, or_false_first, or_false_second, text_antisymmetric, text_total}
use Rattle.cat_types.specs.declared.input.Offered.{Offered}
use Rattle.cat_types.specs.declared.work.Output.{Output}
use Rattle.cat_model.specs.declared.types.Given.{Given}
use Rattle.cat_model.specs.declared.types.Origin.TheVariants.{Entity, Provider}
use Rattle.cat_model.specs.declared.types.ProviderInputs.{ProviderInputs}
use Rattle.cat_model.specs.declared.types.Record.{Record}
use Rattle.cat_model.specs.declared.types.State.{State}
use Rattle.cat_model.specs.Catalogue.{Offers, Ref}
use Rattle.cat_model.specs.Sound.{AreOffers, offered}
use Rattle.cat_model.specs.Step.{items_after, source_at, without}
use Rattle.cat_claims.specs.Change.{IsChangedAmong}
use Rattle.cat_model.proofs.Replaced.{same_origin-is}
use Rattle.cat_events.specs.Again.{kept_offers}
use Rattle.cat_events.specs.OwnChanges.{given_or_removed, offered_or}
use Rattle.cat_events.proofs.Held.{put_all_stay}

-- what is there isn't absent
there : {X : Type 0} (items : Map X) (r : Text) (v : X) → get items r ≡ Some v → list_any (same_text r) (keys items) ≡ true
there items r v e = sym (is_some-find text_cmp r items) ∙ ap is_some e

-- a reference that is in neither of two lists
neither : (r : Ref) (xs ys : List Ref) → list_any (same_text r) (xs ++ ys) ≡ false → (list_any (same_text r) xs || list_any (same_text r) ys) ≡ false
neither r xs ys none = sym (list_any-append (same_text r) xs ys) ∙ none

first_none : (r : Ref) (xs ys : List Ref) → list_any (same_text r) (xs ++ ys) ≡ false → list_any (same_text r) xs ≡ false
first_none r xs ys none = or_false_first (list_any (same_text r) xs) (list_any (same_text r) ys) (neither r xs ys none)

second_none : (r : Ref) (xs ys : List Ref) → list_any (same_text r) (xs ++ ys) ≡ false → list_any (same_text r) ys ≡ false
second_none r xs ys none = or_false_second (list_any (same_text r) xs) (list_any (same_text r) ys) (neither r xs ys none)

-- ---- an entity

-- what an entity offers is an offer of its kept output
kept_offer : (kept : Option Record) (r : Ref) (v : Offered) → option_and_then (λ x. get x.offers r) (option_and_then (λ x. x.output) kept) ≡ Some v → list_any (same_text r) (keys (kept_offers kept)) ≡ true
kept_offer None r v e = absurd (true≢false (sym (ap is_some e)))
kept_offer (Some x) r v e = go x.output e
  where
    go : (output : Option Output) → option_and_then (λ y. get y.offers r) output ≡ Some v → list_any (same_text r) (keys (kept_offers (Some (record x { output = output })))) ≡ true
    go None e = absurd (true≢false (sym (ap is_some e)))
    go (Some output) e = there output.offers r v e

-- each row of an entity is of a reference that its kept output offers
pub entity_among : (m : State) (e : Ref) (o : Ref → Option Offered) (order : List Ref) → AreOffers m → IsChangedAmong (Entity e) o (offered_or (get m.records e) order) m.rows
entity_among m e o order are a row at from none =
    let is : Entity e ≡ row.origin = same_origin-is (Entity e) row.origin from in
    let was : offered m (Entity e) row.reference ≡ Some row.offered = ap (λ q. offered m q row.reference) is ∙ are.given a row at in
    absurd (true≢false (sym (kept_offer (get m.records e) row.reference row.offered was) ∙ first_none row.reference (keys (kept_offers (get m.records e))) order none))

-- ---- a provider

-- an item that a mutation doesn't touch is as it was
untouched : (x : Given) (items : Offers) (r : Ref) (v : Offered) → get items r ≡ Some v → list_any (same_text r) (given_or_removed x items) ≡ false → get (items_after x items) r ≡ Some v
untouched x items r v was none =
    put_all_stay x.items (cond x.full [] (without x.removed items)) r (second_none r (cond x.full (keys items) x.removed) (keys x.items) none)
    ∙ go x.full (first_none r (cond x.full (keys items) x.removed) (keys x.items) none)
  where
    go : (full : Bool) → list_any (same_text r) (cond full (keys items) x.removed) ≡ false → get (cond full [] (without x.removed items)) r ≡ Some v
    go true none = absurd (true≢false (sym (there items r v was) ∙ none))
    go false none =
        find-over text_total text_antisymmetric r items (λ q z. cond (list_any (same_text q) x.removed) None (Some z))
        ∙ ap (option_and_then (λ z. cond (list_any (same_text r) x.removed) None (Some z))) was
        ∙ ap (λ (b : Bool). cond b None (Some v)) none

-- what a provider offers is one of its items
an_item : (source : Option ProviderInputs) (r : Ref) (v : Offered) → option_and_then (λ x. get x.items r) source ≡ Some v → get (source_at source).items r ≡ Some v
an_item None r v e = absurd (true≢false (sym (ap is_some e)))
an_item (Some x) r v e = e

-- outside of what a mutation gives or takes away a provider's rows have its items
pub given_among : (m : State) (p : Text) (x : Given) → AreOffers m
    → IsChangedAmong (Provider p) (get (items_after x (source_at (get m.providers p)).items)) (given_or_removed x (source_at (get m.providers p)).items) m.rows
given_among m p x are a row at from none =
    let is : Provider p ≡ row.origin = same_origin-is (Provider p) row.origin from in
    let was : offered m (Provider p) row.reference ≡ Some row.offered = ap (λ q. offered m q row.reference) is ∙ are.given a row at in
    untouched x (source_at (get m.providers p)).items row.reference row.offered (an_item (get m.providers p) row.reference row.offered was) none
