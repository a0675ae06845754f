-- What a mutation reaches.
use Rattle.std.proofs.Common.{◌≡◌, ℕ, Bool, true, false, cond, List, [], ◌∷◌, refl, sym, ap, ◌∙◌, is_some, true≢false, nat_lt}
use Rattle.std.specs.declared.option.Option.{Option}
use Rattle.std.specs.declared.option.Option.TheVariants.{None, Some}
use Rattle.std.specs.Option.{option_and_then}
use Rattle.cat_collections.specs.Table.{Text, same_text, get, keys}
use Rattle.cat_collections.proofs.Tables.{text_total, text_antisymmetric, find-over, find-put_other, found_key, or_false_first, or_false_second}
use Rattle.cat_types.specs.declared.input.Offered.{Offered}
use Rattle.cat_model.specs.Catalogue.{Ref, Offers, Rules, frame, row_at}
use Rattle.cat_model.specs.Sound.{Sound, offered}
use Rattle.cat_model.specs.Step.{items_after, mutated_state, put_all, source_at, step, without}
use Rattle.cat_model.specs.Step.Event.{Mutate}
use Rattle.cat_model.specs.declared.types.Given.{Given}
use Rattle.cat_model.specs.declared.types.Leaving.TheVariants.{Deleted}
use Rattle.cat_model.specs.declared.types.Origin.TheVariants.{Provider}
use Rattle.cat_model.specs.declared.types.ProviderInputs.{ProviderInputs}
use Rattle.cat_model.specs.declared.types.Row.{Row}
use Rattle.cat_model.specs.declared.types.Settings.{Settings}
use Rattle.cat_model.specs.declared.types.State.{State}
use Rattle.cat_model.proofs.Holding.{stood}
use Rattle.cat_model.proofs.Changed.{sound_ready, rows_after}
use Rattle.cat_model.proofs.Members.{any_left}
use Rattle.cat_affected.specs.Reach.{AreSameBeyond, AreSameProvidersBut, given_refs, has, reached}
use Rattle.cat_affected.proofs.Within.{out_left, out_right}
use Rattle.cat_affected.proofs.Added.{offered_stays, new_named}
use Rattle.cat_affected.proofs.Same.{IsOwnChange, same_beyond}
use Rattle.cat_affected.proofs.Stepped.{unchanged, at_cond, stepped}

put_elsewhere : (es items : Offers) (r : Ref) → has r (keys es) ≡ false → get (put_all es items) r ≡ get items r
put_elsewhere [] items r out = refl
put_elsewhere (e ∷ es) items r out = find-put_other text_total text_antisymmetric r e.0 e.1 (put_all es items) (or_false_first (same_text r e.0) (has r (keys es)) out)
    ∙ put_elsewhere es items r (or_false_second (same_text r e.0) (has r (keys es)) out)

kept_elsewhere : (removed : List Ref) (items : Offers) (r : Ref) (f : Offered) → get items r ≡ Some f → has r removed ≡ false → get (without removed items) r ≡ Some f
kept_elsewhere removed items r f e out = find-over text_total text_antisymmetric r items (λ r x. cond (has r removed) None (Some x))
    ∙ (ap (option_and_then (λ x. cond (has r removed) None (Some x))) e ∙ ap (λ b. cond b None (Some f)) out)

its_item : (v : Option ProviderInputs) (r : Ref) (f : Offered) → option_and_then (λ (x : ProviderInputs). get x.items r) v ≡ Some f → get (source_at v).items r ≡ Some f
its_item None r f e = absurd (true≢false (sym (ap is_some e)))
its_item (Some x) r f e = e

module _ (rules : Rules) (s : Settings) (m : State) (p : Text) (x : Given) where
  abbrev source : ProviderInputs
  source = source_at (get m.providers p)

  abbrev items : Offers
  items = items_after x source.items

  abbrev own : State
  own = mutated_state p x source m

  abbrev seeds : List Ref
  seeds = given_refs p x m

  abbrev Reaches : State → Type 0
  Reaches n = AreSameBeyond (reached seeds m n) m n

  -- an item that isn't named is as before
  item_stays : (r : Ref) (f : Offered) → get source.items r ≡ Some f → has r seeds ≡ false → get items r ≡ Some f
  item_stays r f e out = put_elsewhere x.items (cond x.full [] (without x.removed source.items)) r (out_left r (keys x.items) (cond x.full (keys source.items) x.removed) out)
      ∙ go x.full (out_right r (keys x.items) (cond x.full (keys source.items) x.removed) out)
    where
      go : (b : Bool) → has r (cond b (keys source.items) x.removed) ≡ false → get (cond b [] (without x.removed source.items)) r ≡ Some f
      go true out = absurd (true≢false (sym (found_key text_total text_antisymmetric r source.items f e) ∙ out))
      go false out = kept_elsewhere x.removed source.items r f e out

  module _ (sound : Sound rules m) where
    offer_stays : (a : ℕ) (row : Row) → row_at m.rows a ≡ Some row → row.origin ≡ Provider p → has row.reference seeds ≡ false → get items row.reference ≡ Some row.offered
    offer_stays a row e is out = item_stays row.reference row.offered
        (its_item (get m.providers p) row.reference row.offered (sym (ap (λ o. offered m o row.reference) is) ∙ sound.offers.given a row e)) out

    own_change : IsOwnChange (Provider p) seeds m own (frame rules Deleted m own)
    own_change = record {
      replaces = rows_after (Provider p) (get items) m (keys x.items) (sound_ready rules m sound);
      kept = λ a row e is out. offered_stays (Provider p) (get items) (keys x.items) m sound.offers.below a row e is (offer_stays a row e is out);
      fresh = λ a row h l. any_left (same_text row.reference) (keys x.items) (cond x.full (keys source.items) x.removed)
          (new_named (Provider p) (get items) (keys x.items) m sound.offers.below a row (stood own.rows own.holders a row h).0 l);
      holders = refl;
      records = λ r out. refl;
      orphans = λ r out. refl;
    }

    pub mutate_reaches : Reaches (step rules s (Mutate p x) m)
    mutate_reaches = stepped rules s (Mutate p x) m Reaches (unchanged (reached seeds m m) m)
        (at_cond Reaches (nat_lt source.serial x.serial) (frame rules Deleted m own) m
        (same_beyond rules Deleted (Provider p) seeds m own sound own_change) (unchanged (reached seeds m m) m))

  -- what other providers gave is as before
  pub mutate_inputs : AreSameProvidersBut p m (step rules s (Mutate p x) m)
  mutate_inputs = stepped rules s (Mutate p x) m (AreSameProvidersBut p m) none (at_cond (AreSameProvidersBut p m) (nat_lt source.serial x.serial) (frame rules Deleted m own) m
      (record { providers = λ q out. find-put_other text_total text_antisymmetric q p (record { serial = x.serial; items = items }) m.providers out; shelf = refl }) none)
    where
      none : AreSameProvidersBut p m m
      none = record { providers = λ q out. refl; shelf = refl }
