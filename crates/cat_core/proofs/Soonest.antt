-- Of records in order the entry that is soonest is that of the record which a take leases.
use Rattle.std.proofs.Common.{◌≡◌, ℕ, Bool, true, false, cond, nat_le, [], ◌∷◌, refl, sym, ap, ◌∙◌, option_map}
use Rattle.std.specs.declared.option.Option.{Option}
use Rattle.std.specs.declared.option.Option.TheVariants.{None, Some}
use Rattle.std.specs.FinMap.Entries.{is_sorted}
use Rattle.std.specs.List.{filter}
use Rattle.cat_collections.specs.Table.{Map, get, keys, text_cmp}
use Rattle.cat_collections.proofs.Tables.{text_antisymmetric, text_total}
use Rattle.cat_model.specs.Catalogue.{Ref}
use Rattle.cat_model.specs.Dues.{sooner, soonest}
use Rattle.cat_model.specs.Step.{due_at, earlier, earliest, may_take, next_taken}
use Rattle.cat_model.specs.declared.types.Record.{Record}
use Rattle.cat_model.specs.declared.types.State.{State}
use Rattle.cat_settle.proofs.Held.{AreHeld, IsHeld, are_held}

-- the entry, if there is one, is found under its key
abbrev IsFound : Map Record → Option (Ref × Record) → Type 0
IsFound records None = Unit {0}
IsFound records (Some e) = IsHeld text_cmp records e

-- the key of an entry
abbrev pub key : Option (Ref × Record) → Option Ref
key = option_map (λ (e : Ref × Record). e.0)

module _ (m : State) (now : ℕ) where
  abbrev may : Ref → Bool
  may r = may_take now (get m.records r)

  found : (es : Map Record) → AreHeld text_cmp m.records es → IsFound m.records (soonest now es)
  found [] h = tt
  found (e ∷ es) h = go (may_take now (Some e.1)) (soonest now es) (found es h.1)
    where
      nearer : (c : Bool) (b : Ref × Record) → IsHeld text_cmp m.records b → IsFound m.records (cond c (Some e) (Some b))
      nearer true b g = h.0
      nearer false b g = g

      go : (c : Bool) (v : Option (Ref × Record)) → IsFound m.records v → IsFound m.records (cond c (sooner e v) v)
      go false v g = g
      go true None g = h.0
      go true (Some b) g = nearer (nat_le e.1.due b.1.due) b g

  -- the key of the first of two entries is the first of the keys
  key_sooner : (e : Ref × Record) (v : Option (Ref × Record)) → IsHeld text_cmp m.records e → IsFound m.records v → key (sooner e v) ≡ earlier m e.0 (key v)
  key_sooner e None h g = refl
  key_sooner e (Some b) h g = go (nat_le e.1.due b.1.due) ∙ sym ((λ i. cond (nat_le (due_at (h i)) (due_at (g i))) (Some e.0) (Some b.0)))
    where
      go : (c : Bool) → key (cond c (Some e) (Some b)) ≡ cond c (Some e.0) (Some b.0)
      go true = refl
      go false = refl

  keys_soonest : (es : Map Record) → AreHeld text_cmp m.records es → key (soonest now es) ≡ earliest m (filter may (keys es))
  keys_soonest [] h = refl
  keys_soonest (e ∷ es) h =
      go (may_take now (Some e.1)) (keys_soonest es h.1) ∙ sym (ap (λ v. earliest m (cond (may_take now v) (e.0 ∷ filter may (keys es)) (filter may (keys es)))) h.0)
    where
      go : (c : Bool) → key (soonest now es) ≡ earliest m (filter may (keys es))
          → key (cond c (sooner e (soonest now es)) (soonest now es)) ≡ earliest m (cond c (e.0 ∷ filter may (keys es)) (filter may (keys es)))
      go true ih = key_sooner e (soonest now es) h.0 (found es h.1) ∙ ap (earlier m e.0) ih
      go false ih = ih

  pub soonest_is : is_sorted text_cmp m.records ≡ true → key (soonest now m.records) ≡ next_taken now m
  soonest_is sorted = keys_soonest m.records (are_held text_total text_antisymmetric m.records sorted)

-- the key of the entry that is soonest is the record that a take leases
pub taken_key : (m : State) (now : ℕ) → is_sorted text_cmp m.records ≡ true → (r : Option Ref) → r ≡ key (soonest now m.records) → r ≡ next_taken now m
taken_key m now sorted r at = at ∙ soonest_is m now sorted
