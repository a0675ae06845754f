-- The row of a place is what is found at its key among the rows of the state.
use Rattle.std.proofs.Common.{◌≡◌, ◌^◌, ◌<◌, inr, ℕ, Bool, true, false, ◌∷◌, refl, sym, ap, subst, ◌∙◌}
use Rattle.std.specs.Prelude.{IsTrue, if◌then◌else◌}
use Rattle.std.specs.declared.option.Option.{Option}
use Rattle.std.specs.declared.option.Option.TheVariants.{None, Some}
use Rattle.std.specs.Option.{option_map}
use Rattle.cat_types.specs.Names.{is_name}
use Rattle.cat_collections.specs.Table.{Text, find, get}
use Rattle.cat_collections.proofs.Tables.{some_or_none}
use Rattle.cat_model.specs.Catalogue.{Ref, row_at}
use Rattle.cat_model.specs.Rows.{named}
use Rattle.cat_model.specs.declared.types.Origin.TheVariants.{Provider as OfProvider}
use Rattle.cat_model.specs.declared.types.OrphanRule.{OrphanRule}
use Rattle.cat_model.specs.declared.types.Record.{Record as Recorded}
use Rattle.cat_model.specs.declared.types.State.{State}
use Rattle.cat_keeper.specs.Store.{RowKey, row_cmp}
use Rattle.cat_row_format.specs.Text.{row_key}
use Rattle.cat_row_format.specs.declared.row.StoredCounter.{StoredCounter}
use Rattle.cat_row_format.specs.declared.row.StoredCounter.TheVariants.{Arrival, Number}
use Rattle.cat_row_format.specs.declared.row.StoredRow.{StoredRow}
use Rattle.cat_row_format.specs.declared.row.StoredRow.TheVariants as row
use Rattle.cat_stored_rows.specs.Stored.{all_rows, emitted, is_blank, orphan_row, provider_row, record_row, rule_of, shelf_row, stored}
use Rattle.cat_stored_rows.proofs.In.{In, none_some, same_some}
use Rattle.cat_row_updates.proofs.Rows.{place}
use Rattle.cat_row_updates.proofs.Values.{one_arrival, one_counter, one_item}
use Rattle.cat_row_updates.proofs.Views.{has_counter, has_item, has_orphan, has_provider, has_record, has_settings, has_text, has_tree, next_of}
use Rattle.cat_row_updates.specs.Places.{arrivals_of, item_among, key_of, next_at, record_with, row_of, unless_blank}
use Rattle.cat_row_updates.specs.Renewed.{AreSorted, IsKept}
use Rattle.cat_row_updates.specs.declared.place.Place.{Place}
use Rattle.cat_row_updates.specs.declared.place.Place.TheVariants.{Counter, Settings, Provider, Shelf, Record, Orphan, Tree, Item}
use Rattle.cat_row_updates.proofs.Found.{IsFound, IsThere, full_by_orphan, full_by_provider, full_by_record, full_by_row, full_by_text, stands_at}
use Rattle.cat_row_updates.proofs.Items.{IsItem, item_is, item_some}
use Rattle.cat_row_updates.proofs.Members.{in_named}
use Rattle.cat_row_updates.proofs.Noted.{same_record}
use Rattle.cat_row_updates.proofs.Standing.{fits, is_named}

-- the key of a place is that of no other
abbrev pub IsFit : Place → Type 0
IsFit (Counter counter) = Unit {0}
IsFit Settings = Unit {0}
IsFit (Provider name) = Unit {0}
IsFit (Shelf name) = Unit {0}
IsFit (Record reference) = Unit {0}
IsFit (Orphan reference) = Unit {0}
IsFit (Tree arrival) = arrival < 2 ^ 64
IsFit (Item provider reference arrival) = IsTrue (is_name provider)

module _ (rule : OrphanRule) (m : State) (o : AreSorted m) (k : IsKept m) where
  -- ---- counters and the rule

  same_next : (c : StoredCounter) → next_at m c ≡ next_of m c
  same_next Arrival = refl
  same_next Number = refl

  when_full : (b : StoredRow) → is_blank rule m ≡ false → unless_blank rule m b ≡ Some b
  when_full b e = ap (λ v. if v then None else Some b) e

  full_then : (b c : StoredRow) → unless_blank rule m b ≡ Some c → (is_blank rule m ≡ false) × (b ≡ c)
  full_then b c h = go (is_blank rule m) refl h
    where
      go : (v : Bool) → is_blank rule m ≡ v → (if v then None else Some b) ≡ Some c → (is_blank rule m ≡ false) × (b ≡ c)
      go true e h = absurd (none_some h)
      go false e h = (e, same_some h)

  unless_there : (at : RowKey) (b : StoredRow) → place b ≡ at → In b (all_rows rule m) → (c : StoredRow) → unless_blank rule m b ≡ Some c → IsThere rule m at c
  unless_there at b stands there c h =
      let w = full_then b c h in
      record { row = subst (λ x. In x (all_rows rule m)) w.1 there; stands = ap place (sym w.1) ∙ stands; full = w.0 }

  under_counter : (c : StoredCounter) → find row_cmp (key_of (Counter c)) (stored rule m) ≡ row_of rule m (Counter c)
  under_counter c = stands_at rule m o k (key_of (Counter c)) (row_of rule m (Counter c)) there here
    where
      b : StoredRow
      b = row.Counter c (next_at m c)

      there : (x : StoredRow) → IsFound rule m (key_of (Counter c)) x → unless_blank rule m b ≡ Some x
      there x f =
          let is = f.is in
          let one : is.0 ≡ c = one_counter is.0 c (sym (ap row_key is.1) ∙ ap (λ q. q.1) f.stands) in
          when_full b f.full ∙ ap Some (ap (row.Counter c) (same_next c) ∙ (ap (λ d. row.Counter d (next_of m d)) (sym one) ∙ sym is.1))

      here : (x : StoredRow) → unless_blank rule m b ≡ Some x → IsThere rule m (key_of (Counter c)) x
      here x h = unless_there (key_of (Counter c)) b refl (subst (λ n. In (row.Counter c n) (all_rows rule m)) (sym (same_next c)) (has_counter rule m c)) x h

  under_settings : find row_cmp (key_of Settings) (stored rule m) ≡ row_of rule m Settings
  under_settings =
      stands_at rule m o k (key_of Settings) (row_of rule m Settings)
      (λ b f. when_full (row.Settings (rule_of rule)) f.full ∙ ap Some (sym f.is))
      (λ b h. unless_there (key_of Settings) (row.Settings (rule_of rule)) refl (has_settings rule m) b h)

  -- ---- what stands in a table

  module _ {X : Type 0} (at : RowKey) (v : Option X) (f : X → StoredRow) (stands : (x : X) → place (f x) ≡ at)
      (here : (x : X) → v ≡ Some x → In (f x) (all_rows rule m) × (is_blank rule m ≡ false))
      (there : (b : StoredRow) → IsFound rule m at b → (x : X) × (v ≡ Some x) × (b ≡ f x)) where
    is_there : (b : StoredRow) (w : Option X) → v ≡ w → option_map f w ≡ Some b → IsThere rule m at b
    is_there b None e h = absurd (none_some h)
    is_there b (Some x) e h =
        let g = here x e in
        let is : f x ≡ b = same_some h in
        record { row = subst (λ c. In c (all_rows rule m)) is g.0; stands = ap place (sym is) ∙ stands x; full = g.1 }

    under_table : find row_cmp at (stored rule m) ≡ option_map f v
    under_table = stands_at rule m o k at (option_map f v) (λ b g. let w = there b g in ap (option_map f) w.1 ∙ ap Some (sym w.2)) (λ b h. is_there b v refl h)

  under_provider : (p : Text) → find row_cmp (key_of (Provider p)) (stored rule m) ≡ row_of rule m (Provider p)
  under_provider p =
      under_table (key_of (Provider p)) (get m.providers p) (λ x. provider_row (p, x)) (λ x. refl) (λ x e. (has_provider rule m p x e, full_by_provider rule m p x e))
      (λ b f.
      let is = f.is in
      let one : is.0 ≡ p = sym (ap row_key is.3) ∙ ap (λ q. q.1) f.stands in
      (is.1, ap (get m.providers) (sym one) ∙ is.2, is.3 ∙ ap (λ q. provider_row (q, is.1)) one))

  under_text : (t : Text) → find row_cmp (key_of (Shelf t)) (stored rule m) ≡ row_of rule m (Shelf t)
  under_text t =
      under_table (key_of (Shelf t)) (get m.shelf t) (λ x. shelf_row (t, x)) (λ x. refl) (λ x e. (has_text rule m t x e, full_by_text rule m t x e))
      (λ b f.
      let is = f.is in
      let one : is.0 ≡ t = sym (ap row_key is.3) ∙ ap (λ q. q.1) f.stands in
      (is.1, ap (get m.shelf) (sym one) ∙ is.2, is.3 ∙ ap (λ q. shelf_row (q, is.1)) one))

  under_orphan : (r : Ref) → find row_cmp (key_of (Orphan r)) (stored rule m) ≡ row_of rule m (Orphan r)
  under_orphan r =
      under_table (key_of (Orphan r)) (get m.orphans r) (λ x. orphan_row (r, x)) (λ x. refl) (λ x e. (has_orphan rule m r x e, full_by_orphan rule m r x e))
      (λ b f.
      let is = f.is in
      let one : is.0 ≡ r = sym (ap row_key is.3) ∙ ap (λ q. q.1) f.stands in
      (is.1, ap (get m.orphans) (sym one) ∙ is.2, is.3 ∙ ap (λ q. orphan_row (q, is.1)) one))

  under_record : (r : Ref) → find row_cmp (key_of (Record r)) (stored rule m) ≡ row_of rule m (Record r)
  under_record r =
      let row_for : Recorded → StoredRow = λ x. record_row m.holders (emitted m.rows) (r, x) in
      let own_for : Recorded → StoredRow = λ x. record_with (get (arrivals_of m.rows r)) m.holders (r, x) in
      let same : own_for ≡ row_for = λ i x. same_record m o k r x i in
      under_table (key_of (Record r)) (get m.records r) row_for (λ x. refl) (λ x e. (has_record rule m r x e, full_by_record rule m r x e))
      (λ b f.
      let is = f.is in
      let one : is.0 ≡ r = sym (ap row_key is.3) ∙ ap (λ q. q.1) f.stands in
      (is.1, ap (get m.records) (sym one) ∙ is.2, is.3 ∙ ap (λ q. record_row m.holders (emitted m.rows) (q, is.1)) one))
      ∙ ap (λ (g : Recorded → StoredRow). option_map g (get m.records r)) (sym same)

  under_tree : (a : ℕ) → a < 2 ^ 64 → find row_cmp (key_of (Tree a)) (stored rule m) ≡ row_of rule m (Tree a)
  under_tree a fit =
      under_table (key_of (Tree a)) (row_at m.rows a) (λ x. row.Tree a x.offered.tree) (λ x. refl) (λ x e. (has_tree rule m a x e, full_by_row rule m k a x e))
      (λ b f.
      let is = f.is in
      let tree = is.1.offered.tree in
      let one : is.0 ≡ a = one_arrival is.0 a tree tree (fits m k is.0 is.1 is.2) fit (sym (ap row_key is.3) ∙ ap (λ q. q.1) f.stands) in
      (is.1, ap (row_at m.rows) (sym one) ∙ is.2, is.3 ∙ ap (λ n. row.Tree n tree) one))

  -- ---- an item

  module _ (p : Text) (r : Ref) (a : ℕ) (name : IsTrue (is_name p)) where
    item_there : (b : StoredRow) → IsFound rule m (key_of (Item p r a)) b → row_of rule m (Item p r a) ≡ Some b
    item_there b f =
        let is = f.is in
        let key = one_item is.2 p is.1.reference r (is_named m k is.0 is.1 is.2 is.3 is.4) name (sym (ap row_key is.5) ∙ ap (λ q. q.1) f.stands) in
        let from : is.1.origin ≡ OfProvider p = is.4 ∙ ap OfProvider key.0 in
        let some = some_or_none (item_among m.rows p r (a ∷ named m.rows r))
        (item_some m.rows p r (a ∷ named m.rows r) is.0 is.1 (inr (in_named m.rows r is.0 is.1 is.3 key.1)) is.3 from key.1) in
        let w : IsItem m.rows p r some.0 = item_is m.rows p r (a ∷ named m.rows r) some.0 some.1 in
        let same : w.arrival ≡ is.0 = k.offers.once w.arrival is.0 w.row is.1 w.at is.3 (w.from ∙ sym from) (w.names ∙ sym key.1) in
        let one : w.row ≡ is.1 = same_some (sym w.at ∙ (ap (row_at m.rows) same ∙ is.3)) in
        some.1 ∙ ap Some (w.is ∙ ((λ j. row.Item (sym key.0 j) (sym key.1 j) (same j) (one j).offered.key) ∙ sym is.5))

    item_here : (b : StoredRow) → row_of rule m (Item p r a) ≡ Some b → IsThere rule m (key_of (Item p r a)) b
    item_here b h =
        let w : IsItem m.rows p r b = item_is m.rows p r (a ∷ named m.rows r) b h in
        record {
          row = subst (λ c. In c (all_rows rule m)) (ap (λ q. row.Item p q w.arrival w.row.offered.key) w.names ∙ sym w.is) (has_item rule m w.arrival w.row p w.at w.from);
          stands = ap place w.is;
          full = full_by_row rule m k w.arrival w.row w.at;
        }

    under_item : find row_cmp (key_of (Item p r a)) (stored rule m) ≡ row_of rule m (Item p r a)
    under_item = stands_at rule m o k (key_of (Item p r a)) (row_of rule m (Item p r a)) item_there item_here

  pub under : (x : Place) → IsFit x → find row_cmp (key_of x) (stored rule m) ≡ row_of rule m x
  under (Counter c) fit = under_counter c
  under Settings fit = under_settings
  under (Provider p) fit = under_provider p
  under (Shelf t) fit = under_text t
  under (Record r) fit = under_record r
  under (Orphan r) fit = under_orphan r
  under (Tree a) fit = under_tree a fit
  under (Item p r a) fit = under_item p r a fit
