-- What is found among the rows of a state is what stands in the state, at its place.
use Rattle.std.proofs.Common.{◌≡◌, ℕ, Bool, true, false, [], map, refl, sym, ap, subst, ◌∙◌}
use Rattle.std.specs.declared.option.Option.{Option}
use Rattle.std.specs.declared.option.Option.TheVariants.{None, Some}
use Rattle.std.specs.Option.{option_and_then}
use Rattle.cat_collections.specs.Table.{Map, Text, find, get}
use Rattle.cat_types.specs.declared.work.Output.{Output}
use Rattle.cat_model.specs.Catalogue.{Ref, row_at}
use Rattle.cat_model.specs.Sound.{offered}
use Rattle.cat_model.specs.declared.types.Origin.{Origin}
use Rattle.cat_model.specs.declared.types.Origin.TheVariants.{Provider as OfProvider, Entity}
use Rattle.cat_model.specs.declared.types.Orphan.{Orphan}
use Rattle.cat_model.specs.declared.types.OrphanRule.{OrphanRule}
use Rattle.cat_model.specs.declared.types.ProviderInputs.{ProviderInputs}
use Rattle.cat_model.specs.declared.types.Record.{Record as Recorded}
use Rattle.cat_model.specs.declared.types.Row.{Row}
use Rattle.cat_model.specs.declared.types.State.{State}
use Rattle.cat_keeper.specs.Store.{RowKey, row_cmp}
use Rattle.cat_row_format.specs.declared.row.StoredRow.{StoredRow}
use Rattle.cat_stored_rows.specs.Stored.{all_rows, is_blank, keyed, put_rows, rows_of, stored}
use Rattle.cat_stored_rows.proofs.In.{In, alike, found_puts, from_map, in_map, none_some}
use Rattle.cat_stored_rows.proofs.Leading.{row_antisymmetric, row_total}
use Rattle.cat_row_updates.proofs.Rows.{found_row, place}
use Rattle.cat_row_updates.proofs.Same.{IsBlank, blank, no_rows, rows_are}
use Rattle.cat_row_updates.proofs.Views.{Is}
use Rattle.cat_row_updates.specs.Renewed.{AreSorted, IsKept}
use Rattle.cat_row_updates.proofs.Standing.{all_apart, what_is}

-- ---- a state in which something stands isn't blank

nothing : {X : Type 0} (table : Map X) (q : Text) (x : X) → table ≡ [] → get table q ≡ Some x → ⊥
nothing table q x none f = none_some (sym (ap (λ t. get t q) none) ∙ f)

module _ (rule : OrphanRule) (m : State) where
  not_blank : (IsBlank rule m → ⊥) → is_blank rule m ≡ false
  not_blank never = go (is_blank rule m) refl
    where
      go : (v : Bool) → is_blank rule m ≡ v → v ≡ false
      go true e = absurd (never (blank rule m e))
      go false e = refl

  pub full_by_provider : (p : Text) (x : ProviderInputs) → get m.providers p ≡ Some x → is_blank rule m ≡ false
  full_by_provider p x f = not_blank (λ b. nothing m.providers p x b.providers f)

  pub full_by_text : (name body : Text) → get m.shelf name ≡ Some body → is_blank rule m ≡ false
  full_by_text name body f = not_blank (λ b. nothing m.shelf name body b.shelf f)

  pub full_by_record : (r : Ref) (x : Recorded) → get m.records r ≡ Some x → is_blank rule m ≡ false
  full_by_record r x f = not_blank (λ b. nothing m.records r x b.records f)

  pub full_by_orphan : (r : Ref) (x : Orphan) → get m.orphans r ≡ Some x → is_blank rule m ≡ false
  full_by_orphan r x f = not_blank (λ b. nothing m.orphans r x b.orphans f)

  nothing_offered : IsBlank rule m → (o : Origin) (r : Ref) → offered m o r ≡ None
  nothing_offered b (OfProvider p) r = ap (λ providers. option_and_then (λ (x : ProviderInputs). get x.items r) (get providers p)) b.providers
  nothing_offered b (Entity e) r = ap (λ records. option_and_then (λ (x : Output). get x.offers r) (option_and_then (λ (x : Recorded). x.output) (get records e))) b.records

  pub full_by_row : IsKept m → (a : ℕ) (row : Row) → row_at m.rows a ≡ Some row → is_blank rule m ≡ false
  full_by_row k a row f = not_blank (λ b. none_some (sym (nothing_offered b row.origin row.reference) ∙ k.offers.given a row f))

  -- ---- what is found, and what can be

  -- a row is found at a place: it is made of what stands in the state, which isn't blank
  pub record IsFound (at : RowKey) (b : StoredRow) : Type 0 where
    pub is : Is rule m at.0 b
    pub stands : place b ≡ at
    pub full : is_blank rule m ≡ false

  -- a row of a state that isn't blank has this place
  pub record IsThere (at : RowKey) (b : StoredRow) : Type 0 where
    pub row : In b (all_rows rule m)
    pub stands : place b ≡ at
    pub full : is_blank rule m ≡ false

  its_rows : (v : Bool) → is_blank rule m ≡ v → (b : StoredRow) → In b (rows_of rule m) → (is_blank rule m ≡ false) × In b (all_rows rule m)
  its_rows true e b h = let none : In b [] = subst (λ l. In b l) (no_rows rule m e) h in absurd none
  its_rows false e b h = (e, subst (λ l. In b l) (rows_are rule m e) h)

  module _ (o : AreSorted m) where
    pub found_is : (at : RowKey) (b : StoredRow) → find row_cmp at (stored rule m) ≡ Some b → IsFound at b
    unfolding stored
    found_is at b f =
        let row = found_row (rows_of rule m) at b f in
        let all = its_rows (is_blank rule m) refl b row.0 in
        record { is = subst (λ s. Is rule m s b) (ap (λ q. q.0) row.1) (what_is rule m o b all.1); stands = row.1; full = all.0 }

    module _ (k : IsKept m) where
      finds_all : is_blank rule m ≡ false → (b : StoredRow) → In b (all_rows rule m) → find row_cmp (place b) (stored rule m) ≡ Some b
      unfolding stored
      finds_all full b h =
          ap (λ rows. find row_cmp (place b) (put_rows rows [])) (rows_are rule m full)
          ∙ found_puts row_total row_antisymmetric (map keyed (all_rows rule m)) (place b) b alone (in_map keyed b (all_rows rule m) h)
        where
          alone : (c : StoredRow) → In (place b, c) (map keyed (all_rows rule m)) → c ≡ b
          alone c g =
              let from = from_map keyed (place b, c) (all_rows rule m) g in
              let is : c ≡ from.0 = ap (λ e. e.1) from.2 in
              is ∙ sym (all_apart rule m k o b from.0 h from.1 (ap (λ e. e.0) from.2))

      pub finds : (at : RowKey) (b : StoredRow) → IsThere at b → find row_cmp at (stored rule m) ≡ Some b
      finds at b h = subst (λ q. find row_cmp q (stored rule m) ≡ Some b) h.stands (finds_all h.full b h.row)

      -- what is found at a place is what is there
      pub stands_at : (at : RowKey) (v : Option StoredRow) → ((b : StoredRow) → IsFound at b → v ≡ Some b) → ((b : StoredRow) → v ≡ Some b → IsThere at b) → find row_cmp at (stored rule m) ≡ v
      stands_at at v there here = alike (find row_cmp at (stored rule m)) v (λ b f. there b (found_is at b f)) (λ b e. finds at b (here b e))
