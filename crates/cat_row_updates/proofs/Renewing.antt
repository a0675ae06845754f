-- Rows with those of the reached places are the rows of the state after the event.
use Rattle.std.proofs.Common.{◌≡◌, ◌⊎◌, inl, inr, Bool, true, false, cond, not, ◌||◌, List, [], ◌∷◌, map, refl, sym, ap, subst, ◌∙◌, true≢false}
use Rattle.std.specs.declared.option.Option.{Option}
use Rattle.std.specs.declared.option.Option.TheVariants.{None, Some}
use Rattle.std.specs.FinMap.Entries.{find-put, is_sorted, same_entries}
use Rattle.std.specs.List.{list_any}
use Rattle.std.specs.Ordering.{eq_by_cmp}
use Rattle.cat_collections.specs.Table.{find, keys}
use Rattle.cat_collections.proofs.Rising.{put_rises, puts_rise, without_rises}
use Rattle.cat_collections.proofs.Tables.{found_key, same_is, same_self}
use Rattle.cat_model.proofs.Indexed.{find-without}
use Rattle.cat_model.specs.declared.types.OrphanRule.{OrphanRule}
use Rattle.cat_model.specs.declared.types.State.{State}
use Rattle.cat_keeper.specs.Store.{RowKey, row_cmp}
use Rattle.cat_row_format.specs.declared.row.StoredRow.{StoredRow}
use Rattle.cat_stored_rows.specs.Stored.{Stored, keyed, rows_of, stored}
use Rattle.cat_stored_rows.proofs.In.{In, found_in, found_in_puts, from_map, from_puts, in_map, none_some}
use Rattle.cat_stored_rows.proofs.Leading.{row_antisymmetric, row_total}
use Rattle.cat_row_updates.specs.Places.{Placed, key_of, keyed_place, places, put_places, renewed, row_of, set_row}
use Rattle.cat_row_updates.specs.Renewed.{AreSameBut, AreSorted, IsBeyond, IsKept}
use Rattle.cat_row_updates.specs.declared.place.Place.{Place}
use Rattle.cat_row_updates.specs.declared.reached.Reached.{Reached}
use Rattle.cat_row_updates.proofs.Apart.{all_fit, both_apart}
use Rattle.cat_row_updates.proofs.Beyond.{same_at}
use Rattle.cat_row_updates.proofs.Standing.{to_T}
use Rattle.cat_row_updates.proofs.Under.{under}

-- ---- one row that is set

module _ (rule : OrphanRule) (n : State) where
  find_set : (q key : RowKey) (v : Option StoredRow) (rows : Stored) → find row_cmp q (set_row key v rows) ≡ cond (eq_by_cmp row_cmp q key) v (find row_cmp q rows)
  find_set q key (Some b) rows = find-put row_cmp row_total q key b rows
  find_set q key None rows = find-without row_antisymmetric key q rows ∙ go (eq_by_cmp row_cmp key q) refl (eq_by_cmp row_cmp q key) refl
    where
      go : (a : Bool) → eq_by_cmp row_cmp key q ≡ a → (b : Bool) → eq_by_cmp row_cmp q key ≡ b → cond (not a) (find row_cmp q rows) None ≡ cond b None (find row_cmp q rows)
      go true e true f = refl
      go false e false f = refl
      go true e false f = absurd (true≢false (sym (ap (eq_by_cmp row_cmp q) (same_is row_total row_antisymmetric key q e) ∙ same_self row_total row_antisymmetric q) ∙ f))
      go false e true f = absurd (true≢false (sym (ap (eq_by_cmp row_cmp key) (same_is row_total row_antisymmetric q key f) ∙ same_self row_total row_antisymmetric key) ∙ e))

  set_rises : (key : RowKey) (v : Option StoredRow) (rows : Stored) → is_sorted row_cmp rows ≡ true → is_sorted row_cmp (set_row key v rows) ≡ true
  set_rises key None rows h = without_rises row_total key rows h
  set_rises key (Some b) rows h = put_rises row_total key b rows h

  renewed_rises : (placed : Placed) (rows : Stored) → is_sorted row_cmp rows ≡ true → is_sorted row_cmp (renewed rule n placed rows) ≡ true
  renewed_rises [] rows h = h
  renewed_rises (e ∷ placed) rows h = renewed_rises placed (set_row e.0 (row_of rule n e.1) rows) (set_rises e.0 (row_of rule n e.1) rows h)

  -- ---- all rows that are set

  module _ (next : Stored) where
    find_renewed : (placed : Placed) (rows : Stored) → ((e : RowKey × Place) → In e placed → row_of rule n e.1 ≡ find row_cmp e.0 next) → (q : RowKey)
        → find row_cmp q (renewed rule n placed rows) ≡ cond (list_any (eq_by_cmp row_cmp q) (keys placed)) (find row_cmp q next) (find row_cmp q rows)
    find_renewed [] rows are q = refl
    find_renewed (e ∷ placed) rows are q =
        find_renewed placed (set_row e.0 (row_of rule n e.1) rows) (λ d h. are d (inr h)) q
        ∙ (ap (λ v. cond (list_any (eq_by_cmp row_cmp q) (keys placed)) (find row_cmp q next) v) (find_set q e.0 (row_of rule n e.1) rows ∙ ap (λ v. cond (eq_by_cmp row_cmp q e.0) v (find row_cmp q rows)) (are e (inl refl)))
        ∙ go (eq_by_cmp row_cmp q e.0) refl (list_any (eq_by_cmp row_cmp q) (keys placed)))
      where
        go : (a : Bool) → eq_by_cmp row_cmp q e.0 ≡ a → (b : Bool)
            → cond b (find row_cmp q next) (cond a (find row_cmp e.0 next) (find row_cmp q rows)) ≡ cond (a || b) (find row_cmp q next) (find row_cmp q rows)
        go true h true = refl
        go true h false = ap (λ k. find row_cmp k next) (sym (same_is row_total row_antisymmetric q e.0 h))
        go false h b = refl

-- ---- the keys of places

module _ (ps : List Place) where
  abbrev its_keys : List RowKey
  its_keys = keys (put_places ps [])

  -- the key of each place is there
  key_there : (p : Place) → In p ps → list_any (eq_by_cmp row_cmp (key_of p)) its_keys ≡ true
  key_there p h =
      let f = found_in_puts row_total row_antisymmetric (map keyed_place ps) (key_of p) p (in_map keyed_place p ps h) in
      found_key row_total row_antisymmetric (key_of p) (put_places ps []) f.0 f.1

  -- no other is
  apart_from : (key : RowKey) → list_any (eq_by_cmp row_cmp key) its_keys ≡ false → (p : Place) → In p ps → key_of p ≡ key → ⊥
  apart_from key out p h is = true≢false (sym (ap (λ q. list_any (eq_by_cmp row_cmp q) its_keys) (sym is) ∙ key_there p h) ∙ out)

  -- and each place stands under its own
  entry_is : (e : RowKey × Place) → In e (put_places ps []) → In e.1 ps × (e.0 ≡ key_of e.1)
  entry_is e h =
      go (from_puts row_total row_antisymmetric (map keyed_place ps) [] e.0 e.1
      (found_in row_total row_antisymmetric (put_places ps []) (to_T _ (puts_rise row_total (map keyed_place ps) [] refl)) e.0 e.1 h))
    where
      go : In (e.0, e.1) (map keyed_place ps) ⊎ (None ≡ Some e.1) → In e.1 ps × (e.0 ≡ key_of e.1)
      go (inl g) =
          let w = from_map keyed_place (e.0, e.1) ps g in
          let is : e.1 ≡ w.0 = ap (λ d. d.1) w.2 in
          (subst (λ p. In p ps) (sym is) w.1, ap (λ d. d.0) w.2 ∙ ap key_of (sym is))
      go (inr none) = absurd (none_some none)

-- ---- the whole

module _ (rule : OrphanRule) (x : Reached) (m n : State) (beyond : IsBeyond x m n) (k : IsKept m) (l : IsKept n) (o : AreSorted m) (u : AreSorted n) where
  abbrev placed : Placed
  placed = put_places (places x m n) []

  -- at each key that isn't among those of what was reached, the rows of both states are the same
  pub same_but : AreSameBut (keys placed) (stored rule m) (stored rule n)
  same_but key out = let w = both_apart x m n key (apart_from (places x m n) key out) in same_at rule x m n key beyond w.0 w.1 o u k l

  stored_rises : (s : State) → is_sorted row_cmp (stored rule s) ≡ true
  unfolding stored
  stored_rises s = puts_rise row_total (map keyed (rows_of rule s)) [] refl

  each_row : (e : RowKey × Place) → In e placed → row_of rule n e.1 ≡ find row_cmp e.0 (stored rule n)
  each_row e h =
      let w = entry_is (places x m n) e h in
      sym (under rule n u l e.1 (all_fit x m n k l e.1 w.0)) ∙ ap (λ q. find row_cmp q (stored rule n)) (sym w.1)

  same_found : (q : RowKey) → find row_cmp q (renewed rule n placed (stored rule m)) ≡ find row_cmp q (stored rule n)
  same_found q = find_renewed rule n (stored rule n) placed (stored rule m) each_row q ∙ go (list_any (eq_by_cmp row_cmp q) (keys placed)) refl
    where
      go : (b : Bool) → list_any (eq_by_cmp row_cmp q) (keys placed) ≡ b → cond b (find row_cmp q (stored rule n)) (find row_cmp q (stored rule m)) ≡ find row_cmp q (stored rule n)
      go true e = refl
      go false e = sym (same_but q e)

  -- the rows that are made are those of the state after the event
  pub renews : renewed rule n placed (stored rule m) ≡ stored rule n
  renews =
      same_entries row_cmp row_total row_antisymmetric (renewed rule n placed (stored rule m)) (stored rule n)
      (to_T _ (renewed_rises rule n placed (stored rule m) (stored_rises m))) (to_T _ (stored_rises n)) same_found

  pub made_so : (there : Placed) (rows made : Stored) → there ≡ placed → rows ≡ stored rule m → made ≡ renewed rule n there rows → made ≡ stored rule n
  made_so there rows made is was e = e ∙ ((λ i. renewed rule n (is i) (was i)) ∙ renews)

  pub told_so : (ks : List RowKey) (rows made : Stored) → ks ≡ keys placed → rows ≡ stored rule m → made ≡ stored rule n → AreSameBut ks rows made
  told_so ks rows made is was e =
      λ key out. ap (find row_cmp key) e
      ∙ (same_but key (ap (λ l. list_any (eq_by_cmp row_cmp key) l) (sym is) ∙ out) ∙ ap (find row_cmp key) (sym was))
