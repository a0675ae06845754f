-- Each step of a walk makes no change that isn't needed.
use Rattle.std.proofs.Common.{◌≡◌, inl, inr, ℕ, zero, suc, ◌+◌, Bool, true, false, cond, List, [], ◌∷◌, ◌++◌, take, drop, refl, sym, ap, subst, ◌∙◌, take-append-drop}
use Rattle.std.specs.Prelude.{slice_get, IsTrue, T}
use Rattle.std.specs.declared.option.Option.TheVariants.{None, Some}
use Rattle.std.specs.FinMap.Entries.{below_all, find-put, is_sorted}
use Rattle.std.specs.Ordering.{eq_by_cmp, is_eq}
use Rattle.cat_collections.specs.Table.{Text, find, put}
use Rattle.cat_collections.proofs.Sides.{drop_get}
use Rattle.cat_collections.proofs.Tables.{same_self}
use Rattle.cat_keeper.specs.Store.{RowKey, Changes, row_cmp}
use Rattle.cat_keeper.specs.declared.rows.Change.{Change}
use Rattle.cat_keeper.specs.declared.rows.Change.TheVariants.{Put, Gone}
use Rattle.cat_stored_rows.specs.Differing.{AreNeeded}
use Rattle.cat_stored_rows.specs.Walk.{HasCome, Precede}
use Rattle.cat_stored_rows.proofs.Finding.{same_key}
use Rattle.cat_stored_rows.proofs.In.{In, found_in, none_some, same_some}
use Rattle.cat_stored_rows.proofs.Leading.{Above, above_last, begins, first, is_less, precede_more, precede_rest, row_antisymmetric, row_total, second}
use Rattle.cat_stored_rows.proofs.Walking.{came_new, left_old, rest_above, stayed_both, take_get, turned_both}

-- changes between rows and themselves are none
pub none_needed : {X : Type 0} (rows : List (RowKey × X)) (b : Changes) → AreNeeded rows rows b → b ≡ []
none_needed rows [] h = refl
none_needed rows (c ∷ b) h =
    absurd (none_some (sym (h c.0 refl) ∙ ap (λ t. cond t (Some c.1) (find row_cmp c.0 b)) (same_self row_total row_antisymmetric c.0)))

-- where all rows stay as they are, no change is needed
pub no_changes : {X : Type 0} (old new : List (RowKey × X)) (b : Changes) → AreNeeded old new b → new ≡ old → b ≡ []
no_changes {X = X} old new b h e = none_needed old b (subst (λ (rows : List (RowKey × X)). AreNeeded old rows b) e h)

-- a change at a key whose row doesn't stay is needed
pub one_needed : {X : Type 0} (old new : List (RowKey × X)) (b : Changes) (k : RowKey) (c : Change) → AreNeeded old new b → (find row_cmp k new ≡ find row_cmp k old → ⊥) → AreNeeded old new (put row_cmp k c b)
one_needed old new b k c h differ q same = find-put row_cmp row_total q k c b ∙ at (eq_by_cmp row_cmp q k) refl
  where
    at : (t : Bool) → eq_by_cmp row_cmp q k ≡ t → cond t (Some c) (find row_cmp q b) ≡ None
    at true e = absurd (differ (subst (λ (j : RowKey). find row_cmp j new ≡ find row_cmp j old) (same_key q k e) same))
    at false e = h q same

module _ {X : Type 0} where
  in_place : (rows : List (RowKey × X)) (i : ℕ) (e : RowKey × X) → slice_get rows i ≡ Some e → In e rows
  in_place [] i e h = absurd (cc)
  in_place (x ∷ rows) zero e h = inl (sym (same_some h))
  in_place (x ∷ rows) (suc i) e h = inr (in_place rows i e h)

  -- what stands at a place is found under its key
  at_place : (rows : List (RowKey × X)) (i : ℕ) (e : RowKey × X) → IsTrue (is_sorted row_cmp rows) → slice_get rows i ≡ Some e → find row_cmp e.0 rows ≡ Some e.1
  at_place rows i e h at = found_in row_total row_antisymmetric rows (subst T (sym h) tt) e.0 e.1 (in_place rows i e at)

  under : (k : RowKey) (rest : List (RowKey × X)) → below_all row_cmp k rest ≡ true → find row_cmp k rest ≡ None
  under k [] low = refl
  under k (e ∷ rest) low = ap (λ o. cond (is_eq o) (Some e.1) (find row_cmp k rest)) (is_less (row_cmp k e.0) (first _ _ low)) ∙ under k rest (second _ _ low)

  beyond : (k : RowKey) (es rest : List (RowKey × X)) → Above row_cmp k es → below_all row_cmp k rest ≡ true → find row_cmp k (es ++ rest) ≡ None
  beyond k [] rest h low = under k rest low
  beyond k (e ∷ es) rest h low = ap (λ o. cond (is_eq o) (Some e.1) (find row_cmp k (es ++ rest))) h.0 ∙ beyond k es rest h.1 low

  -- a key above all that was passed and below all that is left isn't there
  nowhere : (k : RowKey) (rows : List (RowKey × X)) (i : ℕ) → Above row_cmp k (take i rows) → below_all row_cmp k (drop i rows) ≡ true → find row_cmp k rows ≡ None
  nowhere k rows i h low = ap (find row_cmp k) (sym (take-append-drop i rows)) ∙ beyond k (take i rows) (drop i rows) h low

  -- what precedes what is left precedes what stands at that place
  precede_at : {V : Type 0} (es : List (RowKey × V)) (rows : List (RowKey × X)) (i : ℕ) (e : RowKey × X) → slice_get rows i ≡ Some e → Precede es (drop i rows) → Precede es (e ∷ drop (i + 1) rows)
  precede_at es rows i e at h = subst (λ (l : List (RowKey × X)). Precede es l) (drop_get rows i e at) h

  -- one more row was passed
  passed : (rows : List (RowKey × X)) (i : ℕ) (e : RowKey × X) (left : List (RowKey × X)) → slice_get rows i ≡ Some e → Precede (take i rows) left → below_all row_cmp e.0 left ≡ true → Precede (take (i + 1) rows) left
  passed rows i e left at h low = subst (λ (l : List (RowKey × X)). Precede l left) (sym (take_get rows i e at)) (precede_more (take i rows) e left h low)

  module _ (told : X → Text) (old new : List (RowKey × X)) (from to : ℕ) (b c : Changes) where
    abbrev Come : Changes → ℕ → ℕ → Type 0
    Come changes i j = HasCome told old new (record { from = i; to = j; batch = changes })

    pub leaves : (w : RowKey × X) → IsTrue (is_sorted row_cmp old) → Come b from to → slice_get old from ≡ Some w → below_all row_cmp w.0 (drop to new) ≡ true
        → c ≡ put row_cmp w.0 Gone b → Come c (from + 1) to
    leaves w h come at high is = record {
      leads = left_old told old new from to b c w h come.leads at high is;
      needed =
          subst (AreNeeded old new) (sym is)
          (one_needed old new b w.0 Gone come.needed
          (λ same. none_some
          (sym (nowhere w.0 new to (above_last (take to new) w (drop (from + 1) old) (precede_at (take to new) old from w at come.leads.passed_old)) high)
          ∙ (same ∙ at_place old from w h at))));
      gone = passed old from w (drop to new) at come.gone high;
    }

    pub enters : (n : RowKey × X) → IsTrue (is_sorted row_cmp new) → Come b from to → slice_get new to ≡ Some n → below_all row_cmp n.0 (drop from old) ≡ true
        → c ≡ put row_cmp n.0 (Put (told n.1)) b → Come c from (to + 1)
    enters n h come at low is =
        let gone : Precede (take from old) (n ∷ drop (to + 1) new) = precede_at (take from old) new to n at come.gone in
        record {
          leads = came_new told old new from to b c n h come.leads at low is;
          needed =
              subst (AreNeeded old new) (sym is)
              (one_needed old new b n.0 (Put (told n.1)) come.needed
              (λ same. none_some (sym (nowhere n.0 old from (above_last (take from old) n (drop (to + 1) new) gone) low) ∙ (sym same ∙ at_place new to n h at))));
          gone = precede_rest (take from old) n (drop (to + 1) new) gone;
        }

    module _ (w n : RowKey × X) (g : IsTrue (is_sorted row_cmp old)) (h : IsTrue (is_sorted row_cmp new)) (come : Come b from to) (at : slice_get old from ≡ Some w) (on : slice_get new to ≡ Some n) (key : w.0 ≡ n.0) where
      both_gone : Precede (take (from + 1) old) (drop (to + 1) new)
      both_gone =
          passed old from w (drop (to + 1) new) at
          (precede_rest (take from old) n (drop (to + 1) new) (precede_at (take from old) new to n on come.gone))
          (subst (λ (k : RowKey). below_all row_cmp k (drop (to + 1) new) ≡ true) (sym key) (rest_above new to n h on))

      pub turns : (w.1 ≡ n.1 → ⊥) → c ≡ put row_cmp n.0 (Put (told n.1)) b → Come c (from + 1) (to + 1)
      turns differ is = record {
        leads = turned_both told old new from to b c w n g h come.leads at on key is;
        needed =
            subst (AreNeeded old new) (sym is)
            (one_needed old new b n.0 (Put (told n.1)) come.needed
            (λ same. differ (same_some (sym (at_place old from w g at) ∙ (ap (λ k. find row_cmp k old) key ∙ (sym same ∙ at_place new to n h on))))));
        gone = both_gone;
      }

      pub stays : w.1 ≡ n.1 → c ≡ b → Come c (from + 1) (to + 1)
      stays same is = record {
        leads = stayed_both told old new from to b c w n g h come.leads at on key (ap told same) is;
        needed = subst (AreNeeded old new) (sym is) come.needed;
        gone = both_gone;
      }

  pub starts : (told : X → Text) (old new : List (RowKey × X)) → HasCome told old new (record { from = 0; to = 0; batch = [] })
  starts told old new = record { leads = begins told old new; needed = λ k h. refl; gone = tt }
