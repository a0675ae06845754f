-- What is found in rows after changes.
use Rattle.std.proofs.Common.{T, ◌≡◌, Bool, true, false, cond, not, [], ◌∷◌, refl, sym, ap, ◌∙◌, true≢false, Ordering, Less, Equal, Greater}
use Rattle.std.specs.declared.option.Option.{Option}
use Rattle.std.specs.declared.option.Option.TheVariants.{None, Some}
use Rattle.std.specs.FinMap.Entries.{below_all, find-put, find-where_key, is_sorted, is_sorted-put, is_sorted-where_key}
use Rattle.std.specs.Ordering.{eq_by_cmp, is_eq, is_lt, ordering_reverse}
use Rattle.cat_collections.specs.Table.{Text, find}
use Rattle.cat_collections.proofs.Tables.{and_first, and_second, same_is}
use Rattle.cat_keeper.specs.Store.{Changes, RowKey, Rows, applied, changed, row_cmp}
use Rattle.cat_keeper.specs.declared.rows.Change.{Change}
use Rattle.cat_keeper.specs.declared.rows.Change.TheVariants.{Put, Gone}
use Rattle.cat_stored_rows.proofs.Leading.{row_antisymmetric, row_total}
use Rattle.cat_stored_rows.specs.Differing.{text_after}

-- what stands at a key after the change that there is, or none
abbrev pub after : Option Change → Option Text → Option Text
after None text = text
after (Some change) text = text_after change

pub same_key : (j k : RowKey) → eq_by_cmp row_cmp j k ≡ true → j ≡ k
same_key = same_is row_total row_antisymmetric

turned : (o : Ordering) → is_eq (ordering_reverse o) ≡ is_eq o
turned Less = refl
turned Equal = refl
turned Greater = refl

same_sym : (j k : RowKey) → eq_by_cmp row_cmp j k ≡ eq_by_cmp row_cmp k j
same_sym j k = ap is_eq (row_total.antisymm j k) ∙ turned (row_cmp k j)

unless : (b : Bool) (v : Option Text) → cond (not b) v None ≡ cond b None v
unless true v = refl
unless false v = refl

find-changed : (q k : RowKey) (c : Change) (rows : Rows) → find row_cmp q (changed k c rows) ≡ cond (eq_by_cmp row_cmp q k) (text_after c) (find row_cmp q rows)
find-changed q k (Put text) rows = find-put row_cmp row_total q k text rows
find-changed q k Gone rows =
    find-where_key row_cmp (λ x. not (eq_by_cmp row_cmp k x)) q (λ x e. ap (λ y. not (eq_by_cmp row_cmp k y)) (sym (row_antisymmetric q x e))) rows
    ∙ (ap (λ b. cond (not b) (find row_cmp q rows) None) (same_sym k q)
    ∙ unless (eq_by_cmp row_cmp q k) (find row_cmp q rows))

find-below : (k : RowKey) (cs : Changes) → below_all row_cmp k cs ≡ true → find row_cmp k cs ≡ None
find-below k [] h = refl
find-below k (c ∷ cs) h =
    go (row_cmp k c.0) (and_first (is_lt (row_cmp k c.0)) (below_all row_cmp k cs) h) (find-below k cs (and_second (is_lt (row_cmp k c.0)) (below_all row_cmp k cs) h))
  where
    go : (o : Ordering) → is_lt o ≡ true → find row_cmp k cs ≡ None → cond (is_eq o) (Some c.1) (find row_cmp k cs) ≡ None
    go Less p ih = ih
    go Equal p ih = absurd (true≢false (sym p))
    go Greater p ih = ih

-- at a key stands what its change leaves, and what stood there where there is none
pub find-applied : (cs : Changes) (rows : Rows) (q : RowKey) → is_sorted row_cmp cs ≡ true → find row_cmp q (applied cs rows) ≡ after (find row_cmp q cs) (find row_cmp q rows)
find-applied [] rows q h = refl
find-applied (c ∷ cs) rows q h =
    find-applied cs (changed c.0 c.1 rows) q (and_second (below_all row_cmp c.0 cs) (is_sorted row_cmp cs) h)
    ∙ (ap (after (find row_cmp q cs)) (find-changed q c.0 c.1 rows) ∙ go (eq_by_cmp row_cmp q c.0) refl)
  where
    none : find row_cmp c.0 cs ≡ None
    none = find-below c.0 cs (and_first (below_all row_cmp c.0 cs) (is_sorted row_cmp cs) h)

    go : (b : Bool) → eq_by_cmp row_cmp q c.0 ≡ b
        → after (find row_cmp q cs) (cond b (text_after c.1) (find row_cmp q rows)) ≡ after (cond b (Some c.1) (find row_cmp q cs)) (find row_cmp q rows)
    go true e = ap (λ v. after v (text_after c.1)) (ap (λ k. find row_cmp k cs) (same_key q c.0 e) ∙ none)
    go false e = refl

sorted-changed : (k : RowKey) (c : Change) (rows : Rows) → T (is_sorted row_cmp rows) → T (is_sorted row_cmp (changed k c rows))
sorted-changed k (Put text) rows h = is_sorted-put row_cmp row_total k text rows h
sorted-changed k Gone rows h = is_sorted-where_key row_cmp (λ x. not (eq_by_cmp row_cmp k x)) rows h

pub sorted-applied : (cs : Changes) (rows : Rows) → T (is_sorted row_cmp rows) → T (is_sorted row_cmp (applied cs rows))
sorted-applied [] rows h = h
sorted-applied (c ∷ cs) rows h = sorted-applied cs (changed c.0 c.1 rows) (sorted-changed c.0 c.1 rows h)
