-- The rows of a state are none of a store of the first version.
use Rattle.std.proofs.Common.{◌≡◌, suc, ◌-◌, Bool, true, false, ◌&&◌, List, [], ◌∷◌, length, map, refl, sym, ap, ◌∙◌, inl, inr, true≢false, Less, arith}
use Rattle.std.specs.Prelude.{codes, if◌then◌else◌, slice_get}
use Rattle.std.specs.declared.option.Option.TheVariants.{Some}
use Rattle.std.specs.FinMap.Entries.{below_all, is_sorted}
use Rattle.std.specs.Ordering.{is_lt}
use Rattle.cat_collections.specs.Table.{Text}
use Rattle.cat_collections.proofs.Rising.{puts_rise}
use Rattle.cat_collections.proofs.Tables.{and_first, and_second}
use Rattle.cat_model.specs.declared.types.OrphanRule.{OrphanRule}
use Rattle.cat_model.specs.declared.types.State.{State}
use Rattle.cat_keeper.specs.Store.{RowKey, Rows, row_cmp}
use Rattle.cat_keeper.specs.declared.table.Table.{Table}
use Rattle.cat_keeper.specs.declared.table.Table.TheVariants as table
use Rattle.cat_row_format.specs.declared.row.StoredRow.{StoredRow}
use Rattle.cat_row_format.specs.declared.row.StoredRow.TheVariants.{Settings}
use Rattle.cat_stored_rows.specs.Opened.{is_first, is_of_first, is_row_of_first}
use Rattle.cat_stored_rows.specs.Stored.{Stored, all_rows, is_blank, keyed, put_rows, rule_of, stored, text_in, texts_of}
use Rattle.cat_stored_rows.proofs.Leading.{row_antisymmetric, row_total}
use Rattle.cat_stored_rows.proofs.In.{In, in_map, in_puts, less_is}
use Rattle.cat_row_updates.proofs.Views.{has_settings}

-- the last of these
abbrev pub last : {A : Type 0} → A → List A → A
last x [] = x
last x (y ∷ ys) = last y ys

pub last_at : {A : Type 0} (x : A) (xs : List A) → slice_get (x ∷ xs) (length xs) ≡ Some (last x xs)
last_at x [] = refl
last_at x (y ∷ ys) = last_at y ys

-- a table behind one of the second version's own is one of them
behind : (j k : RowKey) → row_cmp j k ≡ Less → is_of_first j.0 ≡ false → is_of_first k.0 ≡ false
behind j k l h = go j.0 k.0 (j.1, k.1) l h
  where
    go : (s t : Table) (keys : Text × Text) → row_cmp (s, keys.0) (t, keys.1) ≡ Less → is_of_first s ≡ false → is_of_first t ≡ false
    go table.Settings table.Settings keys l h = refl
    go table.Settings table.Trees keys l h = refl
    go table.Settings t keys l h = absurd (cc)
    go table.Trees table.Trees keys l h = refl
    go table.Trees t keys l h = absurd (cc)
    go s t keys l h = absurd (true≢false h)

-- where a table of the second version has a row, the last row is one of such a table
last_is : (e x : RowKey × Text) (xs : Rows) → is_sorted row_cmp (x ∷ xs) ≡ true → In e (x ∷ xs) → is_of_first e.0.0 ≡ false → is_of_first (last x xs).0.0 ≡ false
last_is e x [] s (inl is) h = ap (λ (d : RowKey × Text). is_of_first d.0.0) (sym is) ∙ h
last_is e x [] s (inr g) h = absurd g
last_is e x (y ∷ ys) s (inr g) h = last_is e y ys (and_second (below_all row_cmp x.0 (y ∷ ys)) _ s) g h
last_is e x (y ∷ ys) s (inl is) h =
    let below : row_cmp x.0 y.0 ≡ Less = less_is (row_cmp x.0 y.0) (and_first _ _ (and_first _ _ s)) in
    let next : is_of_first y.0.0 ≡ false = behind x.0 y.0 below (ap (λ (d : RowKey × Text). is_of_first d.0.0) (sym is) ∙ h) in
    last_is y y ys (and_second (below_all row_cmp x.0 (y ∷ ys)) _ s) (inl refl) next

not_first : (e : RowKey × Text) (rows : Rows) → is_sorted row_cmp rows ≡ true → In e rows → is_of_first e.0.0 ≡ false → is_first rows ≡ false
not_first e [] s g h = absurd g
not_first e (x ∷ xs) s g h =
    let place : suc (length xs) - 1 ≡ length xs = omega arith in
    ap (λ i. is_row_of_first (slice_get (x ∷ xs) i)) place ∙ (ap is_row_of_first (last_at x xs) ∙ last_is e x xs s g h)

-- ---- the rows of a state

told_below : (k : RowKey) (es : Stored) → below_all row_cmp k (texts_of es) ≡ below_all row_cmp k es
told_below k [] = refl
told_below k (e ∷ es) = ap (λ b. is_lt (row_cmp k e.0) && b) (told_below k es)

told_sorted : (es : Stored) → is_sorted row_cmp (texts_of es) ≡ is_sorted row_cmp es
told_sorted [] = refl
told_sorted (e ∷ es) = λ i. told_below e.0 es i && told_sorted es i

-- rows with settings
with_settings : (rule : OrphanRule) (rows : List StoredRow) → In (Settings (rule_of rule)) rows → is_first (texts_of (put_rows rows [])) ≡ false
with_settings rule rows h =
    let place : RowKey = (table.Settings, codes "store") in
    let found = in_puts row_total row_antisymmetric (map keyed rows) place (Settings (rule_of rule)) (in_map keyed (Settings (rule_of rule)) rows h) in
    not_first (place, text_in found.0) (texts_of (put_rows rows []))
    (told_sorted (put_rows rows []) ∙ puts_rise row_total (map keyed rows) [] refl)
    (in_map (λ e. (e.0, text_in e.1)) (place, found.0) (put_rows rows []) found.1) refl

pub stored_not_first : (rule : OrphanRule) (m : State) → is_first (texts_of (stored rule m)) ≡ false
unfolding stored
stored_not_first rule m = go (is_blank rule m)
  where
    go : (b : Bool) → is_first (texts_of (put_rows (if b then [] else all_rows rule m) [])) ≡ false
    go true = refl
    go false = with_settings rule (all_rows rule m) (has_settings rule m)
