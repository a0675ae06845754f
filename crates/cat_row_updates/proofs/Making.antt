-- Tables that are made of entries.
use Rattle.std.proofs.Common.{T, ◌≡◌, ◌⊎◌, inl, inr, ℕ, Bool, true, false, cond, List, [], ◌∷◌, refl, sym, ap, subst, ◌∙◌, is_some, unwrap_or, true≢false, Ordering}
use Rattle.std.specs.Prelude.{if◌then◌else◌}
use Rattle.std.specs.declared.option.Option.{Option}
use Rattle.std.specs.declared.option.Option.TheVariants.{None, Some}
use Rattle.std.specs.Cmp.{IsTotalOrder, nat_cmp_total}
use Rattle.std.specs.FinMap.{IsAntisymmetric, nat_cmp-IsAntisymmetric}
use Rattle.std.specs.FinMap.Entries.{find-put, is_sorted}
use Rattle.std.specs.Ordering.{eq_by_cmp, nat_cmp}
use Rattle.cat_collections.specs.Table.{Map, Text, find, get, put, puts, same_text, text_cmp}
use Rattle.cat_collections.proofs.Rising.{put_rises, puts_rise}
use Rattle.cat_collections.proofs.Tables.{find-put_other, find-put_same, none_or_some, same_is, same_self, some_or_none, text_antisymmetric, text_total}
use Rattle.cat_types.specs.declared.input.Offered.{Offered}
use Rattle.cat_model.specs.Catalogue.{Rows, row_at}
use Rattle.cat_model.specs.declared.types.Row.{Row}
use Rattle.cat_stored_rows.proofs.In.{In, found_puts, from_puts, none_some, same_some, same_table}
use Rattle.cat_row_format.specs.declared.row.StoredRow.{StoredRow}
use Rattle.cat_row_reader.specs.Standing.{told_by, with_row, with_rows}

pub to_T : (b : Bool) → b ≡ true → T b
to_T true h = tt
to_T false h = absurd (true≢false (sym h))

-- ---- entries that are put

module _ {K X : Type 0} {R : K → K → Ordering} (o : IsTotalOrder R) (s : IsAntisymmetric R) where
  -- entries make the table in which each of them is found, and of which each entry is one of them
  pub puts_make : (es m : List (K × X)) → T (is_sorted R m) → ((e : K × X) → In e es → find R e.0 m ≡ Some e.1) → ((k : K) (x : X) → find R k m ≡ Some x → In (k, x) es) → puts R es [] ≡ m
  puts_make es m h there back =
      same_table o s (puts R es []) m (to_T _ (puts_rise o es [] refl)) h over
      (λ k x f. found_puts o s es k x (λ y g. same_some (sym (there (k, y) g) ∙ f)) (back k x f))
    where
      over : (k : K) (x : X) → find R k (puts R es []) ≡ Some x → find R k m ≡ Some x
      over k x f = go (from_puts o s es [] k x f)
        where
          go : In (k, x) es ⊎ (None ≡ Some x) → find R k m ≡ Some x
          go (inl g) = there (k, x) g
          go (inr e) = absurd (none_some e)

-- ---- rows that are added

row_rises : (b : Bool) (a : ℕ) (row : Row) (rows : Rows) → is_sorted nat_cmp rows ≡ true → is_sorted nat_cmp (if b then rows else put nat_cmp a row rows) ≡ true
row_rises true a row rows h = h
row_rises false a row rows h = put_rises nat_cmp_total a row rows h

rows_rise : (es rows : Rows) → is_sorted nat_cmp rows ≡ true → is_sorted nat_cmp (with_rows es rows) ≡ true
rows_rise [] rows h = h
rows_rise (e ∷ es) rows h = rows_rise es (with_row e rows) (row_rises (is_some (row_at rows e.0)) e.0 e.1 rows h)

-- what is found after a row is added was found before, or is the row
from_row : (e : ℕ × Row) (rows : Rows) (a : ℕ) (x : Row) → row_at (with_row e rows) a ≡ Some x → ((a, x) ≡ e) ⊎ (row_at rows a ≡ Some x)
from_row e rows a x f = go (is_some (row_at rows e.0)) f
  where
    at : (b : Bool) → eq_by_cmp nat_cmp a e.0 ≡ b → cond b (Some e.1) (row_at rows a) ≡ Some x → ((a, x) ≡ e) ⊎ (row_at rows a ≡ Some x)
    at true h g = inl (λ i. (same_is nat_cmp_total nat_cmp-IsAntisymmetric a e.0 h i, sym (same_some g) i))
    at false h g = inr g

    go : (b : Bool) → row_at (if b then rows else put nat_cmp e.0 e.1 rows) a ≡ Some x → ((a, x) ≡ e) ⊎ (row_at rows a ≡ Some x)
    go true g = inr g
    go false g = at (eq_by_cmp nat_cmp a e.0) refl (sym (find-put nat_cmp nat_cmp_total a e.0 e.1 rows) ∙ g)

from_rows : (es rows : Rows) (a : ℕ) (x : Row) → row_at (with_rows es rows) a ≡ Some x → In (a, x) es ⊎ (row_at rows a ≡ Some x)
from_rows [] rows a x f = inr f
from_rows (e ∷ es) rows a x f = go (from_rows es (with_row e rows) a x f)
  where
    at : ((a, x) ≡ e) ⊎ (row_at rows a ≡ Some x) → In (a, x) (e ∷ es) ⊎ (row_at rows a ≡ Some x)
    at (inl g) = inl (inl g)
    at (inr g) = inr g

    go : In (a, x) es ⊎ (row_at (with_row e rows) a ≡ Some x) → In (a, x) (e ∷ es) ⊎ (row_at rows a ≡ Some x)
    go (inl g) = inl (inr g)
    go (inr g) = at (from_row e rows a x g)

row_stays : (e : ℕ × Row) (rows : Rows) (a : ℕ) → is_some (row_at rows a) ≡ true → is_some (row_at (with_row e rows) a) ≡ true
row_stays e rows a h = go (is_some (row_at rows e.0))
  where
    at : (b : Bool) → is_some (cond b (Some e.1) (row_at rows a)) ≡ true
    at true = refl
    at false = h

    go : (b : Bool) → is_some (row_at (if b then rows else put nat_cmp e.0 e.1 rows) a) ≡ true
    go true = h
    go false = ap is_some (find-put nat_cmp nat_cmp_total a e.0 e.1 rows) ∙ at (eq_by_cmp nat_cmp a e.0)

rows_stay : (es rows : Rows) (a : ℕ) → is_some (row_at rows a) ≡ true → is_some (row_at (with_rows es rows) a) ≡ true
rows_stay [] rows a h = h
rows_stay (e ∷ es) rows a h = rows_stay es (with_row e rows) a (row_stays e rows a h)

row_there : (e : ℕ × Row) (rows : Rows) → is_some (row_at (with_row e rows) e.0) ≡ true
row_there e rows = go (is_some (row_at rows e.0)) refl
  where
    go : (b : Bool) → is_some (row_at rows e.0) ≡ b → is_some (row_at (if b then rows else put nat_cmp e.0 e.1 rows) e.0) ≡ true
    go true h = h
    go false h = ap is_some (find-put_same nat_cmp_total nat_cmp-IsAntisymmetric e.0 e.1 rows)

rows_there : (es rows : Rows) (a : ℕ) (x : Row) → In (a, x) es → is_some (row_at (with_rows es rows) a) ≡ true
rows_there [] rows a x g = absurd g
rows_there (e ∷ es) rows a x (inl is) = rows_stay es (with_row e rows) a (ap (λ b. is_some (row_at (with_row e rows) b)) (ap (λ (d : ℕ × Row). d.0) is) ∙ row_there e rows)
rows_there (e ∷ es) rows a x (inr g) = rows_there es (with_row e rows) a x g

pub rows_make : (es rows : Rows) → T (is_sorted nat_cmp rows) → ((e : ℕ × Row) → In e es → row_at rows e.0 ≡ Some e.1) → ((a : ℕ) (x : Row) → row_at rows a ≡ Some x → In (a, x) es) → with_rows es [] ≡ rows
rows_make es rows h there back =
    same_table nat_cmp_total nat_cmp-IsAntisymmetric (with_rows es []) rows (to_T _ (rows_rise es [] refl)) h over
    (λ a x f. go a x f (some_or_none (row_at (with_rows es []) a) (rows_there es [] a x (back a x f))))
  where
    over : (a : ℕ) (x : Row) → row_at (with_rows es []) a ≡ Some x → row_at rows a ≡ Some x
    over a x f = at (from_rows es [] a x f)
      where
        at : In (a, x) es ⊎ (None ≡ Some x) → row_at rows a ≡ Some x
        at (inl g) = there (a, x) g
        at (inr e) = absurd (none_some e)

    go : (a : ℕ) (x : Row) → row_at rows a ≡ Some x → (y : Row) × (row_at (with_rows es []) a ≡ Some y) → row_at (with_rows es []) a ≡ Some x
    go a x f y = y.1 ∙ (sym (over a y.0 y.1) ∙ f)

-- ---- items that are put by provider

abbrev pub Item : Type 0
Item = (Text × Text) × Offered

-- the items of a provider
abbrev pub own : Map (Map Offered) → Text → Map Offered
own items p = unwrap_or (get items p) []

-- the items with one more
abbrev pub with_one : Item → Map (Map Offered) → Map (Map Offered)
with_one e items = put text_cmp e.0.0 (put text_cmp e.0.1 e.1 (own items e.0.0)) items

-- and with these, one after the other
abbrev pub with_all : List Item → Map (Map Offered) → Map (Map Offered)
with_all [] items = items
with_all (e ∷ es) items = with_all es (with_one e items)

-- the items of a provider once one is put
abbrev own_with : Bool → Item → Map (Map Offered) → Text → Map Offered
own_with b e items p = unwrap_or (cond b (Some (put text_cmp e.0.1 e.1 (own items e.0.0))) (get items p)) []

own_is : (e : Item) (items : Map (Map Offered)) (p : Text) → own (with_one e items) p ≡ own_with (same_text p e.0.0) e items p
own_is e items p = ap (λ v. unwrap_or v []) (find-put text_cmp text_total p e.0.0 (put text_cmp e.0.1 e.1 (own items e.0.0)) items)

abbrev AllRise : Map (Map Offered) → Type 0
AllRise items = (p : Text) → is_sorted text_cmp (own items p) ≡ true

one_rises : (e : Item) (items : Map (Map Offered)) → AllRise items → AllRise (with_one e items)
one_rises e items h p = ap (is_sorted text_cmp) (own_is e items p) ∙ go (same_text p e.0.0)
  where
    go : (b : Bool) → is_sorted text_cmp (own_with b e items p) ≡ true
    go true = put_rises text_total e.0.1 e.1 (own items e.0.0) (h e.0.0)
    go false = h p

all_rise : (es : List Item) (items : Map (Map Offered)) → AllRise items → AllRise (with_all es items)
all_rise [] items h = h
all_rise (e ∷ es) items h = all_rise es (with_one e items) (one_rises e items h)

from_one : (e : Item) (items : Map (Map Offered)) (p r : Text) (x : Offered) → get (own (with_one e items) p) r ≡ Some x → (((p, r), x) ≡ e) ⊎ (get (own items p) r ≡ Some x)
from_one e items p r x f = go (same_text p e.0.0) refl (sym (ap (λ l. get l r) (own_is e items p)) ∙ f)
  where
    at : p ≡ e.0.0 → (b : Bool) → same_text r e.0.1 ≡ b → cond b (Some e.1) (get (own items e.0.0) r) ≡ Some x → (((p, r), x) ≡ e) ⊎ (get (own items p) r ≡ Some x)
    at k true h g = inl (λ i. ((k i, same_is text_total text_antisymmetric r e.0.1 h i), sym (same_some g) i))
    at k false h g = inr (ap (λ q. get (own items q) r) k ∙ g)

    go : (b : Bool) → same_text p e.0.0 ≡ b → get (own_with b e items p) r ≡ Some x → (((p, r), x) ≡ e) ⊎ (get (own items p) r ≡ Some x)
    go true h g = at (same_is text_total text_antisymmetric p e.0.0 h) (same_text r e.0.1) refl (sym (find-put text_cmp text_total r e.0.1 e.1 (own items e.0.0)) ∙ g)
    go false h g = inr g

from_all : (es : List Item) (items : Map (Map Offered)) (p r : Text) (x : Offered) → get (own (with_all es items) p) r ≡ Some x → In ((p, r), x) es ⊎ (get (own items p) r ≡ Some x)
from_all [] items p r x f = inr f
from_all (e ∷ es) items p r x f = go (from_all es (with_one e items) p r x f)
  where
    at : (((p, r), x) ≡ e) ⊎ (get (own items p) r ≡ Some x) → In ((p, r), x) (e ∷ es) ⊎ (get (own items p) r ≡ Some x)
    at (inl g) = inl (inl g)
    at (inr g) = inr g

    go : In ((p, r), x) es ⊎ (get (own (with_one e items) p) r ≡ Some x) → In ((p, r), x) (e ∷ es) ⊎ (get (own items p) r ≡ Some x)
    go (inl g) = inl (inr g)
    go (inr g) = at (from_one e items p r x g)

one_stays : (e : Item) (items : Map (Map Offered)) (p r : Text) → is_some (get (own items p) r) ≡ true → is_some (get (own (with_one e items) p) r) ≡ true
one_stays e items p r h = ap (λ l. is_some (get l r)) (own_is e items p) ∙ go (same_text p e.0.0) refl
  where
    at : (b : Bool) → is_some (get (own items e.0.0) r) ≡ true → is_some (cond b (Some e.1) (get (own items e.0.0) r)) ≡ true
    at true g = refl
    at false g = g

    go : (b : Bool) → same_text p e.0.0 ≡ b → is_some (get (own_with b e items p) r) ≡ true
    go true k =
        ap is_some (find-put text_cmp text_total r e.0.1 e.1 (own items e.0.0))
        ∙ at (same_text r e.0.1) (ap (λ q. is_some (get (own items q) r)) (sym (same_is text_total text_antisymmetric p e.0.0 k)) ∙ h)
    go false k = h

all_stay : (es : List Item) (items : Map (Map Offered)) (p r : Text) → is_some (get (own items p) r) ≡ true → is_some (get (own (with_all es items) p) r) ≡ true
all_stay [] items p r h = h
all_stay (e ∷ es) items p r h = all_stay es (with_one e items) p r (one_stays e items p r h)

one_there : (e : Item) (items : Map (Map Offered)) → is_some (get (own (with_one e items) e.0.0) e.0.1) ≡ true
one_there e items =
    ap (λ l. is_some (get l e.0.1)) (own_is e items e.0.0 ∙ ap (λ b. own_with b e items e.0.0) (same_self text_total text_antisymmetric e.0.0))
    ∙ ap is_some (find-put_same text_total text_antisymmetric e.0.1 e.1 (own items e.0.0))

all_there : (es : List Item) (items : Map (Map Offered)) (p r : Text) (x : Offered) → In ((p, r), x) es → is_some (get (own (with_all es items) p) r) ≡ true
all_there [] items p r x g = absurd g
all_there (e ∷ es) items p r x (inl is) =
    all_stay es (with_one e items) p r
    ((λ i. is_some (get (own (with_one e items) (is i).0.0) (is i).0.1)) ∙ one_there e items)
all_there (e ∷ es) items p r x (inr g) = all_there es (with_one e items) p r x g

-- items make those of a provider
pub items_make : (es : List Item) (p : Text) (m : Map Offered) → T (is_sorted text_cmp m) → ((r : Text) (x : Offered) → In ((p, r), x) es → get m r ≡ Some x)
    → ((r : Text) (x : Offered) → get m r ≡ Some x → In ((p, r), x) es) → own (with_all es []) p ≡ m
items_make es p m h there back =
    same_table text_total text_antisymmetric (own (with_all es []) p) m (to_T _ (all_rise es [] (λ q. refl) p)) h over
    (λ r x f. go r x f (some_or_none (get (own (with_all es []) p) r) (all_there es [] p r x (back r x f))))
  where
    over : (r : Text) (x : Offered) → get (own (with_all es []) p) r ≡ Some x → get m r ≡ Some x
    over r x f = at (from_all es [] p r x f)
      where
        at : In ((p, r), x) es ⊎ (None ≡ Some x) → get m r ≡ Some x
        at (inl g) = there r x g
        at (inr e) = absurd (none_some e)

    go : (r : Text) (x : Offered) → get m r ≡ Some x → (y : Offered) × (get (own (with_all es []) p) r ≡ Some y) → get (own (with_all es []) p) r ≡ Some x
    go r x f y = y.1 ∙ (sym (over r y.0 y.1) ∙ f)

-- ---- values that rows tell

module _ {X : Type 0} (by : StoredRow → X → X) (a : X) where
  abbrev pub Sets : StoredRow → Type 0
  Sets b = (x : X) → by b x ≡ a

  abbrev pub Leaves : StoredRow → Type 0
  Leaves b = (x : X) → by b x ≡ x

  -- these tell a value that one of them sets, or that stood before them
  abbrev Rest : List StoredRow → Type 0
  Rest bs = (x : X) → (((b : StoredRow) × In b bs × Sets b) ⊎ (x ≡ a)) → told_by by bs x ≡ a

  -- a value that one row sets, where all others leave it, is told
  pub told_is : (bs : List StoredRow) (x : X) → ((b : StoredRow) → In b bs → Sets b ⊎ Leaves b) → (((b : StoredRow) × In b bs × Sets b) ⊎ (x ≡ a)) → told_by by bs x ≡ a
  told_is [] x each (inl f) = absurd f.1
  told_is [] x each (inr e) = e
  told_is (b ∷ bs) x each some = go (each b (inl refl)) some (λ y f. told_is bs y (λ c g. each c (inr g)) f)
    where
      there : Rest bs → Leaves b → (c : StoredRow) → In c (b ∷ bs) → Sets c → told_by by bs (by b x) ≡ a
      there rest l c (inl e) s = rest (by b x) (inr (ap (λ d. by d x) (sym e) ∙ s x))
      there rest l c (inr g) s = rest (by b x) (inl (c, g, s))

      go : Sets b ⊎ Leaves b → (((c : StoredRow) × In c (b ∷ bs) × Sets c) ⊎ (x ≡ a)) → Rest bs → told_by by bs (by b x) ≡ a
      go (inl s) f rest = rest (by b x) (inr (s x))
      go (inr l) (inl f) rest = there rest l f.0 f.1 f.2
      go (inr l) (inr e) rest = rest (by b x) (inr (l x ∙ e))
