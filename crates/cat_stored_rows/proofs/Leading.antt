-- Each step of a walk over old and new rows leads on.
use Rattle.std.proofs.Common.{◌≡◌, Bool, true, false, not, cond, ◌&&◌, List, [], ◌∷◌, ◌++◌, refl, sym, ap, subst, ◌∙◌, true≢false, Ordering, Less, Equal, Greater}
use Rattle.std.specs.Prelude.{⊤}
use Rattle.std.specs.Ordering.{is_eq, is_lt, ordering_reverse}
use Rattle.std.specs.Cmp.{IsTotalOrder, tied_itself}
use Rattle.std.specs.FinMap.{IsAntisymmetric}
use Rattle.std.specs.FinMap.Entries.{below_all, by_order, is_sorted}
use Rattle.cat_collections.specs.Pairs.{pair_antisymmetric, pair_total}
use Rattle.cat_collections.specs.Rows.{without}
use Rattle.cat_collections.specs.Table.{Text, put, text_antisymmetric, text_total}
use Rattle.cat_keeper.specs.Store.{RowKey, Rows, Changes, row_cmp, applied, changed}
use Rattle.cat_keeper.specs.Tables.{table_antisymmetric, table_total}
use Rattle.cat_keeper.specs.declared.rows.Change.{Change}
use Rattle.cat_keeper.specs.declared.rows.Change.TheVariants.{Put, Gone}
use Rattle.cat_stored_rows.specs.Walk.{Leads, Precede, told_all}

pub row_total : IsTotalOrder row_cmp
row_total = pair_total table_total text_total

pub row_antisymmetric : IsAntisymmetric row_cmp
row_antisymmetric = pair_antisymmetric table_antisymmetric text_antisymmetric

-- ---- tests

pub is_less : (o : Ordering) → is_lt o ≡ true → o ≡ Less
is_less Less e = refl
is_less Equal e = absurd (true≢false (sym e))
is_less Greater e = absurd (true≢false (sym e))

pub both : (a b : Bool) → a ≡ true → b ≡ true → (a && b) ≡ true
both true b p q = q
both false b p q = p

pub first : (a b : Bool) → (a && b) ≡ true → a ≡ true
first true b e = refl
first false b e = e

pub second : (a b : Bool) → (a && b) ≡ true → b ≡ true
second true b e = e
second false b e = absurd (true≢false (sym e))

-- ---- entries in an order

-- the key is above each of these
abbrev pub Above : {K V : Type 0} → (K → K → Ordering) → K → List (K × V) → Type 0
Above R k [] = ⊤
Above R k (e ∷ es) = (R k e.0 ≡ Greater) × Above R k es

module _ {K V : Type 0} {R : K → K → Ordering} (o : IsTotalOrder R) where
  put_beyond : (k : K) (v : V) (es rest : List (K × V)) → Above R k es → put R k v (es ++ rest) ≡ es ++ put R k v rest
  put_beyond k v [] rest h = refl
  put_beyond k v (e ∷ es) rest h =
      ap (λ p. by_order p ((k, v) ∷ e ∷ (es ++ rest)) ((e.0, v) ∷ (es ++ rest)) (e ∷ put R k v (es ++ rest))) h.0
      ∙ ap (λ l. e ∷ l) (put_beyond k v es rest h.1)

  put_last : (k : K) (v : V) (es : List (K × V)) → Above R k es → put R k v es ≡ es ++ (k, v) ∷ []
  put_last k v [] h = refl
  put_last k v (e ∷ es) h =
      ap (λ p. by_order p ((k, v) ∷ e ∷ es) ((e.0, v) ∷ es) (e ∷ put R k v es)) h.0 ∙ ap (λ l. e ∷ l) (put_last k v es h.1)

  put_first : (k : K) (v : V) (rest : List (K × V)) → below_all R k rest ≡ true → put R k v rest ≡ (k, v) ∷ rest
  put_first k v [] h = refl
  put_first k v (e ∷ es) h = ap (λ p. by_order p ((k, v) ∷ e ∷ es) ((e.0, v) ∷ es) (e ∷ put R k v es)) (is_less (R k e.0) (first _ _ h))

  put_there : (k : K) (v w : V) (rest : List (K × V)) → put R k v ((k, w) ∷ rest) ≡ (k, v) ∷ rest
  put_there k v w rest = ap (λ p. by_order p ((k, v) ∷ (k, w) ∷ rest) ((k, v) ∷ rest) ((k, w) ∷ put R k v rest)) (tied_itself o k)

  without_beyond : (k : K) (es rest : List (K × V)) → Above R k es → without R k (es ++ rest) ≡ es ++ without R k rest
  without_beyond k [] rest h = refl
  without_beyond k (e ∷ es) rest h =
      ap (λ p. cond (not (is_eq p)) (e ∷ without R k (es ++ rest)) (without R k (es ++ rest))) h.0 ∙ ap (λ l. e ∷ l) (without_beyond k es rest h.1)

  without_lower : (k : K) (rest : List (K × V)) → below_all R k rest ≡ true → without R k rest ≡ rest
  without_lower k [] h = refl
  without_lower k (e ∷ es) h =
      ap (λ p. cond (not (is_eq p)) (e ∷ without R k es) (without R k es)) (is_less (R k e.0) (first _ _ h)) ∙ ap (λ l. e ∷ l) (without_lower k es (second _ _ h))

  without_first : (k : K) (w : V) (rest : List (K × V)) → below_all R k rest ≡ true → without R k ((k, w) ∷ rest) ≡ rest
  without_first k w rest h =
      ap (λ p. cond (not (is_eq p)) ((k, w) ∷ without R k rest) (without R k rest)) (tied_itself o k) ∙ without_lower k rest h

  -- a key that stands below another stands below all that the other stands below
  pub lower : (j k : K) (es : List (K × V)) → R j k ≡ Less → below_all R k es ≡ true → below_all R j es ≡ true
  lower j k [] p h = refl
  lower j k (e ∷ es) p h = both _ _ (ap is_lt (o.trans j k e.0 p (is_less (R k e.0) (first _ _ h)))) (lower j k es p (second _ _ h))

-- ---- changes

applied_last : (cs : Changes) (c : RowKey × Change) (rows : Rows) → applied (cs ++ c ∷ []) rows ≡ changed c.0 c.1 (applied cs rows)
applied_last [] c rows = refl
applied_last (d ∷ cs) c rows = applied_last cs c (changed d.0 d.1 rows)

-- ---- what stands below what is left

module _ {V X : Type 0} where
  pub above_last : (es : List (RowKey × V)) (x : RowKey × X) (rest : List (RowKey × X)) → Precede es (x ∷ rest) → Above row_cmp x.0 es
  above_last [] x rest h = tt
  above_last (e ∷ es) x rest h =
      (row_total.antisymm x.0 e.0 ∙ ap ordering_reverse (is_less (row_cmp e.0 x.0) (first _ _ h.0)), above_last es x rest h.1)

  pub precede_rest : (es : List (RowKey × V)) (x : RowKey × X) (rest : List (RowKey × X)) → Precede es (x ∷ rest) → Precede es rest
  precede_rest [] x rest h = tt
  precede_rest (e ∷ es) x rest h = (second _ _ h.0, precede_rest es x rest h.1)

  pub precede_more : (es : List (RowKey × V)) (e : RowKey × V) (rest : List (RowKey × X)) → Precede es rest → below_all row_cmp e.0 rest ≡ true → Precede (es ++ e ∷ []) rest
  precede_more [] e rest h below = (below, tt)
  precede_more (d ∷ es) e rest h below = (h.0, precede_more es e rest h.1 below)

-- ---- what is told of rows

module _ {X : Type 0} (told : X → Text) where
  pub told_more : (es : List (RowKey × X)) (e : RowKey × X) (rest : Rows) → told_all told (es ++ e ∷ []) ++ rest ≡ told_all told es ++ (e.0, told e.1) ∷ rest
  told_more [] e rest = refl
  told_more (d ∷ es) e rest = ap (λ l. (d.0, told d.1) ∷ l) (told_more es e rest)

  told_below : (k : RowKey) (es : List (RowKey × X)) → below_all row_cmp k (told_all told es) ≡ below_all row_cmp k es
  told_below k [] = refl
  told_below k (e ∷ es) = ap (λ b. is_lt (row_cmp k e.0) && b) (told_below k es)

  pub told_sorted : (es : List (RowKey × X)) → is_sorted row_cmp (told_all told es) ≡ is_sorted row_cmp es
  told_sorted [] = refl
  told_sorted (e ∷ es) = λ i. told_below e.0 es i && told_sorted es i

  told_above : (k : RowKey) (es : List (RowKey × X)) → Above row_cmp k es → Above row_cmp k (told_all told es)
  told_above k [] h = tt
  told_above k (e ∷ es) h = (h.0, told_above k es h.1)

  -- ---- the steps

  module _ (b : Changes) (start : Rows) (passed : List (RowKey × X)) where
    -- an old row is gone
    pub gone : (w : RowKey × X) (old new : List (RowKey × X)) → Leads told b start passed (w ∷ old) new → below_all row_cmp w.0 old ≡ true → below_all row_cmp w.0 new ≡ true
        → Leads told (put row_cmp w.0 Gone b) start passed old new
    gone w old new h low high =
        let last : put row_cmp w.0 Gone b ≡ b ++ (w.0, Gone) ∷ [] = put_last row_total w.0 Gone b (above_last b w old h.changes_old) in
        let C : Changes → Type 0 = λ c. Leads told c start passed old new in
        subst C (sym last) (record {
          leads =
              applied_last b (w.0, Gone) start
              ∙ (ap (without row_cmp w.0) h.leads
              ∙ (without_beyond row_total w.0 (told_all told passed) ((w.0, told w.1) ∷ told_all told old) (told_above w.0 passed (above_last passed w old h.passed_old))
              ∙ ap (λ l. told_all told passed ++ l) (without_first row_total w.0 (told w.1) (told_all told old) (told_below w.0 old ∙ low))));
          changes_old = precede_more b (w.0, Gone) old (precede_rest b w old h.changes_old) low;
          changes_new = precede_more b (w.0, Gone) new h.changes_new high;
          passed_old = precede_rest passed w old h.passed_old;
          passed_new = h.passed_new;
        })

    -- a new row came
    pub came : (n : RowKey × X) (old new : List (RowKey × X)) → Leads told b start passed old (n ∷ new) → below_all row_cmp n.0 old ≡ true → below_all row_cmp n.0 new ≡ true
        → Leads told (put row_cmp n.0 (Put (told n.1)) b) start (passed ++ n ∷ []) old new
    came n old new h low high =
        let last : put row_cmp n.0 (Put (told n.1)) b ≡ b ++ (n.0, Put (told n.1)) ∷ [] = put_last row_total n.0 (Put (told n.1)) b (above_last b n new h.changes_new) in
        let C : Changes → Type 0 = λ c. Leads told c start (passed ++ n ∷ []) old new in
        subst C (sym last) (record {
          leads =
              applied_last b (n.0, Put (told n.1)) start
              ∙ (ap (put row_cmp n.0 (told n.1)) h.leads
              ∙ (put_beyond row_total n.0 (told n.1) (told_all told passed) (told_all told old) (told_above n.0 passed (above_last passed n new h.passed_new))
              ∙ (ap (λ l. told_all told passed ++ l) (put_first row_total n.0 (told n.1) (told_all told old) (told_below n.0 old ∙ low))
              ∙ sym (told_more passed n (told_all told old)))));
          changes_old = precede_more b (n.0, Put (told n.1)) old h.changes_old low;
          changes_new = precede_more b (n.0, Put (told n.1)) new (precede_rest b n new h.changes_new) high;
          passed_old = precede_more passed n old h.passed_old low;
          passed_new = precede_more passed n new (precede_rest passed n new h.passed_new) high;
        })

    -- a row stayed
    pub stayed : (w n : RowKey × X) (old new : List (RowKey × X)) → Leads told b start passed (w ∷ old) (n ∷ new) → w.0 ≡ n.0 → told w.1 ≡ told n.1
        → below_all row_cmp n.0 old ≡ true → below_all row_cmp n.0 new ≡ true → Leads told b start (passed ++ n ∷ []) old new
    stayed w n old new h key same low high = record {
      leads =
          h.leads ∙ ((λ i. told_all told passed ++ (key i, same i) ∷ told_all told old)
          ∙ sym (told_more passed n (told_all told old)));
      changes_old = precede_rest b w old h.changes_old;
      changes_new = precede_rest b n new h.changes_new;
      passed_old = precede_more passed n old (precede_rest passed w old h.passed_old) low;
      passed_new = precede_more passed n new (precede_rest passed n new h.passed_new) high;
    }

    -- a row has another text
    pub turned : (w n : RowKey × X) (old new : List (RowKey × X)) → Leads told b start passed (w ∷ old) (n ∷ new) → w.0 ≡ n.0
        → below_all row_cmp n.0 old ≡ true → below_all row_cmp n.0 new ≡ true → Leads told (put row_cmp n.0 (Put (told n.1)) b) start (passed ++ n ∷ []) old new
    turned w n old new h key low high =
        let last : put row_cmp n.0 (Put (told n.1)) b ≡ b ++ (n.0, Put (told n.1)) ∷ [] = put_last row_total n.0 (Put (told n.1)) b (above_last b n new h.changes_new) in
        let C : Changes → Type 0 = λ c. Leads told c start (passed ++ n ∷ []) old new in
        subst C (sym last) (record {
          leads =
              applied_last b (n.0, Put (told n.1)) start
              ∙ (ap (put row_cmp n.0 (told n.1)) (h.leads ∙ (λ i. told_all told passed ++ (key i, told w.1) ∷ told_all told old))
              ∙ (put_beyond row_total n.0 (told n.1) (told_all told passed) ((n.0, told w.1) ∷ told_all told old) (told_above n.0 passed (above_last passed n new h.passed_new))
              ∙ (ap (λ l. told_all told passed ++ l) (put_there row_total n.0 (told n.1) (told w.1) (told_all told old))
              ∙ sym (told_more passed n (told_all told old)))));
          changes_old = precede_more b (n.0, Put (told n.1)) old (precede_rest b w old h.changes_old) low;
          changes_new = precede_more b (n.0, Put (told n.1)) new (precede_rest b n new h.changes_new) high;
          passed_old = precede_more passed n old (precede_rest passed w old h.passed_old) low;
          passed_new = precede_more passed n new (precede_rest passed n new h.passed_new) high;
        })

  pub begins : (old new : List (RowKey × X)) → Leads told [] (told_all told old) [] old new
  begins old new = record { leads = refl; changes_old = tt; changes_new = tt; passed_old = tt; passed_new = tt }
