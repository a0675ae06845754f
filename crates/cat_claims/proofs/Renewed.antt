-- The renewed rows, one arrival and one reference after the other.
use Rattle.std.proofs.Common.{◌≡◌, ℕ, ◌+◌, ◌<◌, ◌≤◌, Bool, true, false, cond, not, ◌&&◌, ◌||◌, List, ◌∷◌, length, drop, get_or, refl, sym, ap, subst, ◌∙◌, is_some, unwrap_or, true≢false, nat_cmp}
use Rattle.std.specs.declared.option.Option.{Option}
use Rattle.std.specs.declared.option.Option.TheVariants.{None, Some}
use Rattle.std.specs.Option.{option_and_then}
use Rattle.std.specs.Ordering.{eq_by_cmp}
use Rattle.std.specs.List.{list_any}
use Rattle.std.specs.Cmp.{both_ways, nat_cmp_total}
use Rattle.std.specs.FinMap.{nat_cmp-IsAntisymmetric}
use Rattle.std.specs.FinMap.Entries.{find-put, find-where_key, is_sorted, is_sorted-put, is_sorted-where_key, same_entries}
use Rattle.std.proofs.lemmas.List.{drop_all, drop_more}
use Rattle.cat_collections.specs.Rows.{without}
use Rattle.cat_collections.specs.Table.{keys, over, put, same_text}
use Rattle.cat_collections.proofs.Orders.{has-filter}
use Rattle.cat_collections.proofs.Placed.{from_T, to_T}
use Rattle.cat_collections.proofs.Tables.{find-over, found_key, is_sorted-tabulate, same_is, same_self, same_tabulated, text_antisymmetric, text_total}
use Rattle.cat_types.specs.declared.input.Offered.{Offered}
use Rattle.cat_model.specs.Catalogue.{Ref}
use Rattle.cat_model.specs.Rows.{IsRowAt, Rows, is_named, named, row_at, same_origin}
use Rattle.cat_model.specs.Step.{offered_again, row_after}
use Rattle.cat_model.specs.declared.types.Origin.{Origin}
use Rattle.cat_model.specs.declared.types.Origin.TheVariants.{Provider, Entity}
use Rattle.cat_model.specs.declared.types.Row.{Row}
use Rattle.cat_claims.specs.Change.{IsChangedAmong, among}
use Rattle.cat_claims.specs.Renewed.{renewed}

pub same_number : (a b : ℕ) → eq_by_cmp nat_cmp a b ≡ true → a ≡ b
same_number = same_is nat_cmp_total nat_cmp-IsAntisymmetric

pub same_name : (q r : Ref) → same_text q r ≡ true → q ≡ r
same_name = same_is text_total text_antisymmetric

pub self_name : (r : Ref) → same_text r r ≡ true
self_name = same_self text_total text_antisymmetric

pub swapped_numbers : (a b : ℕ) → eq_by_cmp nat_cmp a b ≡ eq_by_cmp nat_cmp b a
swapped_numbers a b = both_ways _ _ (turn a b) (turn b a)
  where
    turn : (a b : ℕ) → eq_by_cmp nat_cmp a b ≡ true → eq_by_cmp nat_cmp b a ≡ true
    turn a b h = ap (λ x. eq_by_cmp nat_cmp x a) (sym (same_number a b h)) ∙ same_self nat_cmp_total nat_cmp-IsAntisymmetric a

swapped_names : (q r : Ref) → same_text q r ≡ same_text r q
swapped_names q r = both_ways _ _ (turn q r) (turn r q)
  where
    turn : (q r : Ref) → same_text q r ≡ true → same_text r q ≡ true
    turn q r h = ap (λ x. same_text x q) (sym (same_name q r h)) ∙ self_name q

pub same_origin_is : (o p : Origin) → same_origin o p ≡ true → o ≡ p
same_origin_is (Provider p) (Provider q) h = ap Provider (same_name p q h)
same_origin_is (Provider p) (Entity e) h = absurd (true≢false (sym h))
same_origin_is (Entity e) (Provider q) h = absurd (true≢false (sym h))
same_origin_is (Entity e) (Entity f) h = ap Entity (same_name e f h)

pub and_true : (b : Bool) → (b && true) ≡ b
and_true true = refl
and_true false = refl

-- ---- a row that its origin offers again

-- where the row now stands, the next one has its origin and its reference
pub again_at : (rows : Rows) (a : ℕ) (row next : Row) (v : Option Offered) → row_at rows a ≡ Some row → offered_again row v ≡ Some next → IsRowAt rows a next.origin next.reference
again_at rows a row next None at e = absurd (true≢false (sym (ap is_some e)))
again_at rows a row next (Some x) at e = go (same_text x.key row.offered.key) e
  where
    go : (b : Bool) → cond b (Some (record row { offered = x })) None ≡ Some next → IsRowAt rows a next.origin next.reference
    go true e =
        let is : record row { offered = x } ≡ next = ap (λ v. unwrap_or v next) e in
        record { row = row; at = at; from = ap (λ (y : Row). y.origin) is; names = ap (λ (y : Row). y.reference) is }
    go false e = absurd (true≢false (sym (ap is_some e)))

-- the row now stands under its origin and its reference
pub row_there : (rows : Rows) (a : ℕ) (row : Row) (o : Origin) (r : Ref) → row_at rows a ≡ Some row → same_origin o row.origin ≡ true → r ≡ row.reference → IsRowAt rows a o r
row_there rows a row o r at from names = record { row = row; at = at; from = sym (same_origin_is o row.origin from); names = sym names }

module _ (o : Origin) (f : Ref → Option Offered) where
  -- a row of the origin is what is offered again, others are as they were
  pub after_own : (row : Row) (v : Option Offered) (w : Option Row) → same_origin o row.origin ≡ true → v ≡ f row.reference → w ≡ offered_again row v → row_after o f row ≡ w
  after_own row v w own is e = ap (λ b. cond b (offered_again row (f row.reference)) (Some row)) own ∙ (ap (offered_again row) (sym is) ∙ sym e)

  pub after_other : (row : Row) → same_origin o row.origin ≡ false → row_after o f row ≡ Some row
  after_other row other = ap (λ b. cond b (offered_again row (f row.reference)) (Some row)) other

  -- what is offered as it stands stays
  pub after_same : (row : Row) → (same_origin o row.origin ≡ true → f row.reference ≡ Some row.offered) → row_after o f row ≡ Some row
  after_same row same = go (same_origin o row.origin) refl
    where
      go : (b : Bool) → same_origin o row.origin ≡ b → row_after o f row ≡ Some row
      go true own =
          ap (λ b. cond b (offered_again row (f row.reference)) (Some row)) own
          ∙ (ap (offered_again row) (same own) ∙ ap (λ b. cond b (Some row) None) (self_name row.offered.key))
      go false other = after_other row other

  -- what was brought to the offers stays
  after_twice : (row next : Row) → row_after o f row ≡ Some next → row_after o f next ≡ Some next
  after_twice row next e = by_origin (same_origin o row.origin) refl e
    where
      by_key : (x : Offered) → same_origin o row.origin ≡ true → f row.reference ≡ Some x → (b : Bool) → cond b (Some (record row { offered = x })) None ≡ Some next → row_after o f next ≡ Some next
      by_key x own is true e = subst (λ z. row_after o f z ≡ Some z) (ap (λ v. unwrap_or v next) e) (after_same (record row { offered = x }) (λ _. is))
      by_key x own is false e = absurd (true≢false (sym (ap is_some e)))

      by_offer : (v : Option Offered) → same_origin o row.origin ≡ true → f row.reference ≡ v → offered_again row v ≡ Some next → row_after o f next ≡ Some next
      by_offer None own is e = absurd (true≢false (sym (ap is_some e)))
      by_offer (Some x) own is e = by_key x own is (same_text x.key row.offered.key) e

      by_origin : (b : Bool) → same_origin o row.origin ≡ b → cond b (offered_again row (f row.reference)) (Some row) ≡ Some next → row_after o f next ≡ Some next
      by_origin true own e = by_offer (f row.reference) own refl e
      by_origin false other e = subst (λ z. row_after o f z ≡ Some z) (ap (λ v. unwrap_or v next) e) (after_other row other)

  -- ---- renewed rows

  -- a row as the offers have it, where it is chosen
  abbrev turned : (ℕ → Ref → Bool) → ℕ → Row → Option Row
  turned chosen a row = cond (chosen a row.reference) (row_after o f row) (Some row)

  find-renewed : (chosen : ℕ → Ref → Bool) (rows : Rows) (a : ℕ) → row_at (renewed o f chosen rows) a ≡ option_and_then (turned chosen a) (row_at rows a)
  find-renewed chosen rows a = find-over nat_cmp_total nat_cmp-IsAntisymmetric a rows (turned chosen)

  -- rows in order that have the renewed row at each arrival are the renewed rows
  is_renewed : (chosen : ℕ → Ref → Bool) (rows after : Rows) → is_sorted nat_cmp after ≡ true → ((a : ℕ) → row_at after a ≡ option_and_then (turned chosen a) (row_at rows a)) → after ≡ renewed o f chosen rows
  is_renewed chosen rows after rise alike =
      same_entries nat_cmp nat_cmp_total nat_cmp-IsAntisymmetric after (renewed o f chosen rows) (to_T _ rise)
      (is_sorted-tabulate nat_cmp_total nat_cmp-IsAntisymmetric (keys rows) (λ a. option_and_then (turned chosen a) (row_at rows a)))
      (λ a. alike a ∙ sym (find-renewed chosen rows a))

  -- rows are renewed alike where the same of them are chosen
  chosen_alike : (d e : ℕ → Ref → Bool) (rows : Rows) → ((a : ℕ) (row : Row) → row_at rows a ≡ Some row → turned d a row ≡ turned e a row) → renewed o f d rows ≡ renewed o f e rows
  chosen_alike d e rows alike =
      same_tabulated nat_cmp_total nat_cmp-IsAntisymmetric (keys rows) (keys rows) (λ a. option_and_then (turned d a) (row_at rows a)) (λ a. option_and_then (turned e a) (row_at rows a))
      (λ a. find-renewed d rows a ∙ (go a (row_at rows a) refl ∙ sym (find-renewed e rows a)))
    where
      go : (a : ℕ) (v : Option Row) → row_at rows a ≡ v → option_and_then (turned d a) v ≡ option_and_then (turned e a) v
      go a None at = refl
      go a (Some row) at = alike a row at

  -- first some are renewed and then others
  twice : (d e : ℕ → Ref → Bool) (rows : Rows) → renewed o f e (renewed o f d rows) ≡ renewed o f (λ a r. d a r || e a r) rows
  twice d e rows =
      same_tabulated nat_cmp_total nat_cmp-IsAntisymmetric (keys (renewed o f d rows)) (keys rows) (λ a. option_and_then (turned e a) (row_at (renewed o f d rows) a))
      (λ a. option_and_then (turned (λ a r. d a r || e a r) a) (row_at rows a))
      (λ a. find-renewed e (renewed o f d rows) a ∙ (ap (option_and_then (turned e a)) (find-renewed d rows a) ∙ (go a (row_at rows a) ∙ sym (find-renewed (λ a r. d a r || e a r) rows a))))
    where
      stays : (a : ℕ) (row next : Row) → row_after o f row ≡ Some next → (b : Bool) → cond b (row_after o f next) (Some next) ≡ Some next
      stays a row next h true = after_twice row next h
      stays a row next h false = refl

      by_after : (a : ℕ) (row : Row) (w : Option Row) → row_after o f row ≡ w → option_and_then (turned e a) w ≡ w
      by_after a row None h = refl
      by_after a row (Some next) h = stays a row next h (e a next.reference)

      by_first : (a : ℕ) (row : Row) (b : Bool) → option_and_then (turned e a) (cond b (row_after o f row) (Some row)) ≡ cond (b || e a row.reference) (row_after o f row) (Some row)
      by_first a row true = by_after a row (row_after o f row) refl
      by_first a row false = refl

      go : (a : ℕ) (v : Option Row) → option_and_then (turned e a) (option_and_then (turned d a) v) ≡ option_and_then (turned (λ a r. d a r || e a r) a) v
      go a None = refl
      go a (Some row) = by_first a row (d a row.reference)

  -- where none is chosen, the rows stay
  none_chosen : (rows : Rows) → is_sorted nat_cmp rows ≡ true → renewed o f (λ a r. false) rows ≡ rows
  none_chosen rows rise = sym (is_renewed (λ a r. false) rows rows rise (λ a. go (row_at rows a)))
    where
      go : (v : Option Row) → v ≡ option_and_then (λ (row : Row). Some row) v
      go None = refl
      go (Some row) = refl

  -- rows that items of a list choose, one item after the other
  module _ {X : Type 0} (chooses : X → ℕ → Ref → Bool) where
    abbrev pub left_from : ℕ → List X → Rows → Rows
    left_from i xs rows = renewed o f (λ a r. list_any (λ x. chooses x a r) (drop i xs)) rows

    pub one_item : (xs : List X) (i : ℕ) (x d : X) (rows after : Rows) → i < length xs → x ≡ get_or xs i d → after ≡ renewed o f (chooses x) rows → left_from (i + 1) xs after ≡ left_from i xs rows
    one_item xs i x d rows after l at e =
        ap (left_from (i + 1) xs) e
        ∙ (twice (chooses x) (λ a r. list_any (λ x. chooses x a r) (drop (i + 1) xs)) rows
        ∙ ap (λ ys. renewed o f (λ a r. list_any (λ x. chooses x a r) ys) rows) (sym rest))
      where
        rest : drop i xs ≡ x ∷ drop (i + 1) xs
        rest = drop_more xs i d l ∙ ap (λ z. z ∷ drop (i + 1) xs) (sym at)

    pub no_item : (xs : List X) (i : ℕ) (rows : Rows) → length xs ≤ i → is_sorted nat_cmp rows ≡ true → left_from i xs rows ≡ rows
    no_item xs i rows l rise = ap (λ ys. renewed o f (λ a r. list_any (λ x. chooses x a r) ys) rows) (drop_all i xs l) ∙ none_chosen rows rise

  -- ---- one row

  module _ (rows : Rows) (a : ℕ) (rise : is_sorted nat_cmp rows ≡ true) where
    abbrev pub one_renewed : Rows
    one_renewed = renewed o f (λ b r. eq_by_cmp nat_cmp b a) rows

    pub one_stays : ((row : Row) → row_at rows a ≡ Some row → row_after o f row ≡ Some row) → rows ≡ one_renewed
    one_stays same = is_renewed (λ b r. eq_by_cmp nat_cmp b a) rows rows rise (λ b. go b (row_at rows b) refl)
      where
        at_it : (b : ℕ) (row : Row) → row_at rows b ≡ Some row → (c : Bool) → eq_by_cmp nat_cmp b a ≡ c → Some row ≡ cond c (row_after o f row) (Some row)
        at_it b row at true is = sym (same row (ap (row_at rows) (sym (same_number b a is)) ∙ at))
        at_it b row at false is = refl

        go : (b : ℕ) (v : Option Row) → row_at rows b ≡ v → v ≡ option_and_then (turned (λ b r. eq_by_cmp nat_cmp b a) b) v
        go b None at = refl
        go b (Some row) at = at_it b row at (eq_by_cmp nat_cmp b a) refl

    pub one_absent : row_at rows a ≡ None → rows ≡ one_renewed
    one_absent at = one_stays (λ row e. absurd (true≢false (ap is_some (sym e ∙ at))))

    pub one_other : (row : Row) → row_at rows a ≡ Some row → same_origin o row.origin ≡ false → rows ≡ one_renewed
    one_other row at other = one_stays (λ z e. let is : row ≡ z = ap (λ v. unwrap_or v z) (sym at ∙ e) in subst (λ z. row_after o f z ≡ Some z) is (after_other row other))

    module _ (row : Row) (at : row_at rows a ≡ Some row) where
      -- what is found where the row's place is taken
      taken : (w : Option Row) → row_after o f row ≡ w → (b : ℕ) (c : Bool) → eq_by_cmp nat_cmp b a ≡ c → cond c w (row_at rows b) ≡ option_and_then (λ (z : Row). cond c (row_after o f z) (Some z)) (row_at rows b)
      taken w e b true is = sym (ap (option_and_then (row_after o f)) (ap (row_at rows) (same_number b a is) ∙ at) ∙ e)
      taken w e b false is = go (row_at rows b)
        where
          go : (v : Option Row) → v ≡ option_and_then (λ (z : Row). Some z) v
          go None = refl
          go (Some z) = refl

      pub one_put : (next : Row) → row_after o f row ≡ Some next → put nat_cmp a next rows ≡ one_renewed
      one_put next e = is_renewed (λ b r. eq_by_cmp nat_cmp b a) rows (put nat_cmp a next rows) (from_T _ (is_sorted-put nat_cmp nat_cmp_total a next rows (to_T _ rise)))
          (λ b. find-put nat_cmp nat_cmp_total b a next rows ∙ taken (Some next) e b (eq_by_cmp nat_cmp b a) refl)

      pub one_less : row_after o f row ≡ None → without nat_cmp a rows ≡ one_renewed
      one_less e = is_renewed (λ b r. eq_by_cmp nat_cmp b a) rows (without nat_cmp a rows) (from_T _ (is_sorted-where_key nat_cmp (λ x. not (eq_by_cmp nat_cmp a x)) rows (to_T _ rise)))
          (λ b. find-where_key nat_cmp (λ x. not (eq_by_cmp nat_cmp a x)) b (λ x tie. ap (λ y. not (eq_by_cmp nat_cmp a y)) (sym (nat_cmp-IsAntisymmetric b x tie))) rows
          ∙ (ap (λ c. cond (not c) (row_at rows b) None) (swapped_numbers a b) ∙ (flip (eq_by_cmp nat_cmp b a) (row_at rows b) ∙ taken None e b (eq_by_cmp nat_cmp b a) refl)))
        where
          flip : (c : Bool) (v : Option Row) → cond (not c) v None ≡ cond c None v
          flip true v = refl
          flip false v = refl

  -- ---- the rows of a reference, and those of all references

  pub named_chosen : (rows : Rows) (q : Ref) → renewed o f (λ a r. among a (named rows q)) rows ≡ renewed o f (λ a r. same_text r q) rows
  named_chosen rows q = chosen_alike (λ a r. among a (named rows q)) (λ a r. same_text r q) rows (λ a row at. ap (λ b. cond b (row_after o f row) (Some row)) (alike a row at))
    where
      alike : (a : ℕ) (row : Row) → row_at rows a ≡ Some row → among a (named rows q) ≡ same_text row.reference q
      alike a row at =
          has-filter nat_cmp_total nat_cmp-IsAntisymmetric (λ a. is_named q (row_at rows a)) a (keys rows)
          ∙ (ap (λ b. is_named q (row_at rows a) && b) (found_key nat_cmp_total nat_cmp-IsAntisymmetric a rows row at)
          ∙ (and_true (is_named q (row_at rows a)) ∙ (ap (is_named q) at ∙ swapped_names q row.reference)))

  pub all_changed : (changed : List Ref) (rows : Rows) → IsChangedAmong o f changed rows → renewed o f (λ a r. list_any (same_text r) changed) rows ≡ over nat_cmp rows (λ a row. row_after o f row)
  all_changed changed rows is = chosen_alike (λ a r. list_any (same_text r) changed) (λ a r. true) rows (λ a row at. go a row at (list_any (same_text row.reference) changed) refl)
    where
      go : (a : ℕ) (row : Row) → row_at rows a ≡ Some row → (b : Bool) → list_any (same_text row.reference) changed ≡ b → cond b (row_after o f row) (Some row) ≡ row_after o f row
      go a row at true h = refl
      go a row at false h = sym (after_same row (λ own. is a row at own h))
