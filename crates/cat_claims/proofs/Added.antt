-- Rows that are added, each at the next arrival.
use Rattle.std.proofs.Common.{◌≡◌, ℕ, ◌+◌, ◌<◌, ◌≤◌, Bool, true, false, cond, ◌&&◌, ◌||◌, List, [], ◌∷◌, refl, sym, ap, ◌∙◌, is_some, true≢false, arith, nat_cmp, nat_le, nat_lt}
use Rattle.std.specs.declared.option.Option.{Option}
use Rattle.std.specs.declared.option.Option.TheVariants.{None, Some}
use Rattle.std.specs.Option.{option_and_then}
use Rattle.std.specs.Ordering.{eq_by_cmp}
use Rattle.std.specs.List.{filter, list_any}
use Rattle.std.specs.Cmp.{nat_cmp_total}
use Rattle.std.specs.FinMap.{nat_cmp-IsAntisymmetric}
use Rattle.std.specs.FinMap.Entries.{find-put, is_some-find}
use Rattle.std.proofs.lemmas.Bool.Decides.{nat_tests}
use Rattle.cat_collections.specs.Table.{find, keys, over, put, same_text}
use Rattle.cat_collections.proofs.Orders.{has-filter}
use Rattle.cat_collections.proofs.Tables.{and_first, and_second, find-over, same_self}
use Rattle.cat_types.specs.declared.input.Offered.{Offered}
use Rattle.cat_model.specs.Catalogue.{Ref}
use Rattle.cat_model.specs.Rows.{Rows, given, is_from, is_named, named, row_at, same_origin}
use Rattle.cat_model.specs.Step.{add_offer, add_offers, has_row, is_offer, row_after}
use Rattle.cat_model.specs.declared.types.Numbered.{Numbered}
use Rattle.cat_model.specs.declared.types.Origin.{Origin}
use Rattle.cat_model.specs.declared.types.Row.{Row}
use Rattle.cat_claims.specs.Change.{AreAmong, among}
use Rattle.cat_claims.specs.Renewed.{AreBelow}
use Rattle.cat_claims.proofs.Renewed.{and_true, same_number}

-- ---- whether there is a row of an origin and reference

-- the rows of the reference show it
pub has_named : (rows : Rows) (o : Origin) (q : Ref) → list_any (λ a. is_from o (row_at rows a)) (named rows q) ≡ has_row rows o q
has_named rows o q = go (keys rows)
  where
    of_origin : ℕ → Bool
    of_origin a = is_from o (row_at rows a)

    kept : List ℕ → List ℕ
    kept ks = filter (λ a. is_named q (row_at rows a)) ks

    by_name : (k : ℕ) (ks : List ℕ) (row : Row) (l : Bool) → row_at rows k ≡ Some row → list_any of_origin (kept ks) ≡ l → (c : Bool)
        → list_any of_origin (cond c (k ∷ kept ks) (kept ks)) ≡ ((same_origin o row.origin && c) || l)
    by_name k ks row l e ih true = ap (λ b. b || list_any of_origin (kept ks)) (ap (is_from o) e ∙ sym (and_true (same_origin o row.origin))) ∙ ap (λ b. (same_origin o row.origin && true) || b) ih
    by_name k ks row l e ih false = ih ∙ none (same_origin o row.origin)
      where
        none : (b : Bool) → l ≡ ((b && false) || l)
        none true = refl
        none false = refl

    by_row : (k : ℕ) (ks : List ℕ) (l : Bool) → list_any of_origin (kept ks) ≡ l → (v : Option Row) → row_at rows k ≡ v
        → list_any of_origin (cond (is_named q v) (k ∷ kept ks) (kept ks)) ≡ (is_offer o q v || l)
    by_row k ks l ih None e = ih
    by_row k ks l ih (Some row) e = by_name k ks row l e ih (same_text q row.reference)

    go : (ks : List ℕ) → list_any of_origin (kept ks) ≡ list_any (λ a. is_offer o q (row_at rows a)) ks
    go [] = refl
    go (k ∷ ks) = by_row k ks (list_any (λ a. is_offer o q (row_at rows a)) ks) (go ks) (row_at rows k) refl

-- ---- arrivals

-- where all are below an arrival, no row has it
pub none_at : (rows : Rows) (next : ℕ) → AreBelow rows next → row_at rows next ≡ None
none_at rows next below = go (row_at rows next) refl
  where
    go : (v : Option Row) → row_at rows next ≡ v → v ≡ None
    go None e = refl
    go (Some row) e = let l = below next row e in absurd (omega arith)

pub below_put : (rows : Rows) (next : ℕ) (row : Row) → AreBelow rows next → AreBelow (put nat_cmp next row rows) (next + 1)
below_put rows next row below a z e = go (eq_by_cmp nat_cmp a next) refl (sym (find-put nat_cmp nat_cmp_total a next row rows) ∙ e)
  where
    go : (b : Bool) → eq_by_cmp nat_cmp a next ≡ b → cond b (Some row) (row_at rows a) ≡ Some z → a < next + 1
    go true is e = let s = same_number a next is in omega arith
    go false is e = let l = below a z e in omega arith

pub below_kept : (rows : Rows) (next : ℕ) (o : Origin) (f : Ref → Option Offered) → AreBelow rows next → AreBelow (over nat_cmp rows (λ a row. row_after o f row)) next
below_kept rows next o f below a z e = go (row_at rows a) refl (sym (find-over nat_cmp_total nat_cmp-IsAntisymmetric a rows (λ a row. row_after o f row)) ∙ e)
  where
    go : (v : Option Row) → row_at rows a ≡ v → option_and_then (row_after o f) v ≡ Some z → a < next
    go None at h = absurd (true≢false (sym (ap is_some h)))
    go (Some row) at h = below a row at

-- what has a row keeps one where rows are added
pub stays : (o : Origin) (f : Ref → Option Offered) (order : List Ref) (x : Numbered) (a : ℕ) → is_some (row_at x.rows a) ≡ true → is_some (row_at (add_offers o f order x).rows a) ≡ true
stays o f [] x a h = h
stays o f (r ∷ rs) x a h = stays o f rs (add_offer o r (f r) x) a (one (f r))
  where
    grown : (row : Row) (b : Bool) → is_some (cond b (Some row) (row_at x.rows a)) ≡ true
    grown row true = refl
    grown row false = h

    by_row : (row : Row) (b : Bool) → is_some (row_at (cond b x (record { rows = put nat_cmp x.next row x.rows; next = x.next + 1 })).rows a) ≡ true
    by_row row true = h
    by_row row false = ap is_some (find-put nat_cmp nat_cmp_total a x.next row x.rows) ∙ grown row (eq_by_cmp nat_cmp a x.next)

    one : (v : Option Offered) → is_some (row_at (add_offer o r v x).rows a) ≡ true
    one None = h
    one (Some offered) = by_row (record { origin = o; reference = r; offered = offered }) (has_row x.rows o r)

-- one arrival more
pub arrivals_more : (first next : ℕ) (set : List (ℕ × Unit {0})) → ((a : ℕ) → first ≤ a → a < next → among a (keys set) ≡ true) → (more : List (ℕ × Unit {0})) → more ≡ put nat_cmp next (tt {0}) set
    → (a : ℕ) → first ≤ a → a < next + 1 → among a (keys more) ≡ true
arrivals_more first next set all more is a l u = ap (λ s. among a (keys s)) is ∙ (sym (is_some-find nat_cmp a (put nat_cmp next (tt {0}) set)) ∙ (ap is_some (find-put nat_cmp nat_cmp_total a next (tt {0}) set) ∙ go (eq_by_cmp nat_cmp a next) refl))
  where
    below : (b : Bool) → nat_lt a next ≡ b → eq_by_cmp nat_cmp a next ≡ false → a < next
    below true h e = grind (arith, nat_tests)
    below false h e =
        let s : a ≡ next = grind (arith, nat_tests) in
        absurd (true≢false (sym (ap (λ x. eq_by_cmp nat_cmp x next) s ∙ same_self nat_cmp_total nat_cmp-IsAntisymmetric next) ∙ e))

    go : (b : Bool) → eq_by_cmp nat_cmp a next ≡ b → is_some (cond b (Some (tt {0})) (find nat_cmp a set)) ≡ true
    go true e = refl
    go false e = is_some-find nat_cmp a set ∙ all a l (below (nat_lt a next) refl e)

-- the new rows of an origin are among the arrivals up to the next
pub new_among : (rows : Rows) (o : Origin) (first next : ℕ) (arrivals : List ℕ) → AreBelow rows next → ((a : ℕ) → first ≤ a → a < next → among a arrivals ≡ true) → AreAmong (filter (nat_le first) (given rows o)) arrivals
new_among rows o first next arrivals below all a h = go (row_at rows a) refl (and_first _ _ (sym (has-filter nat_cmp_total nat_cmp-IsAntisymmetric (λ b. is_from o (row_at rows b)) a (keys rows)) ∙ and_second _ _ both))
  where
    both : (nat_le first a && among a (given rows o)) ≡ true
    both = sym (has-filter nat_cmp_total nat_cmp-IsAntisymmetric (nat_le first) a (given rows o)) ∙ h

    reached : (x y : ℕ) → nat_le x y ≡ true → x ≤ y
    reached x y e = grind (arith, nat_tests)

    go : (v : Option Row) → row_at rows a ≡ v → is_from o v ≡ true → among a arrivals ≡ true
    go None e is = absurd (true≢false (sym is))
    go (Some row) e is = all a (reached first a (and_first _ _ both)) (below a row e)
