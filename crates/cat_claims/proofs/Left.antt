-- The rows that are left.
use Rattle.std.proofs.Common.{◌≡◌, ℕ, ◌+◌, ◌<◌, Bool, true, false, cond, not, ◌&&◌, ◌||◌, List, [], ◌∷◌, ◌++◌, length, take, get_or, refl, sym, ap, ◌∙◌, nat_cmp}
use Rattle.std.specs.declared.option.Option.{Option}
use Rattle.std.specs.declared.option.Option.TheVariants.{None, Some}
use Rattle.std.specs.Option.{option_and_then}
use Rattle.std.specs.List.{list_any}
use Rattle.std.specs.Cmp.{nat_cmp_total}
use Rattle.std.specs.FinMap.{nat_cmp-IsAntisymmetric}
use Rattle.std.specs.FinMap.Entries.{is_sorted, same_entries}
use Rattle.std.proofs.lemmas.List.{take_more}
use Rattle.std.proofs.lemmas.List.Folds.{list_any-append}
use Rattle.cat_collections.specs.Table.{keys, over, same_text}
use Rattle.cat_collections.proofs.Tables.{text_total, text_antisymmetric, find-over, found_key, is_sorted-tabulate, same_tabulated}
use Rattle.cat_collections.proofs.Orders.{has-filter}
use Rattle.cat_model.specs.Catalogue.{Ref, Holders, held, may_offer, standing, with_origin_held}
use Rattle.cat_model.specs.Rows.{Rows, given, is_from, row_at, same_origin}
use Rattle.cat_model.specs.declared.types.Origin.{Origin}
use Rattle.cat_model.specs.declared.types.Row.{Row}
use Rattle.cat_model.specs.declared.types.Origin.TheVariants.{Provider, Entity}
use Rattle.cat_model.specs.Mend.{AreOpen, is_of, left_by}
use Rattle.cat_claims.specs.Change.{among}
use Rattle.cat_claims.specs.Touched.{is_leaving, outside}
use Rattle.cat_claims.proofs.Outside.{same_sym, to_T}

abbrev not_of : List Ref → Row → Option Row
not_of refs row = cond (is_of refs row.origin) None (Some row)

row_left : (refs : List Ref) (rows : Rows) (a : ℕ) → row_at (left_by refs rows) a ≡ option_and_then (not_of refs) (row_at rows a)
row_left refs rows a = find-over nat_cmp_total nat_cmp-IsAntisymmetric a rows (λ a row. not_of refs row)

-- rows are left alike where each is
same_left : (f : ℕ → Row → Option Row) (refs : List Ref) (rows : Rows) → ((a : ℕ) (row : Row) → row_at rows a ≡ Some row → f a row ≡ not_of refs row)
    → over nat_cmp rows f ≡ left_by refs rows
same_left f refs rows alike = same_tabulated nat_cmp_total nat_cmp-IsAntisymmetric (keys rows) (keys rows) (λ a. option_and_then (f a) (row_at rows a)) (λ a. option_and_then (not_of refs) (row_at rows a))
    (λ a. find-over nat_cmp_total nat_cmp-IsAntisymmetric a rows f ∙ (go a (row_at rows a) refl ∙ sym (row_left refs rows a)))
  where
    go : (a : ℕ) (v : Option Row) → row_at rows a ≡ v → option_and_then (f a) v ≡ option_and_then (not_of refs) v
    go a None e = refl
    go a (Some row) e = alike a row e

-- the rows that a reference gave are those of its arrivals
pub given_outside : (rows : Rows) (e : Ref) → outside nat_cmp (given rows (Entity e)) rows ≡ left_by (e ∷ []) rows
given_outside rows e = same_left (λ a row. cond (among a (given rows (Entity e))) None (Some row)) (e ∷ []) rows (λ a row at. ap (λ b. cond b None (Some row)) (is_given a row at))
  where
    by_origin : (o : Origin) → (same_origin (Entity e) o && true) ≡ is_of (e ∷ []) o
    by_origin (Provider p) = refl
    by_origin (Entity f) = go (same_text e f) ∙ ap (λ b. b || false) (same_sym text_total text_antisymmetric e f)
      where
        go : (b : Bool) → (b && true) ≡ (b || false)
        go true = refl
        go false = refl

    is_given : (a : ℕ) (row : Row) → row_at rows a ≡ Some row → among a (given rows (Entity e)) ≡ is_of (e ∷ []) row.origin
    is_given a row at = has-filter nat_cmp_total nat_cmp-IsAntisymmetric (λ a. is_from (Entity e) (row_at rows a)) a (keys rows)
        ∙ ((λ j. is_from (Entity e) (at j) && found_key nat_cmp_total nat_cmp-IsAntisymmetric a rows row at j) ∙ by_origin row.origin)

left_twice : (refs : List Ref) (r : Ref) (rows : Rows) → left_by (r ∷ []) (left_by refs rows) ≡ left_by (refs ++ r ∷ []) rows
left_twice refs r rows = same_tabulated nat_cmp_total nat_cmp-IsAntisymmetric (keys (left_by refs rows)) (keys rows)
    (λ a. option_and_then (not_of (r ∷ [])) (row_at (left_by refs rows) a)) (λ a. option_and_then (not_of (refs ++ r ∷ [])) (row_at rows a))
    (λ a. row_left (r ∷ []) (left_by refs rows) a ∙ (ap (option_and_then (not_of (r ∷ []))) (row_left refs rows a) ∙ (go (row_at rows a) ∙ sym (row_left (refs ++ r ∷ []) rows a))))
  where
    either : (o : Origin) → is_of (refs ++ r ∷ []) o ≡ (is_of refs o || is_of (r ∷ []) o)
    either (Provider p) = refl
    either (Entity e) = list_any-append (same_text e) refs (r ∷ [])

    of : (row : Row) (b : Bool) → option_and_then (not_of (r ∷ [])) (cond b None (Some row)) ≡ cond (b || is_of (r ∷ []) row.origin) None (Some row)
    of row true = refl
    of row false = refl

    go : (v : Option Row) → option_and_then (not_of (r ∷ [])) (option_and_then (not_of refs) v) ≡ option_and_then (not_of (refs ++ r ∷ [])) v
    go None = refl
    go (Some row) = of row (is_of refs row.origin) ∙ ap (λ b. cond b None (Some row)) (sym (either row.origin))

-- the rows of one reference more go
pub left_more : (refs : List Ref) (i : ℕ) (r : Ref) (old now new : Rows) → i < length refs → new ≡ left_by (get_or refs i r ∷ []) now → now ≡ left_by (take i refs) old → new ≡ left_by (take (i + 1) refs) old
left_more refs i r old now new l e h =
    e ∙ (ap (left_by (get_or refs i r ∷ [])) h ∙ (left_twice (take i refs) (get_or refs i r) old ∙ sym (ap (λ rs. left_by rs old) (take_more refs i r l))))

-- at first all stay
pub left_none : (rows : Rows) → is_sorted nat_cmp rows ≡ true → rows ≡ left_by [] rows
left_none rows h = same_entries nat_cmp nat_cmp_total nat_cmp-IsAntisymmetric rows (left_by [] rows) (to_T _ h)
    (is_sorted-tabulate nat_cmp_total nat_cmp-IsAntisymmetric (keys rows) (λ a. option_and_then (not_of []) (row_at rows a)))
    (λ a. sym (row_left [] rows a ∙ go (row_at rows a)))
  where
    of_none : (o : Origin) → is_of [] o ≡ false
    of_none (Provider p) = refl
    of_none (Entity e) = refl

    go : (v : Option Row) → option_and_then (not_of []) v ≡ v
    go None = refl
    go (Some row) = ap (λ b. cond b None (Some row)) (of_none row.origin)

-- where each row's origin was a provider or held, those that stand are all but those that what is no longer held gave
pub standing_left : (rows : Rows) (before after : Holders) (leaving : List Ref) → AreOpen rows before → ((r : Ref) → list_any (same_text r) leaving ≡ is_leaving before after r)
    → standing rows after ≡ left_by leaving rows
standing_left rows before after leaving opens alike = same_left (λ a row. with_origin_held after row) leaving rows
    (λ a row at. ap (λ b. cond b (Some row) None) (offers row.origin (opens a row at)) ∙ turned (is_of leaving row.origin) row)
  where
    turned : (b : Bool) (row : Row) → cond (not b) (Some row) None ≡ cond b None (Some row)
    turned true row = refl
    turned false row = refl

    twice : (b : Bool) → b ≡ not (not b)
    twice true = refl
    twice false = refl

    offers : (o : Origin) → may_offer before o ≡ true → may_offer after o ≡ not (is_of leaving o)
    offers (Provider p) h = refl
    offers (Entity e) h = twice (held after e) ∙ ap not (sym (alike e ∙ ap (λ b. b && not (held after e)) h))
