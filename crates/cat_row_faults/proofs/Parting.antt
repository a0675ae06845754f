-- Where rows part from others.
use Rattle.std.proofs.Common.{◌≡◌, ℕ, ◌+◌, ◌<◌, ◌≤◌, Bool, true, false, List, [], ◌∷◌, length, suc, refl, sym, ap, subst, ◌∙◌, arith, ltb, ltb-true, ltb-false}
use Rattle.std.specs.Prelude.{MatchOption, slice_get}
use Rattle.std.specs.Option.{option_map}
use Rattle.std.specs.declared.option.Option.{Option}
use Rattle.std.specs.declared.option.Option.TheVariants.{None, Some}
use Rattle.std.proofs.lemmas.Option.{none-some, same_Some, slice_get_past}
use Rattle.cat_collections.specs.Table.{Text}
use Rattle.cat_keeper.specs.Store.{RowKey, Rows}
use Rattle.cat_row_faults.specs.Difference.{PartAt, earlier}
use Rattle.cat_row_faults.specs.Named.{named_at}

-- two that name nothing are no rows
neither : (a b : Option (RowKey × Text)) → earlier (option_map (λ e. e.0) a) (option_map (λ e. e.0) b) ≡ None → a ≡ b
neither None None is = refl
neither None (Some y) is = absurd (none-some _ (sym is))
neither (Some x) None is = absurd (none-some _ (sym is))
neither (Some x) (Some y) is = absurd (none-some _ (sym is))

-- at the first place in which they differ, rows part from others
pub parted : (rows others : Rows) (place : ℕ) → ¬ (slice_get rows place ≡ slice_get others place) → ((p : ℕ) → p < place → slice_get rows p ≡ slice_get others p)
    → (key : Option RowKey) → earlier (named_at rows place) (named_at others place) ≡ key → MatchOption key (rows ≡ others) (PartAt rows others)
parted rows others place apart before None is = absurd (apart (neither (slice_get rows place) (slice_get others place) is))
parted rows others place apart before (Some key) is = record { place = place; apart = apart; before = before; named = is }

-- lists that have the same in each place are one
pub same_lists : {A : Type 0} (xs ys : List A) → ((p : ℕ) → slice_get xs p ≡ slice_get ys p) → xs ≡ ys
same_lists [] [] same = refl
same_lists [] (y ∷ ys) same = absurd (none-some _ (same 0))
same_lists (x ∷ xs) [] same = absurd (none-some _ (sym (same 0)))
same_lists (x ∷ xs) (y ∷ ys) same = ap (λ v. v ∷ xs) (same_Some x y (same 0)) ∙ ap (λ l. y ∷ l) (same_lists xs ys (λ p. same (suc p)))

-- with the same in one place more
pub one_further : (rows others : Rows) (place : ℕ) → ((p : ℕ) → p < place → slice_get rows p ≡ slice_get others p) → slice_get rows place ≡ slice_get others place
    → (p : ℕ) → p < place + 1 → slice_get rows p ≡ slice_get others p
one_further rows others place before here p h = go (ltb p place) refl
  where
    go : (b : Bool) → ltb p place ≡ b → slice_get rows p ≡ slice_get others p
    go true e = before p (ltb-true p place e)
    go false e = let high = ltb-false p place e in let same : p ≡ place = omega (arith, high, h) in subst (λ q. slice_get rows q ≡ slice_get others q) (sym same) here

-- rows that have the same in all places up to one past both are one
pub all_same : (rows others : Rows) (most place : ℕ) → length rows ≤ most → length others ≤ most → most ≤ place
    → ((p : ℕ) → p < place → slice_get rows p ≡ slice_get others p) → rows ≡ others
all_same rows others most place one two past before = same_lists rows others (λ p. at p (ltb p place) refl)
  where
    at : (p : ℕ) (b : Bool) → ltb p place ≡ b → slice_get rows p ≡ slice_get others p
    at p true e = before p (ltb-true p place e)
    at p false e = let high = ltb-false p place e in slice_get_past rows p (omega (arith, one, past, high)) ∙ sym (slice_get_past others p (omega (arith, two, past, high)))
