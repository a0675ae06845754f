-- The rows of an origin and of a reference, by what stands in lists.
use Rattle.std.proofs.Common.{◌≡◌, ℕ, Bool, true, false, cond, ◌&&◌, ◌||◌, inl, inr, List, [], ◌∷◌, refl, sym, ap, ◌∙◌, true≢false}
use Rattle.std.specs.declared.option.Option.{Option}
use Rattle.std.specs.declared.option.Option.TheVariants.{None, Some}
use Rattle.std.specs.Cmp.{nat_cmp_total}
use Rattle.std.specs.FinMap.{nat_cmp-IsAntisymmetric}
use Rattle.std.specs.List.{filter, list_any}
use Rattle.cat_collections.specs.Table.{Text, keys, same_text}
use Rattle.cat_collections.proofs.Tables.{and_first, and_second, same_is, same_self, text_antisymmetric, text_total}
use Rattle.cat_model.specs.Rows.{Rows, given, is_from, is_named, named, row_at, same_origin}
use Rattle.cat_model.specs.declared.types.Origin.{Origin}
use Rattle.cat_model.specs.declared.types.Row.{Row}
use Rattle.cat_model.proofs.Replaced.{same_origin-is, same_origin-self}
use Rattle.cat_stored_rows.proofs.In.{In, in_found, in_map}
use Rattle.cat_row_updates.specs.Places.{is_of}

pub in_filter : {A : Type 0} (p : A → Bool) (xs : List A) (x : A) → In x xs → p x ≡ true → In x (filter p xs)
in_filter p [] x h t = absurd h
in_filter p (y ∷ ys) x h t = go (p y) refl h (λ g. in_filter p ys x g t)
  where
    go : (b : Bool) → p y ≡ b → In x (y ∷ ys) → (In x ys → In x (filter p ys)) → In x (cond b (y ∷ filter p ys) (filter p ys))
    go true e (inl is) ih = inl is
    go true e (inr g) ih = inr (ih g)
    go false e (inl is) ih = absurd (true≢false (sym t ∙ (ap p is ∙ e)))
    go false e (inr g) ih = ih g

pub from_filter : {A : Type 0} (p : A → Bool) (xs : List A) (x : A) → In x (filter p xs) → In x xs × (p x ≡ true)
from_filter p [] x h = absurd h
from_filter p (y ∷ ys) x h = go (p y) refl h (from_filter p ys x)
  where
    go : (b : Bool) → p y ≡ b → In x (cond b (y ∷ filter p ys) (filter p ys)) → (In x (filter p ys) → In x ys × (p x ≡ true)) → In x (y ∷ ys) × (p x ≡ true)
    go true e (inl is) ih = (inl is, ap p is ∙ e)
    go true e (inr g) ih = let w = ih g in (inr w.0, w.1)
    go false e g ih = let w = ih g in (inr w.0, w.1)

pub in_refs : (r : Text) (refs : List Text) → list_any (same_text r) refs ≡ true → In r refs
in_refs r [] h = absurd (true≢false (sym h))
in_refs r (q ∷ refs) h = go (same_text r q) refl h (in_refs r refs)
  where
    go : (b : Bool) → same_text r q ≡ b → (b || list_any (same_text r) refs) ≡ true → (list_any (same_text r) refs ≡ true → In r refs) → In r (q ∷ refs)
    go true e g ih = inl (same_is text_total text_antisymmetric r q e)
    go false e g ih = inr (ih g)

-- ---- rows

in_keys : (rows : Rows) (a : ℕ) (row : Row) → row_at rows a ≡ Some row → In a (keys rows)
in_keys rows a row f = in_map (λ (e : ℕ × Row). e.0) (a, row) rows (in_found nat_cmp_total nat_cmp-IsAntisymmetric a rows row f)

pub in_given : (rows : Rows) (o : Origin) (a : ℕ) (row : Row) → row_at rows a ≡ Some row → row.origin ≡ o → In a (given rows o)
in_given rows o a row f is =
    in_filter (λ a. is_from o (row_at rows a)) (keys rows) a (in_keys rows a row f) (ap (is_from o) f ∙ (ap (same_origin o) is ∙ same_origin-self o))

pub from_given : (rows : Rows) (o : Origin) (a : ℕ) (row : Row) → In a (given rows o) → row_at rows a ≡ Some row → row.origin ≡ o
from_given rows o a row h f = sym (same_origin-is o row.origin (sym (ap (is_from o) f) ∙ (from_filter (λ a. is_from o (row_at rows a)) (keys rows) a h).1))

pub in_named : (rows : Rows) (r : Text) (a : ℕ) (row : Row) → row_at rows a ≡ Some row → row.reference ≡ r → In a (named rows r)
in_named rows r a row f is =
    in_filter (λ a. is_named r (row_at rows a)) (keys rows) a (in_keys rows a row f) (ap (is_named r) f ∙ (ap (same_text r) is ∙ same_self text_total text_antisymmetric r))

-- ---- a row of an origin and a reference

pub is_of-holds : (o : Origin) (r : Text) (row : Row) → row.origin ≡ o → row.reference ≡ r → is_of o r (Some row) ≡ true
is_of-holds o r row from names =
    ap (λ b. b && same_text r row.reference) (ap (same_origin o) from ∙ same_origin-self o)
    ∙ (ap (same_text r) names ∙ same_self text_total text_antisymmetric r)

-- there is a row, of this origin and this reference
pub record IsThatRow (v : Option Row) (o : Origin) (r : Text) : Type 0 where
  pub row : Row
  pub is : v ≡ Some row
  pub from : row.origin ≡ o
  pub names : row.reference ≡ r

pub is_of-tells : (o : Origin) (r : Text) (v : Option Row) → is_of o r v ≡ true → IsThatRow v o r
is_of-tells o r None h = absurd (true≢false (sym h))
is_of-tells o r (Some row) h = record {
  row = row;
  is = refl;
  from = sym (same_origin-is o row.origin (and_first _ _ h));
  names = sym (same_is text_total text_antisymmetric r row.reference (and_second (same_origin o row.origin) _ h));
}
