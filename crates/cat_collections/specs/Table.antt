-- Finite maps as lists of entries, with std's `find` and `put`. What is said of a map is said of what `find` gives.
use Rattle.std.specs.Prelude.{ℕ, suc, Bool, cond, List, [], ◌∷◌, map}
use Rattle.std.specs.declared.cmp.Ordering.{Ordering}
use Rattle.std.specs.declared.option.Option.{Option}
use Rattle.std.specs.declared.option.Option.TheVariants.{None, Some}
use Rattle.std.specs.Option.{option_and_then}
use Rattle.std.specs.Ordering.{eq_by_cmp}
pub use Rattle.std.specs.FinMap.Entries.{find, put}
pub use Rattle.cat_key.specs.Texts.{Text, text_cmp, text_total, text_antisymmetric}

-- whether two texts are one
abbrev pub same_text : Text → Text → Bool
same_text = eq_by_cmp text_cmp

-- from texts, references among them
abbrev pub Map : Type 0 → Type 0
Map X = List (Text × X)

-- the value at a text
abbrev pub get : {X : Type 0} → Map X → Text → Option X
get m q = find text_cmp q m

-- the keys in order
abbrev pub keys : {K X : Type 0} → List (K × X) → List K
keys m = map (λ e. e.0) m

-- the map with the value at the key, if there is a value
abbrev pub put_some : {K X : Type 0} → (K → K → Ordering) → K → Option X → List (K × X) → List (K × X)
put_some R k None m = m
put_some R k (Some v) m = put R k v m

-- the map with f's value at each of the keys that has one
abbrev pub tabulate : {K X : Type 0} → (K → K → Ordering) → List K → (K → Option X) → List (K × X)
tabulate R [] f = []
tabulate R (k ∷ ks) f = put_some R k (f k) (tabulate R ks f)

-- the map with each value changed, or dropped, by f
abbrev pub over : {K X Y : Type 0} → (K → K → Ordering) → List (K × X) → (K → X → Option Y) → List (K × Y)
over R m f = tabulate R (keys m) (λ k. option_and_then (f k) (find R k m))

-- the first of the keys that passes
abbrev pub first : {K : Type 0} → (K → Bool) → List K → Option K
first p [] = None
first p (k ∷ ks) = cond (p k) (Some k) (first p ks)

-- how many keys stand before k
abbrev pub place : {K : Type 0} → (K → K → Ordering) → K → List K → ℕ
place R k [] = 0
place R k (x ∷ xs) = cond (eq_by_cmp R k x) 0 (suc (place R k xs))

-- the map with these entries put in, one after the other
abbrev pub puts : {K X : Type 0} → (K → K → Ordering) → List (K × X) → List (K × X) → List (K × X)
puts R [] m = m
puts R (e ∷ es) m = puts R es (put R e.0 e.1 m)
