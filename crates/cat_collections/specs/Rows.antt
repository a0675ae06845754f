-- Rows by key, in order of the keys.
use Rattle.std.specs.Prelude.{◌≡◌, ℕ, ◌<◌, ◌≤◌, not, List, length, slice_index_or}
use Rattle.std.specs.List.{filter}
use Rattle.std.specs.declared.cmp.Ordering.{Ordering}
use Rattle.std.specs.declared.cmp.Ordering.TheVariants.{Less, Equal, Greater}
use Rattle.std.specs.Ordering.{eq_by_cmp}

-- the row at this place has the key, and the rows before it have lower ones
pub record IsAt {K X : Type 0} (R : K → K → Ordering) (key : K) (rows : List (K × X)) (place : ℕ) : Type 0 where
  pub within : place < length rows
  pub below : (i : ℕ) (d : K × X) → i < place → R key (slice_index_or rows i d).0 ≡ Greater
  pub tied : (d : K × X) → R key (slice_index_or rows place d).0 ≡ Equal

-- no row has the key: the rows before this place have lower ones, the others higher ones
pub record IsBetween {K X : Type 0} (R : K → K → Ordering) (key : K) (rows : List (K × X)) (place : ℕ) : Type 0 where
  pub within : place ≤ length rows
  pub below : (i : ℕ) (d : K × X) → i < place → R key (slice_index_or rows i d).0 ≡ Greater
  pub above : (i : ℕ) (d : K × X) → place ≤ i → i < length rows → R key (slice_index_or rows i d).0 ≡ Less

-- the rows with other keys
abbrev pub without : {K X : Type 0} → (K → K → Ordering) → K → List (K × X) → List (K × X)
without R key rows = filter (λ e. not (eq_by_cmp R key e.0)) rows
