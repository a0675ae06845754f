-- What is put into a table and taken out of it.
use Rattle.std.specs.Prelude.{List, [], ◌∷◌}
use Rattle.std.specs.declared.cmp.Ordering.{Ordering}
use Rattle.cat_collections.specs.Rows.{without}
use Rattle.cat_collections.specs.Table.{puts}

-- the entries without these keys
abbrev pub without_all : {K X : Type 0} → (K → K → Ordering) → List K → List (K × X) → List (K × X)
without_all R [] m = m
without_all R (k ∷ ks) m = without_all R ks (without R k m)

-- the entries without what goes, and with what is put
abbrev pub amended : {K X : Type 0} → (K → K → Ordering) → List (K × X) → List K → List (K × X) → List (K × X)
amended R put gone m = puts R put (without_all R gone m)
