-- What a change puts into a table, and what it takes out.
use Rattle.std.specs.Prelude.{List, [], ◌∷◌}
use Rattle.std.specs.declared.option.Option.{Option}
use Rattle.std.specs.declared.option.Option.TheVariants.{None, Some}
use Rattle.cat_collections.specs.Table.{Map, Text, text_cmp}
use Rattle.cat_types.specs.Amended.{amended as amended_by, without_all as without_keys}

-- the entries with this one before them, where it has a value
abbrev pub entry_before : {X : Type 0} → Text → Option X → Map X → Map X
entry_before r None es = es
entry_before r (Some x) es = (r, x) ∷ es

-- the entries that a function gives these references, in their turn; one without a value is left out
abbrev pub entries_of : {X : Type 0} → (Text → Option X) → List Text → Map X
entries_of f [] = []
entries_of f (r ∷ rs) = entry_before r (f r) (entries_of f rs)

-- a table without these references
abbrev pub without_all : {X : Type 0} → List Text → Map X → Map X
without_all rs m = without_keys text_cmp rs m

-- a table without what goes, and with what is put
abbrev pub amended : {X : Type 0} → Map X → List Text → Map X → Map X
amended put gone m = amended_by text_cmp put gone m
