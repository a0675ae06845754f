-- Changes of the shelf.
use Rattle.std.specs.Prelude.{◌≡◌, Bool, false, not, List}
use Rattle.std.specs.List.{filter_map}
use Rattle.std.specs.Option.{option_map}
use Rattle.cat_collections.specs.Table.{Text, get, same_text}
use Rattle.cat_model.specs.declared.types.State.{State}
use Rattle.cat_model.specs.Rows.{Rows, reading, row_at}
use Rattle.cat_model.specs.Catalogue.{Ref, Rules, Shelf, same_option, work}
use Rattle.cat_plan.specs.Following.{held_state}

-- a state with another shelf
abbrev pub with_shelf : Shelf → State → State
with_shelf shelf m = record m { shelf = shelf }

-- the references of the rows whose descriptors may read a shelf name
abbrev pub readers_of : Text → Rows → List Ref
readers_of name rows = filter_map (λ a. option_map (λ row. row.reference) (row_at rows a)) (reading rows name)

-- the shelves have the same under each name but one
abbrev pub DifferAt : Text → Shelf → Shelf → Type 0
DifferAt name shelf other = (t : Text) → same_text t name ≡ false → get shelf t ≡ get other t

-- whether the work of a reference is another one over another shelf
abbrev pub reads_other : Rules → Shelf → State → Ref → Bool
reads_other rules shelf m r = not (same_option rules.same_work (work rules m r) (work rules (held_state shelf m.rows m.holders m) r))
