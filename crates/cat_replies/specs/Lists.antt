-- The answers that list what the catalogue has, as JSON.
use Rattle.std.specs.Prelude.{ℕ, Bool, List, [], ◌∷◌, ◌++◌, map, codes}
use Rattle.std.specs.List.{filter, list_any}
use Rattle.cat_tree.specs.Data.{Data, words, list, dict, items_of, members_of}
use Rattle.cat_collections.specs.Table.{Map}
use Rattle.cat_stitch.specs.Issues.{items_of_issues}
use Rattle.cat_model.specs.Catalogue.{Ref}
use Rattle.cat_model.specs.declared.types.Orphan.{Orphan}
use Rattle.cat_model.specs.declared.types.Origin.{Origin}
use Rattle.cat_model.specs.declared.types.Origin.TheVariants.{Provider, Entity}
use Rattle.cat_model.specs.declared.types.Record.{Record}
use Rattle.cat_model.specs.declared.types.Row.{Row}
use Rattle.cat_model.specs.declared.types.State.{State}
use Rattle.cat_model.specs.Reply.{Conflict, conflicts, is_error}

-- the references of the orphans in order
abbrev pub orphans_listed : Map Orphan → Data
orphans_listed orphans = list (items_of (map (λ e. words e.0) orphans))

-- ---- failures

-- a record with an issue of level error
abbrev pub is_failure : Ref × Record → Bool
is_failure e = list_any is_error e.1.issues

-- a record that failed is shown by its reference and all its status items
abbrev pub failure : Ref × Record → Data
failure e = dict (members_of ((codes "entityRef", words e.0) ∷ (codes "items", items_of_issues e.1.issues) ∷ []))

-- the records that failed, in order of reference
abbrev pub failures_in : Map Record → List Data
failures_in records = map failure (filter is_failure records)

-- the failures as a list
abbrev pub failures_listed : Map Record → Data
failures_listed records = list (items_of (failures_in records))

-- ---- conflicts

-- an origin is a provider by its name, or an entity by its reference
abbrev pub origin_text : Origin → List ℕ
origin_text (Provider name) = codes "provider:" ++ name
origin_text (Entity reference) = codes "entity:" ++ reference

-- a row is shown by its key and its origin
abbrev pub row_shown : Row → Data
row_shown row = dict (members_of ((codes "key", words row.offered.key) ∷ (codes "origin", words (origin_text row.origin)) ∷ []))

-- a conflict is shown by its reference, the row that holds and the row that waits
abbrev pub conflict_shown : Conflict → Data
conflict_shown c = dict (members_of (
    (codes "entityRef", words c.waiting.reference)
    ∷ (codes "holder", row_shown c.holder)
    ∷ (codes "waiting", row_shown c.waiting)
    ∷ []))

-- the conflicts as a list
abbrev pub conflicts_shown : List Conflict → Data
conflicts_shown found = list (items_of (map conflict_shown found))

-- the conflicts of a catalogue, by reference and arrival
abbrev pub conflicts_listed : State → Data
conflicts_listed m = conflicts_shown (conflicts m)
