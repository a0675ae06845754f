-- Documents by reference, what differs between two sets of them, and changes that lead from one to the other.
use Rattle.std.specs.Prelude.{ℕ, ◌+◌, ◌-◌, Bool, true, false, List, [], ◌∷◌, ◌++◌, Option, None, Some, map, drop, length, nat_lt, if◌then◌else◌}
use Rattle.std.specs.List.{filter}
use Rattle.cat_tree.specs.Data.{Data}
use Rattle.cat_tree.specs.Same.{is_same}
use Rattle.cat_collections.specs.Rows.{without}
use Rattle.cat_collections.specs.Table.{Map, Text, get, keys, put, tabulate, text_cmp}
use Rattle.cat_feed.specs.declared.change.Change.{Change}

-- documents by reference, in order of reference
abbrev pub Documents : Type 0
Documents = Map Data

-- ---- what differs

-- a reference with the document that is new under it, or with nothing where none is there any more
abbrev pub Difference : Type 0
Difference = Text × Option Data

-- the same document is there as before, or none as before
abbrev pub is_unchanged : Option Data → Option Data → Bool
is_unchanged None None = true
is_unchanged None (Some e) = false
is_unchanged (Some d) None = false
is_unchanged (Some d) (Some e) = is_same d e

-- what is new where one was and another is, unless it is as before
abbrev pub new_at : Option Data → Option Data → Option (Option Data)
new_at old new = if is_unchanged old new then None else Some new

-- what is new under each reference whose document differs, in order of reference
abbrev pub differences : Documents → Documents → List Difference
differences old new = tabulate text_cmp (keys old ++ keys new) (λ r. new_at (get old r) (get new r))

-- every document as a new one
abbrev pub sets : Documents → List Difference
sets ds = map (λ e. (e.0, Some e.1)) ds

-- ---- changes

-- the differences as changes, whose numbers follow n
abbrev pub numbered : ℕ → List Difference → List Change
numbered n [] = []
numbered n (d ∷ ds) = (record { number = n + 1; reference = d.0; set = d.1 }) ∷ numbered (n + 1) ds

-- the documents with what is new under a reference
abbrev pub with_set : Text → Option Data → Documents → Documents
with_set r None ds = without text_cmp r ds
with_set r (Some d) ds = put text_cmp r d ds

-- the documents after the changes, one after the other
abbrev pub applied : List Change → Documents → Documents
applied [] ds = ds
applied (c ∷ cs) ds = applied cs (with_set c.reference c.set ds)

-- the changes whose numbers are above n
abbrev pub above : ℕ → List Change → List Change
above n cs = filter (λ c. nat_lt n c.number) cs

-- the last changes, at most so many
abbrev pub last : ℕ → List Change → List Change
last most cs = drop (length cs - most) cs
