-- What differs between two sets of documents in order, as one walk over both finds it.
use Rattle.std.specs.Prelude.{List, [], ◌∷◌, ◌++◌, None, Some, if◌then◌else◌}
use Rattle.std.specs.FinMap.Entries.{by_order}
use Rattle.cat_tree.specs.Data.{Data}
use Rattle.cat_tree.specs.Same.{is_same}
use Rattle.cat_collections.specs.Table.{Text, text_cmp}
use Rattle.cat_feed.specs.Changes.{Difference, Documents, sets}

-- the new document, unless it is the old one
abbrev pub unless_same : Data → Text × Data → List Difference
unless_same old d = if is_same old d.1 then [] else (d.0, Some d.1) ∷ []

-- the documents up to an old one, what became of that one, and then what follows from the documents that are left
abbrev pub walked_at : Text × Data → (Documents → List Difference) → Documents → List Difference
walked_at e next [] = (e.0, None) ∷ next []
walked_at e next (d ∷ ds) = by_order (text_cmp e.0 d.0) ((e.0, None) ∷ next (d ∷ ds)) (unless_same e.1 d ++ next ds) ((d.0, Some d.1) ∷ walked_at e next ds)

-- the old documents one after the other, and then the new ones that are left
abbrev pub walked : Documents → Documents → List Difference
walked [] ds = sets ds
walked (e ∷ es) ds = walked_at e (walked es) ds
