-- What a walk over documents has still to meet.
use Rattle.std.specs.Prelude.{[], ◌∷◌, Option, None, Some, option_map}
use Rattle.cat_tree.specs.Data.{Data}
use Rattle.cat_collections.specs.Left.{items_left}
use Rattle.cat_collections.specs.Table.{Text}
use Rattle.cat_feed.specs.Changes.{Documents}
use Rattle.cat_feed.specs.declared.differences.Rest.{Rest}

-- the documents from the first on; without a first none is left
abbrev pub with_first : Option (Text × Data) → Documents → Documents
with_first None ds = []
with_first (Some d) ds = d ∷ ds

-- the documents that are left
abbrev pub left : Rest → Documents
left r = with_first (option_map (λ e. e.now) r.first) (items_left r.after)
