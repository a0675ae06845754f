use Rattle.std.proofs.Common.{◌≡◌, drop, map}
use Rattle.cat_tree.specs.Data.{items_of}
use Rattle.cat_tree.specs.View.{data_of}
use Rattle.cat_row_format.specs.Parsed.{each_of, offer_in, with_front}
use Rattle.cat_row_format.proofs.parse.offers_of.Given as goal

-- the offers so far, with those of the trees that are left, are those of all trees
abbrev pub invariant-loop-tree : goal.invariant-loop-tree
invariant-loop-tree l =
    with_front l.offers.items (each_of offer_in (items_of (map data_of (drop l.tree-index l.trees))))
    ≡ each_of offer_in (items_of (map data_of l.trees))
