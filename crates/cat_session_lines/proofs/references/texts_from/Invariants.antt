use Rattle.std.proofs.Common.{◌≡◌, map, drop}
use Rattle.cat_tree.specs.Data.{items_of}
use Rattle.cat_tree.specs.View.{data_of}
use Rattle.cat_inputs.specs.Body.{with_front, texts_from}
use Rattle.cat_inputs.specs.declared.fault.Place.TheVariants.{EntityRefs}
use Rattle.cat_session_lines.proofs.references.texts_from.Given as goal

-- the texts so far, with those of the members that are left, are those of all members
abbrev pub invariant-loop-tree : goal.invariant-loop-tree
invariant-loop-tree l =
    with_front (map (λ t. t.now) l.texts.items) (texts_from EntityRefs (items_of (map data_of (drop l.tree-index l.trees))))
    ≡ texts_from EntityRefs (items_of (map data_of l.trees))
