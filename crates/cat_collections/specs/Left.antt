-- What an iterator has still to give.
use Rattle.std.specs.Prelude.{List, [], ◌∷◌, ◌++◌, drop}
use Rattle.std.specs.declared.option.Option.{Option}
use Rattle.std.specs.declared.option.Option.TheVariants.{None, Some}
use Rattle.cat_collections.specs.declared.tree.Items.{Items}
use Rattle.cat_collections.specs.declared.tree.Step.{Step}

-- what the part at hand still has, and what stands behind it
abbrev pub items_left : {A : Type 0} → Items A → List A
items_left it = drop it.place it.part.now ++ drop it.behind it.tree.now

-- the item that a step came to, and what comes behind it in a tree of these items
abbrev pub step_left : {A : Type 0} → List A → Option (Step A) → List A
step_left all None = []
step_left all (Some s) = s.item.now ∷ (drop s.place s.part.now ++ drop s.behind all)
