-- What an iterator has still to give.
use Rattle.std.specs.Prelude.{List, drop}
use Rattle.cat_owned_map.specs.declared.boxed.BoxedItems.{BoxedItems}

abbrev pub boxed_left : {E : Type 0} → BoxedItems E → List E
boxed_left it = drop it.place it.tree.now
