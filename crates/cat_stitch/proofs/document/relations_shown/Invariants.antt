use Rattle.std.proofs.Common.{◌≡◌, take, map}
use Rattle.cat_tree.specs.View.{data_of}
use Rattle.cat_stitch.specs.Document.{entry_of_relation}
use Rattle.cat_stitch.proofs.document.relations_shown.Given as goal

abbrev pub invariant-loop-relation : goal.invariant-loop-relation
invariant-loop-relation l = map data_of l.entries.items ≡ map entry_of_relation (take l.relation-index l.relations)
