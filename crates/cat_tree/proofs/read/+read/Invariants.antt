use Rattle.std.proofs.Common.{◌≡◌, List, ◌++◌, take, drop, map}
use Rattle.serde_json.specs.View.{items_view, members_view}
use Rattle.serde_json.specs.Written.{items_have_float, members_have_float}
use Rattle.serde_json.proofs.Views.{Entry}
use Rattle.cat_tree.specs.Seen.{seen_tree, seen_entry}
use Rattle.cat_tree.specs.Data.{items_of, members_of}
use Rattle.cat_tree.specs.Proper.{ItemsNarrow, MembersNarrow}
use Rattle.cat_tree.specs.View.{data_of, entry_of}
use Rattle.cat_tree.proofs.read.+read.Given as goal

abbrev pub invariant-trees_from-loop-value : goal.invariant-trees_from-loop-value
invariant-trees_from-loop-value l =
    (map data_of l.found.items ≡ map seen_tree (take l.value-index l.value-items))
    × (items_have_float (items_view (drop l.value-index l.value-items)) ≡ items_have_float (items_view l.value-items))
    × ItemsNarrow (items_of (map data_of l.found.items))

abbrev pub invariant-pairs_from-loop-key : goal.invariant-pairs_from-loop-key
invariant-pairs_from-loop-key l =
    (done : List Entry) × (l.members.entries ≡ done ++ l.key-iterator)
    × (map entry_of l.found.items ≡ map seen_entry done)
    × (members_have_float (members_view l.key-iterator) ≡ members_have_float (members_view l.members.entries))
    × MembersNarrow (members_of (map entry_of l.found.items))
