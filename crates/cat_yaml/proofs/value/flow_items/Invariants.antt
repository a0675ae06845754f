use Rattle.std.proofs.Common.{◌≡◌, [], drop, map}
use Rattle.cat_tree.specs.View.{data_of}
use Rattle.cat_yaml.specs.Value.{flow_items}
use Rattle.cat_yaml.proofs.value.flow_items.Given as goal

-- the values so far, with those of the rest, are all values
abbrev pub invariant-loop-turn : goal.invariant-loop-turn
invariant-loop-turn l =
    flow_items (drop l._turn-index l.bytes) (map data_of l.items.items) l.rest ≡ flow_items l.bytes [] l.bytes
