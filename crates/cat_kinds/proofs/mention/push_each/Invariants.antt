use Rattle.std.proofs.Common.{◌≡◌, ◌++◌, map, drop}
use Rattle.cat_tree.specs.Data.{items_of}
use Rattle.cat_tree.specs.View.{data_of}
use Rattle.cat_schema.specs.Fields.{row_of}
use Rattle.cat_kinds.specs.Mentions.{mention_of, mentions_among}
use Rattle.cat_kinds.proofs.mention.push_each.Given as goal

-- what was pushed, with what is left, is the whole
abbrev pub invariant-loop-position : goal.invariant-loop-position
invariant-loop-position l =
    map mention_of l.found.items ++ mentions_among (row_of l.field) l.position (items_of (map data_of (drop l.position l.trees)))
    ≡ map mention_of l.initial.found.items ++ mentions_among (row_of l.field) 0 (items_of (map data_of l.trees))
