use Rattle.std.proofs.Common.{◌≡◌, ◌++◌, map, drop}
use Rattle.cat_tree.specs.View.{data_of}
use Rattle.cat_schema.specs.Fields.{row_of}
use Rattle.cat_kinds.specs.Mentions.{mention_of, mentions_by_each}
use Rattle.cat_kinds.proofs.mention.mentions.Given as goal

-- what was found, with what the fields that are left mention, is the whole
abbrev pub invariant-loop-field : goal.invariant-loop-field
invariant-loop-field l =
    map mention_of l.found.items ++ mentions_by_each (data_of l.tree) (map row_of (drop l.field-index l.field-items)) ≡ mentions_by_each (data_of l.tree) (map row_of l.field-items)
