use Rattle.std.proofs.Common.{◌≡◌, ◌++◌, map, drop, true}
use Rattle.cat_tree.specs.Data.{members_of}
use Rattle.cat_tree.specs.View.{entry_of}
use Rattle.cat_state_parts.specs.Rows.{own_members}
use Rattle.cat_search.specs.Walk.{values_in_members}
use Rattle.cat_search.proofs.values.add_members.Given as goal

-- the values so far and those that are left are all
abbrev pub invariant-loop-name : goal.invariant-loop-name
invariant-loop-name l =
    l.values.items ++ values_in_members true l.key (own_members (members_of (map entry_of (drop l.name-index l.name-items))))
    ≡ l.fn.values.items ++ values_in_members true l.key (own_members (members_of (map entry_of l.name-items)))
