use Rattle.std.proofs.Common.{◌≡◌, map, drop, true}
use Rattle.std.specs.Option.{option_copied}
use Rattle.cat_tree.specs.Data.{members_of}
use Rattle.cat_tree.specs.View.{entry_of}
use Rattle.cat_state_parts.specs.Rows.{own_members}
use Rattle.cat_search.specs.Walk.{is_found_in_members}
use Rattle.cat_search.proofs.document.has_member_row.Given as goal

-- what is found is found in what is left
abbrev pub invariant-loop-name : goal.invariant-loop-name
invariant-loop-name l =
    is_found_in_members true l.key (option_copied l.value) (own_members (members_of (map entry_of (drop l.name-index l.name-items))))
    ≡ is_found_in_members true l.key (option_copied l.value) (own_members (members_of (map entry_of l.name-items)))
