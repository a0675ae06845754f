use Rattle.std.proofs.Common.{◌≡◌, ◌++◌, [], map, drop}
use Rattle.cat_tree.specs.Data.{members_of}
use Rattle.cat_tree.specs.View.{entry_of}
use Rattle.cat_state_parts.specs.Rows.{member_rows, own_members}
use Rattle.cat_search.specs.Terms.{terms}
use Rattle.cat_search.proofs.terms.add_members.Given as goal

-- the terms so far and those that are left are all
abbrev pub invariant-loop-key : goal.invariant-loop-key
invariant-loop-key l =
    l.found.items ++ terms (member_rows [] (own_members (members_of (map entry_of (drop l.key-index l.key-items)))))
    ≡ l.fn.found.items ++ terms (member_rows [] (own_members (members_of (map entry_of l.key-items))))
