use Rattle.std.proofs.Common.{◌≡◌, ◌++◌, drop, false, map}
use Rattle.cat_query.specs.Answers.{IsKept}
use Rattle.cat_query.proofs.Texts.{rest_text}
use Rattle.cat_feed.specs.Written.{change_data}
use Rattle.cat_feed.proofs.write.push_list.Given as goal

-- what stood before is kept; what was appended, with what is left, is the whole
abbrev pub invariant-loop-change : goal.invariant-loop-change
invariant-loop-change l =
    IsKept l.initial.out.items l.out.items
    × (l.out.items ++ rest_text l.later (map change_data (drop l.change-index l.changes)) ≡ l.initial.out.items ++ rest_text false (map change_data l.changes))
