use Rattle.std.proofs.Common.{◌≡◌, ◌++◌, drop, false, map}
use Rattle.cat_query.specs.Answers.{IsKept, shown}
use Rattle.cat_pages.specs.Seen.{pair_of}
use Rattle.cat_query.proofs.Texts.{rest_text}
use Rattle.cat_query.proofs.answers.push_items.Given as goal

-- what stood before is kept; what was appended, with what is left, is the whole
abbrev pub invariant-loop-item : goal.invariant-loop-item
invariant-loop-item l =
    IsKept l.initial.out.items l.out.items
    × (l.out.items ++ rest_text l.later (shown l.fields (map pair_of (drop l.item-index l.items))) ≡ l.initial.out.items ++ rest_text false (shown l.fields (map pair_of l.items)))
