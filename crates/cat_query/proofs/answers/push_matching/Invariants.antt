use Rattle.std.proofs.Common.{◌≡◌, ◌++◌, drop, false, map}
use Rattle.cat_query.specs.Answers.{IsKept, shown}
use Rattle.cat_pages.specs.Page.{pair_seen}
use Rattle.cat_query.proofs.Texts.{rest_text}
use Rattle.cat_query.proofs.answers.push_matching.Given as goal

-- what stood before is kept; what was appended, with what is left, is the whole
abbrev pub invariant-loop-document : goal.invariant-loop-document
invariant-loop-document l =
    IsKept l.initial.out.items l.out.items
    × (l.out.items ++ rest_text l.later (shown l.fields (map pair_seen (drop l.document-index l.documents))) ≡ l.initial.out.items ++ rest_text false (shown l.fields (map pair_seen l.documents)))
