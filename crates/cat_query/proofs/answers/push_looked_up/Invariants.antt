use Rattle.std.proofs.Common.{◌≡◌, ◌++◌, drop, false}
use Rattle.cat_query.specs.Answers.{IsKept, looked_up}
use Rattle.cat_query.proofs.Texts.{rest_text}
use Rattle.cat_query.proofs.answers.push_looked_up.Given as goal

-- what stood before is kept; what was appended, with what is left, is the whole
abbrev pub invariant-loop-reference : goal.invariant-loop-reference
invariant-loop-reference g l =
    IsKept l.initial.out.items l.out.items
    × (l.out.items ++ rest_text l.later (looked_up l.fields (g.D.Documents.pairs l.docs) (drop l.reference-index l.references))
    ≡ l.initial.out.items ++ rest_text false (looked_up l.fields (g.D.Documents.pairs l.docs) l.references))
