use Rattle.std.proofs.Common.{◌≡◌, ◌++◌, false, map}
use Rattle.cat_query.proofs.Texts.{rest_text}
use Rattle.cat_collections.specs.Left.{items_left}
use Rattle.cat_mirror.proofs.answer.push_documents.Given as goal

-- what was appended, with the documents that are left, is the whole
abbrev pub invariant-loop-document : goal.invariant-loop-document
invariant-loop-document l =
    goal.iterator-loop-document.can_next l.document-iterator
    × goal.iterator-loop-document.is_finite l.document-iterator
    × (l.out.items ++ rest_text l.later (map (λ e. e.1) (items_left l.document-iterator)) ≡ l.initial.out.items ++ rest_text false (map (λ e. e.1) l.documents))
