use Rattle.std.proofs.Common.{refl}
use Rattle.cat_search.specs.Index.{with_documents, without_references}
use Rattle.cat_search.proofs.Listed.{agree_listed}
use Rattle.cat_state_parts.proofs.Waiting.{same_index}
use Rattle.cat_search.proofs.index.with_listed.Goals as goal

pub of_parts-requires-clause-lists : goal.of_parts-requires-clause-lists
of_parts-requires-clause-lists c =
    let parts = c.parts-parts.result in
    let rs = c.as_slice-entries.result.now in
    (same_index parts.documents.now c.in_ok-documents.documents (without_references rs parts.pending.now) c.in_ok-pending.pending
    (with_documents rs parts.documents.now parts.listed.now) c.in_ok-listed.listed c.in_ok-lists.lists c.in_ok-lists.lists
    c.in_ok-documents.ensures c.in_ok-pending.ensures c.in_ok-listed.ensures refl
    (c.in_ok-lists.ensures, agree_listed parts.pending.now parts.documents.now parts.listed.now rs c.parts-parts.ensures.others)).0

pub of_parts-requires-clause-others : goal.of_parts-requires-clause-others
of_parts-requires-clause-others c =
    let parts = c.parts-parts.result in
    let rs = c.as_slice-entries.result.now in
    (same_index parts.documents.now c.in_ok-documents.documents (without_references rs parts.pending.now) c.in_ok-pending.pending
    (with_documents rs parts.documents.now parts.listed.now) c.in_ok-listed.listed c.in_ok-lists.lists c.in_ok-lists.lists
    c.in_ok-documents.ensures c.in_ok-pending.ensures c.in_ok-listed.ensures refl
    (c.in_ok-lists.ensures, agree_listed parts.pending.now parts.documents.now parts.listed.now rs c.parts-parts.ensures.others)).1
