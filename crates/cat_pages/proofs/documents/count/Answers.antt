use Rattle.std.proofs.Common.{sym, ◌∙◌}
use Rattle.cat_pages.proofs.Walks.{all_match}
use Rattle.cat_pages.proofs.documents.count.Goals as goal

pub returns-then-is_empty : goal.returns-then-is_empty
returns-then-is_empty c = c.len.ensures ∙ all_match c.args.filters.now c.args.docs.now (sym c.if-is_empty.ensures)
