use Rattle.std.proofs.Common.{sym, ◌∙◌}
use Rattle.cat_row_reader.proofs.Starting.{nothing_read, state_at_start}
use Rattle.cat_row_reader.proofs.candidate.candidate.Goals as goal

pub returns-then-is_empty-clause-read : goal.returns-then-is_empty-clause-read
returns-then-is_empty-clause-read c = nothing_read c.args.texts.now c.empty_catalogue.result (sym c.is_empty.ensures ∙ c.if-is_empty.true) c.empty_catalogue.ensures

pub returns-in_ok-state_of-in-Some-clause-start : goal.returns-in_ok-state_of-in-Some-clause-start
returns-in_ok-state_of-in-Some-clause-start c = state_at_start c.in_ok-state_of-in-Some.field-0 c.as_slice-in-Some.result.now c.in_ok-state_of-in-Some.ensures
