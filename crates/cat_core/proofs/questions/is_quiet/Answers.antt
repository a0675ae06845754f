use Rattle.std.proofs.Common.{◌&&◌, nat_eq, sym, ap, ◌∙◌}
use Rattle.cat_model.specs.Settle.{due_refs, is_empty}
use Rattle.cat_core.proofs.Empty.{is_empty-length}
use Rattle.cat_core.proofs.questions.is_quiet.Goals as goal

pub returns-then-is_none_due : goal.returns-then-is_none_due
returns-then-is_none_due c =
    let m = c.args.m.now in
    let due = c.is_none_due.ensures ∙ is_empty-length (due_refs c.args.now m) in
    ap (λ n. nat_eq n 0) c.len.ensures ∙ (is_empty-length m.marks ∙ ap (λ b. b && is_empty m.marks) (sym c.if-is_none_due.true ∙ due))

pub returns-else-is_none_due : goal.returns-else-is_none_due
returns-else-is_none_due c =
    let m = c.args.m.now in
    let due = c.is_none_due.ensures ∙ is_empty-length (due_refs c.args.now m) in
    c.if-is_none_due.false ∙ ap (λ b. b && is_empty m.marks) (sym c.if-is_none_due.false ∙ due)
