use Rattle.std.proofs.Common.{sym, ap, ◌∙◌}
use Rattle.std.specs.Prelude.{Err}
use Rattle.std.proofs.lemmas.Result.{err_from_is_err_and}
use Rattle.std.specs.FinMap.Entries.{is_sorted}
use Rattle.cat_keeper.specs.Store.{row_cmp}
use Rattle.cat_tree.specs.View.{data_of}
use Rattle.cat_journal.proofs.Texts.{none_tree, none_changes, read_text, no_rise, no_text}
use Rattle.cat_journal.proofs.body.changes.Goals.{else-branch-via-then-branch+else-rise, else-branch-via-else-branch}
use Rattle.cat_journal.proofs.body.changes.Goals as goal

pub returns-in_err-tree-clause-none : goal.returns-in_err-tree-clause-none
returns-in_err-tree-clause-none c =
    let p = err_from_is_err_and c.from_residual.result c.from_residual.ensures.1 in
    none_tree c.args.body.now c.from_residual.result p.0 _ p.1 p.2 (λ same. c.in_err-tree.ensures.none (ap Err same))

pub returns-in_err-changes-clause-none : goal.returns-in_err-changes-clause-none
returns-in_err-changes-clause-none c =
    let p = err_from_is_err_and c.from_residual-in_err-changes.result c.from_residual-in_err-changes.ensures.1 in
    none_changes c.args.body.now (data_of c.in_ok-tree.tree) c.from_residual-in_err-changes.result p.0 _ p.1 p.2 c.in_err-changes.ensures.err c.in_ok-tree.ensures.ok

pub returns-then-rise-clause-ok : goal.returns-then-rise-clause-ok
returns-then-rise-clause-ok c =
    read_text c.args.body.now (data_of c.in_ok-tree.tree) c.in_ok-changes.changes.items _ c.in_ok-tree.ensures.ok c.in_ok-changes.ensures.ok c.in_ok-has_text.ensures c.if-branch.true
    (sym (c.rise.ensures ∙ ap (is_sorted row_cmp) c.as_slice.ensures.value) ∙ c.if-rise.true)

pub returns-clause-none : goal.returns-clause-none
returns-clause-none c =
    λ bad cs text. elim c.else-branch.branch [
      | else-branch-via-then-branch+else-rise w ↦ no_rise c.args.body.now (data_of c.in_ok-tree.tree) c.in_ok-changes.changes.items _ c.in_ok-tree.ensures.ok c.in_ok-changes.ensures.ok (w.rise.ensures ∙ ap (is_sorted row_cmp) w.as_slice.ensures.value) w.if-rise.false cs text
      | else-branch-via-else-branch w ↦ no_text c.args.body.now (data_of c.in_ok-tree.tree) _ c.in_ok-tree.ensures.ok c.in_ok-has_text.ensures w.if-branch.false cs text
    ]
