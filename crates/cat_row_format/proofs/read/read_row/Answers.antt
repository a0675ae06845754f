use Rattle.std.proofs.Common.{sym, ◌∙◌}
use Rattle.std.proofs.lemmas.Result.{err_from_is_err_and}
use Rattle.cat_tree.specs.View.{data_of}
use Rattle.cat_row_format.proofs.Alone.{only_one, refused, no_texts, no_form}
use Rattle.cat_row_format.proofs.read.read_row.Goals.{else-branch-via-then-branch+else-is_formed, else-branch-via-else-branch}
use Rattle.cat_row_format.proofs.read.read_row.Goals as goal

pub returns-in_err-row-clause-bad : goal.returns-in_err-row-clause-bad
returns-in_err-row-clause-bad c =
    let p = err_from_is_err_and c.from_residual-in_err-row.result c.from_residual-in_err-row.ensures.1 in
    refused c.args.table c.args.key.now c.args.value.now (data_of c.in_ok-tree.tree) c.from_residual-in_err-row.result p.0 _ p.1 p.2 c.in_err-row.ensures.err c.in_ok-tree.ensures.ok

pub returns-then-is_formed-clause-alone : goal.returns-then-is_formed-clause-alone
returns-then-is_formed-clause-alone c =
    λ other s. only_one c.args.table c.args.key.now c.args.value.now (data_of c.in_ok-tree.tree) c.in_ok-row.row other c.in_ok-row.ensures.ok c.in_ok-tree.ensures.ok s

pub returns-clause-bad : goal.returns-clause-bad
returns-clause-bad c =
    λ bad other s. elim c.else-branch.branch [
      | else-branch-via-then-branch+else-is_formed w ↦ no_form c.args.table c.args.key.now c.args.value.now (data_of c.in_ok-tree.tree) c.in_ok-row.row c.in_ok-row.ensures.ok c.in_ok-tree.ensures.ok (sym w.is_formed.ensures ∙ w.if-is_formed.false) other s
      | else-branch-via-else-branch w ↦ no_texts c.args.table c.args.key.now c.args.value.now (data_of c.in_ok-tree.tree) c.in_ok-row.row _ c.in_ok-row.ensures.ok c.in_ok-tree.ensures.ok c.in_ok-has_texts.ensures.ok w.if-branch.false other s
    ]
