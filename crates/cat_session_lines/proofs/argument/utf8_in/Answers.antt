use Rattle.std.proofs.Common.{sym, ap, ◌∙◌, Some}
use Rattle.cat_session_lines.proofs.Numbers.{utf8_ok, utf8_err}
use Rattle.cat_session_lines.proofs.argument.utf8_in.Goals as goal

pub returns-in-Ok : goal.returns-in-Ok
returns-in-Ok c =
    ap Some c.in-Ok.ensures.cases.0 ∙ sym (utf8_ok c.args.bytes.now c.in-Ok.ensures.cases.1)

pub returns-in-Err : goal.returns-in-Err
returns-in-Err c = sym (utf8_err c.args.bytes.now c.in-Err.ensures.cases.0)
