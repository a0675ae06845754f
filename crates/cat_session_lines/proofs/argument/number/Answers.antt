use Rattle.std.proofs.Common.{sym, ◌∙◌}
use Rattle.cat_session_lines.proofs.Numbers.{parsed_number}
use Rattle.cat_session_lines.proofs.argument.number.Goals as goal

pub returns : goal.returns
returns c = c.ok.ensures.value ∙ parsed_number c.args.text.now c.parse.result c.parse.ensures.value.0 (sym c.is_number.ensures ∙ c.if-not-is_number.false)
