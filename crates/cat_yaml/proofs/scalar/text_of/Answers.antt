use Rattle.std.proofs.Common.{ap, sym, ◌∙◌, inl, Ok}
use Rattle.cat_yaml.proofs.Texts.{text_of-utf8, text_of-other}
use Rattle.cat_yaml.proofs.scalar.text_of.Goals as goal

pub returns-in_ok-of-in-Ok-clause-ok : goal.returns-in_ok-of-in-Ok-clause-ok
returns-in_ok-of-in-Ok-clause-ok c = text_of-utf8 c.args.bytes.now c.in-Ok.ensures.cases.1 ∙ ap Ok (sym c.in-Ok.ensures.cases.0 ∙ sym c.in_ok-of-in-Ok.ensures)

pub returns-in-Err-clause-err : goal.returns-in-Err-clause-err
returns-in-Err-clause-err c = inl (text_of-other c.args.bytes.now c.in-Err.ensures.cases.0)
