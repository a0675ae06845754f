use Rattle.std.proofs.Common.{◌≡◌, inl, sym, ap, ◌∙◌}
use Rattle.cat_yaml.specs.Reading.{text_reading, reading}
use Rattle.cat_yaml.proofs.Texts.{reading-utf8, reading-other}
use Rattle.cat_yaml.proofs.read.reading.Goals as goal

pub returns-in-Ok : goal.returns-in-Ok
returns-in-Ok c =
    let e : reading c.args.bytes.now ≡ text_reading c.in-Ok.text.now = reading-utf8 c.args.bytes.now c.in-Ok.ensures.cases.1 ∙ ap text_reading (sym c.in-Ok.ensures.cases.0) in
    record { ok = rw e c.some_documents.ensures.ok; err = rw e c.some_documents.ensures.err }

pub returns-in-Err-clause-err : goal.returns-in-Err-clause-err
returns-in-Err-clause-err c = inl (reading-other c.args.bytes.now c.in-Err.ensures.cases.0)
