use Rattle.std.proofs.Common.{sym, ap, ◌∙◌}
use Rattle.std.specs.Prelude.{None, Some}
use Rattle.std.proofs.lemmas.Str.Pattern.{split_parts}
use Rattle.cat_types.specs.Reading.{cut}
use Rattle.cat_types.proofs.Readings.{lacks_from_places, cut_free, cut_at}
use Rattle.cat_types.proofs.split.cut.Goals as goal

pub returns-in-Some : goal.returns-in-Some
returns-in-Some c =
    let parts = split_parts c.args.separator c.args.text.now (Some (c.in-Some.before, c.in-Some.after)) c.in-Some.ensures.cases c.requires in
    sym (ap (cut c.args.separator) parts.0 ∙ cut_at c.args.separator c.in-Some.before.now c.in-Some.after.now (lacks_from_places c.args.separator c.in-Some.before.now parts.1))

pub returns-in-None : goal.returns-in-None
returns-in-None c =
    let parts = split_parts c.args.separator c.args.text.now None c.in-None.ensures.cases c.requires in
    sym (cut_free c.args.separator c.args.text.now (lacks_from_places c.args.separator c.args.text.now parts))
