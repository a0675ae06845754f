use Rattle.std.proofs.Common.{sym, ap, ◌∙◌, lit<}
use Rattle.std.specs.Prelude.{None, Some}
use Rattle.std.proofs.lemmas.Str.Pattern.{split_parts}
use Rattle.cat_session_lines.specs.Arguments.{two, two_by}
use Rattle.cat_types.proofs.Readings.{lacks_from_places, cut_free, cut_at}
use Rattle.cat_session_lines.proofs.argument.two.Goals as goal

pub returns-in-Some : goal.returns-in-Some
returns-in-Some c =
    let parts = split_parts 32 c.args.text.now (Some (c.in-Some.first, c.in-Some.rest)) c.in-Some.ensures.cases (lit< tt) in
    sym (ap two parts.0 ∙ ap two_by (cut_at 32 c.in-Some.first.now c.in-Some.rest.now (lacks_from_places 32 c.in-Some.first.now parts.1)))

pub returns-in-None : goal.returns-in-None
returns-in-None c =
    let parts = split_parts 32 c.args.text.now None c.in-None.ensures.cases (lit< tt) in
    sym (ap two_by (cut_free 32 c.args.text.now (lacks_from_places 32 c.args.text.now parts)))
