use Rattle.std.proofs.Common.{sym, ap, ◌∙◌, lit<}
use Rattle.std.specs.Prelude.{None, Some}
use Rattle.std.proofs.lemmas.Str.Pattern.{split_parts}
use Rattle.cat_types.proofs.Readings.{lacks_from_places, cut_free, cut_at}
use Rattle.cat_feed.specs.Place.{since_of, since_by}
use Rattle.cat_feed.proofs.place.since_of.Goals as goal

pub returns-in-Some : goal.returns-in-Some
returns-in-Some c =
    let parts = split_parts 46 c.args.text.now (Some (c.in-Some.epoch, c.in-Some.number)) c.in-Some.ensures.cases (lit< tt) in
    c.since_in.ensures ∙ sym (ap since_of parts.0 ∙ ap since_by (cut_at 46 c.in-Some.epoch.now c.in-Some.number.now (lacks_from_places 46 c.in-Some.epoch.now parts.1)))

pub returns-in-None : goal.returns-in-None
returns-in-None c =
    let parts = split_parts 46 c.args.text.now None c.in-None.ensures.cases (lit< tt) in
    sym (ap since_by (cut_free 46 c.args.text.now (lacks_from_places 46 c.args.text.now parts)))
