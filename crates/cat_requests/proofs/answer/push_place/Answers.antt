use Rattle.cat_requests.proofs.Words.{place_parts}
use Rattle.cat_requests.proofs.answer.push_place.Goals as goal

pub returns-clause-ok : goal.returns-clause-ok
returns-clause-ok c = rw (← place_parts c.args.words.now c.args.place) c.push_error.ensures.ok
