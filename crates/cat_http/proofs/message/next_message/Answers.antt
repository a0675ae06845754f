use Rattle.cat_http.specs.Message.{Stands, GivesWhat}
use Rattle.cat_http.proofs.LineLemmas.{tail-is}
use Rattle.cat_http.proofs.Stability.{given_stands, stands_later, stands_once, exact, lacking, more, within}
use Rattle.cat_http.proofs.message.next_message.Goals as goal

given : (c : goal.After-read_rest) → GivesWhat (Stands c.args.buffer.now) c.read_rest.result
given c =
    given_stands c.args.buffer.now _ c.blank_length-blank.result c.read_rest.result c.blank_length-blank.ensures.value
    (tail-is c.args.buffer.now c.blank_length-blank.result) c.read_rest.ensures

pub returns-clause-exact : goal.returns-clause-exact
returns-clause-exact c = exact c.args.buffer.now c.read_rest.result (given c)

pub returns-clause-lack : goal.returns-clause-lack
returns-clause-lack c = lacking c.args.buffer.now c.read_rest.result (given c)

pub returns-clause-only : goal.returns-clause-only
returns-clause-only c = stands_once c.args.buffer.now

pub returns-clause-later : goal.returns-clause-later
returns-clause-later c = stands_later c.args.buffer.now

pub returns-clause-more : goal.returns-clause-more
returns-clause-more c = more c.args.buffer.now c.read_rest.result (given c)

pub returns-clause-within : goal.returns-clause-within
returns-clause-within c = within c.args.buffer.now c.read_rest.result (given c)
