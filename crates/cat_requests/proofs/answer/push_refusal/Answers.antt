use Rattle.cat_requests.proofs.answer.push_refusal.Goals as goal

pub returns-in-Reference-clause-ok : goal.returns-in-Reference-clause-ok
returns-in-Reference-clause-ok c = rw c.in-Reference.is c.push_at.ensures.ok

pub returns-in-OldSerial-clause-ok : goal.returns-in-OldSerial-clause-ok
returns-in-OldSerial-clause-ok c = rw c.in-OldSerial.is c.push_at-in-OldSerial.ensures.ok

pub returns-in-TooLarge-clause-ok : goal.returns-in-TooLarge-clause-ok
returns-in-TooLarge-clause-ok c = rw c.in-TooLarge.is c.push_at-in-TooLarge.ensures.ok

pub returns-in-Gone-clause-ok : goal.returns-in-Gone-clause-ok
returns-in-Gone-clause-ok c = rw c.in-Gone.is c.push_place.ensures.ok

pub returns-in-Ahead-clause-ok : goal.returns-in-Ahead-clause-ok
returns-in-Ahead-clause-ok c = rw c.in-Ahead.is c.push_place-in-Ahead.ensures.ok
