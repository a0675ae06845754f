use Rattle.cat_claims.proofs.Touched.{note_more}
use Rattle.cat_claims.proofs.mend.note_all.Goals as goal

pub loop-reference-preserved : goal.loop-reference-preserved
loop-reference-preserved c = note_more c.loop-reference.yielded c.in-Some.reference tt c.args.noted.now c.loop-reference.noted c.put.new.self c.in_ok-put.ensures c.loop-reference.invariant
