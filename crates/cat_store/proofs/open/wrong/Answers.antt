use Rattle.std.proofs.Common.{inl, inr, subst}
use Rattle.std.proofs.lemmas.Result.{IfOk-weaker}
use Rattle.cat_row_faults.specs.First.{IsVerdict}
use Rattle.cat_store.proofs.open.wrong.Goals as goal

pub returns-in-Some : goal.returns-in-Some
returns-in-Some c = inl (subst (IsVerdict c.args.rows.now c.args.input_limit) c.in-Some.is c.in_ok-key.ensures)

pub returns-in-None : goal.returns-in-None
returns-in-None c = IfOk-weaker c.differing.result _ _ (λ key is. inr (subst (IsVerdict c.args.rows.now c.args.input_limit) c.in-None.is c.in_ok-key.ensures, is)) c.differing.ensures
