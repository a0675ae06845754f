use Rattle.std.proofs.Common.{inl, inr, refl, rules, arith}
use Rattle.std.proofs.lemmas.Grind.{common_steps}
use denote.Exit.{no}
use denote.Param.Send.{arg_send, param_send}
use Rattle.cat_server.proofs.Sent.{empty_send}
use Rattle.cat_server.proofs.server.run_serve.Goals as goal

pub serve-requires-send-B : goal.serve-requires-send-B
serve-requires-send-B g c κs = λ e. param_send _ _ (arg_send _ no _ (empty_send _ c.type_bounds.send-C))

pub returns-in-Ready : goal.returns-in-Ready
returns-in-Ready g c = record {
  well = c.serve.ensures.closed;
  doors_fault = first_of (search rules, grind (arith, common_steps));
  memory = first_of (search rules, grind (arith, common_steps));
  later = first_of (omega arith, search rules);
  statuses = c.serve.ensures.ended;
}

pub returns-in-Failed : goal.returns-in-Failed
returns-in-Failed g c = record {
  well = first_of (search rules, grind (arith, common_steps));
  doors_fault = first_of (search rules, grind (arith, common_steps));
  memory = first_of (search rules, grind (arith, common_steps));
  later = first_of (search rules, grind (arith, common_steps));
  statuses = inr (inl refl);
}
