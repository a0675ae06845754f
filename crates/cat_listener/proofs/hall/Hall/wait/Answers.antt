use Rattle.std.proofs.Common.{arith, sym, subst}
use Rattle.cat_listener.specs.Doors.{HaveClosed}
use Rattle.cat_listener.proofs.hall.Hall.wait.Goals as goal

pub invariant_of-self : goal.invariant_of-self
invariant_of-self g c = record {
  same = c.args.self.now.same;
  later = omega (arith, c.args.self.now.later, c.wait.ensures.later);
  failed = λ e. omega (arith, c.args.self.now.failed e, c.wait.ensures.later);
  closed = λ e. subst (λ t. HaveClosed t) (sym c.wait.ensures.same) (c.args.self.now.closed e);
}
