use Rattle.std.proofs.Common.{arith, sym, subst}
use Rattle.cat_listener.specs.Doors.{HaveClosed}
use Rattle.cat_listener.proofs.hall.Hall.moment.Goals as goal

pub invariant_of-self : goal.invariant_of-self
invariant_of-self g c = record {
  same = c.args.self.now.same;
  later = omega (arith, c.args.self.now.later, c.moment.ensures.later);
  failed = λ e. omega (arith, c.args.self.now.failed e, c.moment.ensures.later);
  closed = λ e. subst (λ t. HaveClosed t) (sym c.moment.ensures.same) (c.args.self.now.closed e);
}
