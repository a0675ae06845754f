use Rattle.std.proofs.Common.{map, sum, ap, sym, ◌∙◌, ◌≡◌, ◌+◌, arith, length}
use Rattle.cat_history.proofs.Kept.{end_pops}
use Rattle.cat_history.proofs.history.History.drop_oldest.Goals as goal

pub invariant_of-self-clause-end : goal.invariant_of-self-clause-end
invariant_of-self-clause-end g c = end_pops (λ k. k.entry) c.in-Some.oldest c.pop_front.new.self.items c.args.self.now.kept.items c.args.self.now.all.items c.args.self.now.gone c.in-Some.ensures.items c.args.self.now.end
