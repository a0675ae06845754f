use Rattle.cat_collections.proofs.Shared.{shared_is, shared_sized}
use Rattle.cat_collections.proofs.tree.Tree.share.Goals as goal

pub invariant_of-result : goal.invariant_of-result
invariant_of-result g c = shared_sized c.in_ok-try_clone-in-Fork.field-0 c.in-Fork.is c.in_ok-try_clone-in-Fork.ensures c.self.invariant

pub returns-in_ok-try_clone-in-Fork : goal.returns-in_ok-try_clone-in-Fork
returns-in_ok-try_clone-in-Fork g c = shared_is c.in_ok-try_clone-in-Fork.field-0 c.self.view_is c.in-Fork.is c.in_ok-try_clone-in-Fork.ensures
