use Rattle.std.proofs.Common.{subst}
use Rattle.cat_types.specs.Reference.{IsReference}
use Rattle.cat_types.proofs.Lowered.{reference_parses}
use Rattle.cat_types.proofs.reference.Ref.parses_back.Goals as goal

pub returns : goal.returns
returns c = reference_parses c.args.self.now (subst IsReference c.self.view_is c.self.invariant)
