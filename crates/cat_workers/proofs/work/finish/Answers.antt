use Rattle.std.proofs.Common.{refl}
use Rattle.cat_workers.specs.declared.gate.GateCall.TheVariants as calls
use Rattle.cat_workers.proofs.work.finish.Goals as goal
