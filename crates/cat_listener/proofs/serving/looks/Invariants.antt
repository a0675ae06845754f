use Rattle.cat_listener.specs.Helpers.{IsLed}
use Rattle.cat_listener.proofs.serving.looks.Given as goal

abbrev pub invariant-loop : goal.invariant-loop
invariant-loop g l = IsLed g.S.Server.answers l.fn.server l.server
