use Rattle.std.specs.Prelude.{◌≡◌}
use Rattle.cat_dispatcher.proofs.crew.shares.Given as goal

abbrev pub invariant-loop : goal.invariant-loop
invariant-loop g l = l.own.turns ≡ l.fn.turns.id
