use Rattle.std.proofs.Common.{◌≡◌, ◌≤◌, ◌-◌, option_map}
use Rattle.cat_model.specs.Reply.{waiting}
use Rattle.cat_core.specs.Waits.{place_of}
use Rattle.cat_core.proofs.Walks.{key_at}
use Rattle.cat_core.proofs.waiting.waiting_at.Given as goal

abbrev pub invariant-loop-before : goal.invariant-loop-before
invariant-loop-before l = (l.before ≤ l.place) × (option_map (λ e. place_of e.now) l.found ≡ key_at (waiting l.m) l.before)

abbrev pub decreases-loop-before : goal.decreases-loop-before
decreases-loop-before l = l.place - l.before
