use Rattle.std.proofs.Common.{◌≡◌, ◌-◌, ◌<◌, ◌≤◌, ◌^◌, ◌++◌}
use Rattle.cat_sample.specs.Sample.{components}
use Rattle.cat_sample.proofs.generate.push_components.Given as goal

-- with the Components that are left it is the whole
abbrev pub invariant-loop-number : goal.invariant-loop-number
invariant-loop-number l =
    (l.number ≤ l.count) × (l.state < 2 ^ 31)
    × (l.items ++ components l.state l.number (l.count - l.number) ≡ l.initial.items ++ components l.seed 0 l.count)

abbrev pub decreases-loop-number : goal.decreases-loop-number
decreases-loop-number l = l.count - l.number
