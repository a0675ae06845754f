use Rattle.std.proofs.Common.{◌≡◌, ◌-◌, ◌≤◌, ◌++◌}
use Rattle.cat_sample.specs.Sample.{groups}
use Rattle.cat_sample.proofs.generate.push_groups.Given as goal

-- with the Groups that are left it is the whole
abbrev pub invariant-loop-number : goal.invariant-loop-number
invariant-loop-number l = (l.number ≤ 10) × (l.items ++ groups l.number (10 - l.number) ≡ l.initial.items ++ groups 0 10)

abbrev pub decreases-loop-number : goal.decreases-loop-number
decreases-loop-number l = 10 - l.number
