use Rattle.std.proofs.Common.{◌≡◌, ◌++◌, map, drop}
use Rattle.cat_process.specs.Process.{reference_issue}
use Rattle.cat_process.proofs.issues.reference_issues_from.Given as goal

-- the issues so far, with those of the faults that are left, are those of all faults
abbrev pub invariant-loop-fault : goal.invariant-loop-fault
invariant-loop-fault l =
    l.issues.items ++ map reference_issue (drop l.fault-index l.faults) ≡ map reference_issue l.faults
