use Rattle.std.proofs.Common.{◌≡◌, ◌++◌, map, drop}
use Rattle.cat_process.specs.Process.{schema_issue}
use Rattle.cat_process.proofs.issues.schema_issues_from.Given as goal

-- the issues so far, with those of the faults that are left, are those of all faults
abbrev pub invariant-loop-fault : goal.invariant-loop-fault
invariant-loop-fault l =
    l.issues.items ++ map schema_issue (drop l.fault-index l.faults) ≡ map schema_issue l.faults
