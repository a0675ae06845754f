use Rattle.std.proofs.Common.{◌≡◌, ◌-◌, ◌<◌, List, ℕ, length}
use Rattle.cat_journal.specs.Records.{HasRecords, rows_of}
use Rattle.cat_journal.proofs.records.scan.Given as goal

-- whole records of batches stand before this gate byte, and the rows so far are those after them
abbrev pub invariant-loop-rows : goal.invariant-loop-rows
invariant-loop-rows l = record {
  inside : l.at < length l.content;
  passed : (bodies : List (List ℕ)) × HasRecords l.content bodies l.at × (l.rows ≡ rows_of bodies);
}

abbrev pub decreases-loop-rows : goal.decreases-loop-rows
decreases-loop-rows l = length l.content - l.at
