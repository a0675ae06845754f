use Rattle.std.proofs.Common.{◌≡◌, drop}
use Rattle.std.specs.List.{flat_map}
use Rattle.std.specs.Ordering.{nat_cmp}
use Rattle.cat_collections.specs.Table.{puts}
use Rattle.cat_row_reader.specs.Standing.{tree_in, trees_of}
use Rattle.cat_row_reader.proofs.state.trees_of.Given as goal

-- what the rows that are left make of those so far is the whole
abbrev pub invariant-loop-row : goal.invariant-loop-row
invariant-loop-row l = puts nat_cmp (flat_map tree_in (drop l.row-index l.rows)) l.trees ≡ trees_of l.rows
