use Rattle.std.proofs.Common.{◌≡◌, drop}
use Rattle.std.specs.List.{flat_map}
use Rattle.cat_collections.specs.Table.{puts, text_cmp}
use Rattle.cat_row_reader.specs.Standing.{provider_in}
use Rattle.cat_row_reader.proofs.state.served.Given as goal

-- what the rows that are left make of those so far is the whole
abbrev pub invariant-loop-row : goal.invariant-loop-row
invariant-loop-row l = puts text_cmp (flat_map (provider_in l.items) (drop l.row-index l.rows)) l.made ≡ puts text_cmp (flat_map (provider_in l.items) l.rows) l.initial.made
