use Rattle.std.proofs.Common.{◌≡◌, drop}
use Rattle.std.specs.List.{flat_map}
use Rattle.cat_row_reader.specs.Standing.{offer_given, with_rows}
use Rattle.cat_row_reader.proofs.state.add_output.Given as goal

-- what the rows that are left make of those so far is the whole
abbrev pub invariant-loop-offer : goal.invariant-loop-offer
invariant-loop-offer l = with_rows (flat_map (offer_given l.trees l.emitter) (drop l.offer-index l.offer-items)) l.rows ≡ with_rows (flat_map (offer_given l.trees l.emitter) l.offer-items) l.initial.rows
