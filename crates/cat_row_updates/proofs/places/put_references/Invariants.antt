use Rattle.std.proofs.Common.{◌≡◌, drop}
use Rattle.std.specs.List.{flat_map}
use Rattle.cat_row_updates.specs.Places.{put_places, reference_places}
use Rattle.cat_row_updates.proofs.places.put_references.Given as goal

-- the references that are left make of the places so far what all make of those at the start
abbrev pub invariant-loop-reference : goal.invariant-loop-reference
invariant-loop-reference l =
    put_places (flat_map (reference_places l.before l.after) (drop l.reference-index l.references)) l.made
    ≡ put_places (flat_map (reference_places l.before l.after) l.references) l.initial.made
