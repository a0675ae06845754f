use Rattle.std.proofs.Common.{◌≡◌}
use Rattle.std.specs.List.{filter}
use Rattle.cat_claims.specs.Touched.{is_fresh, is_leaving, is_moved}
use Rattle.cat_claims.proofs.claims.sort_out.Given as goal

-- what was looked at stands where it belongs
abbrev pub invariant-loop-reference : goal.invariant-loop-reference
invariant-loop-reference l =
    (l.changed.fresh ≡ filter (is_fresh l.before l.after) l.yielded)
    × (l.changed.leaving ≡ filter (is_leaving l.before l.after) l.yielded)
    × (l.changed.moved ≡ filter (is_moved l.before l.after) l.yielded)
