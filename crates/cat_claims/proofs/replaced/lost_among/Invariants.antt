use Rattle.std.proofs.Common.{◌≡◌, take}
use Rattle.std.specs.List.{filter}
use Rattle.cat_claims.specs.Renewed.{loses}
use Rattle.cat_claims.proofs.replaced.lost_among.Given as goal

abbrev pub invariant-loop-reference : goal.invariant-loop-reference
invariant-loop-reference l = l.lost.items ≡ filter (loses l.origin l.before l.after l.holders) (take l.reference-index l.changed)
