use Rattle.std.proofs.Common.{◌≡◌}
use Rattle.std.specs.List.{list_any}
use Rattle.cat_collections.specs.Table.{same_text}
use Rattle.cat_claims.specs.Renewed.{renewed}
use Rattle.cat_claims.proofs.Renewed.{left_from}
use Rattle.cat_claims.proofs.replaced.renewed_rows.Given as goal

abbrev pub invariant-loop-reference : goal.invariant-loop-reference
invariant-loop-reference g l =
    left_from l.origin (g.O.Offering.offers l.offers) (λ x a r. same_text r x) l.reference-index l.changed l.renewed ≡ renewed l.origin (g.O.Offering.offers l.offers) (λ a r. list_any (same_text r) l.changed) l.rows
