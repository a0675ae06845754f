use Rattle.std.proofs.Common.{◌≡◌, drop}
use Rattle.cat_collections.specs.Table.{text_cmp}
use Rattle.cat_types.specs.Amended.{without_all}
use Rattle.cat_mutations.proofs.items.items_left.Given as goal

-- without the references that are left the items are those wanted
abbrev pub invariant-loop-reference : goal.invariant-loop-reference
invariant-loop-reference l = without_all text_cmp (drop l.reference-index l.refs) l.rest ≡ without_all text_cmp l.refs l.initial.rest
