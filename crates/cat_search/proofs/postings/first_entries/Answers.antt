use Rattle.std.proofs.Common.{◌++◌, ◌∷◌, [], ap, take, ◌-◌, ◌∙◌}
use Rattle.cat_collections.specs.Left.{items_left}
use Rattle.cat_collections.specs.Table.{keys}
use Rattle.cat_search.proofs.Listed.{first_next}
use Rattle.cat_search.proofs.postings.first_entries.Goals as goal

pub loop-reference-preserved : goal.loop-reference-preserved
loop-reference-preserved c = (
  tt,
  tt,
  ap (λ made. made ++ take (c.loop-reference.left - 1) (keys (items_left c.next.new.self))) (c.in_ok-push.ensures.items ∙ ap (λ r. c.loop-reference.entries.items ++ r ∷ []) c.in_ok-of.ensures)
      ∙ first_next c.loop-reference.entries.items c.loop-reference.left c.in-Some.field-0.now (items_left c.loop-reference.reference-iterator) (items_left c.next.new.self) _ c.if-left-eq0.false
      c.in-Some.ensures.steps c.loop-reference.invariant.2,
)
