use Rattle.std.proofs.Common.{◌≡◌, ◌++◌, map, drop}
use Rattle.cat_inputs.proofs.refs.texts_of.Given as goal

-- the references of the items so far
abbrev pub invariant-loop-item : goal.invariant-loop-item
invariant-loop-item l =
    map (λ t. t.now) l.texts.items ++ map (λ x. x.reference) (drop l.item-index l.items)
    ≡ map (λ x. x.reference) l.items

-- those of all items, and then the removed ones so far
abbrev pub invariant-loop-reference : goal.invariant-loop-reference
invariant-loop-reference l =
    map (λ t. t.now) l.texts.items ++ drop l.reference-index l.removed
    ≡ map (λ t. t.now) l.initial.texts.items ++ l.removed
