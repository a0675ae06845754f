use Rattle.std.proofs.Common.{◌≡◌, not, take}
use Rattle.std.specs.List.{filter}
use Rattle.cat_links.specs.Links.{has}
use Rattle.cat_links.proofs.moved.not_among.Given as goal

abbrev pub invariant-loop-relation : goal.invariant-loop-relation
invariant-loop-relation l = l.list.items ≡ filter (λ x. not (has x l.others)) (take l.relation-index l.relations)
