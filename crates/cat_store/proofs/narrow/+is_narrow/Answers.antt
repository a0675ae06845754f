use Rattle.std.proofs.Common.{◌≡◌, [], arith, drop, map, subst, sym}
use Rattle.std.proofs.lemmas.List.{drop_all}
use Rattle.cat_tree.specs.Data.{members_of}
use Rattle.cat_tree.specs.Proper.{IsProper, MembersProper}
use Rattle.cat_tree.specs.View.{data_of, entry_of}
use Rattle.cat_tree.proofs.Back.{Rise-members_of}
use Rattle.cat_store.proofs.narrow.+is_narrow.Goals as goal

pub returns-after-loop-tree-2-clause-proper : goal.returns-after-loop-tree-2-clause-proper
returns-after-loop-tree-2-clause-proper t c =
    let xs = c.as_slice-tree-items-in-Map.result.now in
    let none : drop c.loop-tree-2.tree-index xs ≡ [] = drop_all c.loop-tree-2.tree-index xs (omega arith) in
    let members : MembersProper (members_of (map entry_of xs)) = c.loop-tree-2.invariant.1 (subst (λ ys. MembersProper (members_of (map entry_of ys))) (sym none) tt) in
    let here : MembersProper (members_of c.in-Map.pairs) = subst (λ ms. MembersProper (members_of ms)) c.as_slice-tree-items-in-Map.ensures.entries members in
    λ _. subst (λ v. IsProper (data_of v)) (sym c.in-Map.is) (here, Rise-members_of c.in-Map.pairs c.as_slice-tree-items-in-Map.ensures.rising)
