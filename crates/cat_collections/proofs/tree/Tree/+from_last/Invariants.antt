use Rattle.cat_collections.proofs.tree.Tree.+from_last.Given as goal

abbrev pub decreases-from_last : goal.decreases-from_last
decreases-from_last g l = l.count
