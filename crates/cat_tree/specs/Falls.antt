-- What a list or a map holds has fewer nodes than it has.
use Rattle.std.specs.Prelude.{ℕ, ◌≤◌, max, List, [], ◌∷◌, map}
use Rattle.std.proofs.Common.{arith}
use denote.Param.Weighed.{most}
use Rattle.cat_tree.specs.declared.tree.Tree.{Tree}
use Rattle.cat_tree.specs.declared.tree.Tree.TheVariants.{Null, Flag, Whole, Words, List as Listing, Map}
use Rattle.cat_tree.specs.declared.tree.Pairs.TheDeep.{deep-Tree}
use Rattle.cat_tree.specs.View.{data_of, entry_of, weight, list_weight, map_weight}

-- a tree is no deeper than it has nodes
pub deep-Tree-le : (t : Tree) → deep-Tree t ≤ weight (data_of t)
deep-Tree-le Null = omega arith
deep-Tree-le (Flag b) = omega arith
deep-Tree-le (Whole z) = omega arith
deep-Tree-le (Words s) = omega arith
deep-Tree-le (Listing ts) = omega arith
deep-Tree-le (Map ps) = omega arith

-- nor are the trees of a list
pub most_trees-le : (ts : List Tree) → max (most deep-Tree ts) 0 ≤ list_weight (map data_of ts)
most_trees-le [] = omega arith
most_trees-le (t ∷ ts) = omega (arith, most_trees-le ts, deep-Tree-le t)

-- a pair's measure is that of its tree, in the form in which the check takes it
pub most_pairs-le : (ps : List (List ℕ × Tree)) → max (most (λ p. max 0 (max (deep-Tree p.1) 0)) ps) 0 ≤ map_weight (map entry_of ps)
most_pairs-le [] = omega arith
most_pairs-le (p ∷ ps) = omega (arith, most_pairs-le ps, deep-Tree-le p.1)
