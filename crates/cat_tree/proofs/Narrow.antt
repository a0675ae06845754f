-- One more narrow tree at the end.
use Rattle.std.proofs.Common.{◌≡◌, ℕ, List, [], ◌∷◌, ◌++◌, map, sym, subst}
use Rattle.cat_tree.specs.Data.{items_of, members_of}
use Rattle.cat_tree.specs.Proper.{IsNarrow, ItemsNarrow, MembersNarrow}
use Rattle.cat_tree.specs.View.{data_of, entry_of}
use Rattle.cat_tree.specs.declared.tree.Tree.{Tree}

items_push : (ts : List Tree) (t : Tree) → ItemsNarrow (items_of (map data_of ts)) → IsNarrow (data_of t) → ItemsNarrow (items_of (map data_of (ts ++ t ∷ [])))
items_push [] t h k = (k, tt)
items_push (u ∷ ts) t h k = (h.0, items_push ts t h.1 k)

members_push : (ps : List (List ℕ × Tree)) (p : List ℕ × Tree) → MembersNarrow (members_of (map entry_of ps)) → IsNarrow (data_of p.1) → MembersNarrow (members_of (map entry_of (ps ++ p ∷ [])))
members_push [] p h k = (k, tt)
members_push (q ∷ ps) p h k = (h.0, members_push ps p h.1 k)

pub items_grown : (ts grown : List Tree) (t : Tree) → ItemsNarrow (items_of (map data_of ts)) → IsNarrow (data_of t) → grown ≡ ts ++ t ∷ [] → ItemsNarrow (items_of (map data_of grown))
items_grown ts grown t h k e = subst (λ us. ItemsNarrow (items_of (map data_of us))) (sym e) (items_push ts t h k)

pub members_grown : (ps grown : List (List ℕ × Tree)) (p : List ℕ × Tree) → MembersNarrow (members_of (map entry_of ps)) → IsNarrow (data_of p.1) → grown ≡ ps ++ p ∷ [] → MembersNarrow (members_of (map entry_of grown))
members_grown ps grown p h k e = subst (λ qs. MembersNarrow (members_of (map entry_of qs))) (sym e) (members_push ps p h k)
