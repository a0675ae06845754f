-- A map whose copies share its entries may go to other threads, where its entries may and may be seen by several.
use mathlib.Core.List.{[], ◌∷◌}
use mathlib.Core.Path.{◌≡◌}
use denote.Hole.{as_row}
use denote.Model.Cut.{rejoined, split_one}
use denote.Model.Local.{Parts, rows}
use denote.Model.Marks.{both_send, both_sync}
use denote.Param.Send.{IsSend, IsSync, sendable, view_send, view_sync, recorded_send, recorded_sync}
use denote.Param.SendFields.{declared_send, declared_sync, variants_send, variants_sync, as_row_send, as_row_sync}
use denote.RattleType.{RattleType}
use denote.Struct.Field.{row_field, usize-field}
use denote.Struct.Tuple.{Tuple, tuple_type}
use Rattle.std.proofs.Crossing.{Arc-send, Arc-sync}
use Rattle.std.specs.contracts.alloc.Global as Global
use Rattle.std.specs.contracts.impls.GlobalAllocator.TheImpl.{ghosts}
use Rattle.std.specs.contracts.sync.Arc as Arc
use Rattle.cat_key.specs.declared.key.Key as Key
use Rattle.cat_collections.specs.contracts.map.Map as Map
use Rattle.cat_collections.specs.contracts.map.Map.TheInside as within
use Rattle.cat_collections.specs.contracts.tree.Tree as Tree
use Rattle.cat_collections.specs.contracts.tree.Tree.TheKnot as Knot
use Rattle.cat_collections.specs.declared.tree.Tree.TheDeep.{the_members, member-Tree}

module _ (R : RattleType) (D : Type 0) (split : D → R.Denot) (join : R.Denot → D) (e : (d : D) → join (split d) ≡ d) where
  rejoined_send : IsSend R → IsSend (rejoined R D split join e)
  rejoined_send s = recorded_send R D split (split_one R D split join e) s

  rejoined_sync : IsSync R → IsSync (rejoined R D split join e)
  rejoined_sync s = recorded_sync R D split (split_one R D split join e) s

-- ---- trees

abbrev arc : RattleType → RattleType
arc R = Arc.the_row R Global.the_row ghosts

usize_send : IsSend (as_row usize-field)
usize_send = search sendable depth 20

usize_sync : IsSync (as_row usize-field)
usize_sync = search sendable depth 20

module _ (T : RattleType) (t : IsSend T) (u : IsSync T) where
  module _ (tree : RattleType) where
    fork_layer_send : IsSend tree → IsSend (Knot.layer-Fork T tree tree)
    fork_layer_send s = declared_send (Knot.type-Fork T tree tree) (
      as_row_send (row_field tree) s,
      (
        as_row_send (row_field (as_row (Arc.the_field T Global.the_row ghosts))) (Arc-send T t u),
        (as_row_send (row_field tree) s, (as_row_send (row_field (as_row usize-field)) usize_send, tt)),
      ),
    )

    fork_layer_sync : IsSync tree → IsSync (Knot.layer-Fork T tree tree)
    fork_layer_sync s = declared_sync (Knot.type-Fork T tree tree) (
      as_row_sync (row_field tree) s,
      (
        as_row_sync (row_field (as_row (Arc.the_field T Global.the_row ghosts))) (Arc-sync T t u),
        (as_row_sync (row_field tree) s, (as_row_sync (row_field (as_row usize-field)) usize_sync, tt)),
      ),
    )

  module _ (p : Parts (Knot.frame T)) (s : (i : the_members) → IsSend (rows (Knot.frame T) p i)) (y : (i : the_members) → IsSync (rows (Knot.frame T) p i)) where
    fork_send : IsSend (Knot.at-Fork T p)
    fork_send = rejoined_send _ _ _ _ _ (fork_layer_send (rows (Knot.frame T) p member-Tree) (s member-Tree))

    fork_sync : IsSync (Knot.at-Fork T p)
    fork_sync = rejoined_sync _ _ _ _ _ (fork_layer_sync (rows (Knot.frame T) p member-Tree) (y member-Tree))

    node_send : IsSend (Knot.at-Node T p)
    node_send = rejoined_send _ _ _ _ _ (variants_send (Knot.type-Node T (Knot.at-Fork T p)) (tt, ((as_row_send (row_field (arc (Knot.at-Fork T p))) (Arc-send (Knot.at-Fork T p) fork_send fork_sync), tt), tt)))

    node_sync : IsSync (Knot.at-Node T p)
    node_sync = rejoined_sync _ _ _ _ _ (variants_sync (Knot.type-Node T (Knot.at-Fork T p)) (tt, ((as_row_sync (row_field (arc (Knot.at-Fork T p))) (Arc-sync (Knot.at-Fork T p) fork_send fork_sync), tt), tt)))

    within_send : IsSend (Knot.at-Tree T p)
    within_send = rejoined_send _ _ _ _ _ (declared_send (Knot.type-Tree T (Knot.at-Node T p)) (as_row_send (row_field (Knot.at-Node T p)) node_send, tt))

    within_sync : IsSync (Knot.at-Tree T p)
    within_sync = rejoined_sync _ _ _ _ _ (declared_sync (Knot.type-Tree T (Knot.at-Node T p)) (as_row_sync (row_field (Knot.at-Node T p)) node_sync, tt))

    view_send' : IsSend (Knot.view-Tree T p)
    view_send' = view_send _ _ _ _ _ within_send

    view_sync' : IsSync (Knot.view-Tree T p)
    view_sync' = view_sync _ _ _ _ _ within_sync

  sends : (p : Parts (Knot.frame T)) → ((i : the_members) → IsSend (rows (Knot.frame T) p i)) → ((i : the_members) → IsSync (rows (Knot.frame T) p i)) → (i : the_members) → IsSend (rows (Knot.frame T) (Knot.step T p) i)
  sends p s y member-Tree = record { owned = (view_send' p s y).owned; leaving = λ k x w. tt }

  syncs : (p : Parts (Knot.frame T)) → ((i : the_members) → IsSend (rows (Knot.frame T) p i)) → ((i : the_members) → IsSync (rows (Knot.frame T) p i)) → (i : the_members) → IsSync (rows (Knot.frame T) (Knot.step T p) i)
  syncs p s y member-Tree = record { shared = (view_sync' p s y).shared }

  Tree-send : IsSend (Tree.the_row T)
  Tree-send = both_send (Knot.frame T) (Knot.step T) (Knot.sizes T) sends syncs member-Tree

  Tree-sync : IsSync (Tree.the_row T)
  Tree-sync = both_sync (Knot.frame T) (Knot.step T) (Knot.sizes T) sends syncs member-Tree

-- ---- maps

module _ (K X : RattleType) where
  entry_send : IsSend K → IsSend X → IsSend (Tuple (K ∷ X ∷ []))
  entry_send k x = declared_send (tuple_type (K ∷ X ∷ [])) (as_row_send (row_field K) k, (as_row_send (row_field X) x, tt))

  entry_sync : IsSync K → IsSync X → IsSync (Tuple (K ∷ X ∷ []))
  entry_sync k x = declared_sync (tuple_type (K ∷ X ∷ [])) (as_row_sync (row_field K) k, (as_row_sync (row_field X) x, tt))

  pub Map-send : (g : Key.Ghosts K.Denot) → IsSend K → IsSync K → IsSend X → IsSync X → IsSend (Map.the_row K X g)
  Map-send g k k' x x' = view_send _ _ _ _ _ (declared_send (within.the_type K X g) (as_row_send (Tree.the_field (Tuple (K ∷ X ∷ []))) (Tree-send (Tuple (K ∷ X ∷ [])) (entry_send k x) (entry_sync k' x')), tt))
