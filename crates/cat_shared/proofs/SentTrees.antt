-- A JSON tree may go to other threads, and be seen by several.
use mathlib.Core.List.{[], ◌∷◌}
use mathlib.Core.Path.{◌≡◌}
use denote.Hole.{as_row}
use denote.Model.Cut.{rejoined, split_one}
use denote.Model.Local.{Parts, rows}
use denote.Model.Marks.{tied_send, tied_sync}
use denote.Param.Send.{IsSend, IsSync, sendable, view_send, view_sync, recorded_send, recorded_sync}
use denote.Param.SendFields.{declared_send, declared_sync, variants_send, variants_sync, as_row_send, as_row_sync}
use denote.RattleType.{RattleType}
use denote.Struct.Field.{row_field, bool-field, i128-field}
use denote.Struct.Tuple.{Tuple, tuple_type}
use Rattle.std.proofs.Crossing.{crosses, Vec-send, Vec-sync}
use Rattle.std.specs.contracts.alloc.Global as Global
use Rattle.std.specs.contracts.impls.GlobalAllocator.TheImpl.{ghosts}
use Rattle.std.specs.contracts.vec.Vec as Vec
use Rattle.cat_tree.specs.contracts.text.Text as Text
use Rattle.cat_tree.specs.contracts.tree.Pairs.TheKnot as Knot
use Rattle.cat_tree.specs.contracts.tree.Tree as Tree
use Rattle.cat_tree.specs.declared.tree.Pairs.TheDeep.{the_members, member-Pairs, member-Trees}

pub text_send : IsSend Text.the_row
text_send = search (sendable, crosses) depth 40

pub text_sync : IsSync Text.the_row
text_sync = search (sendable, crosses) depth 40

bool_send : IsSend (as_row bool-field)
bool_send = search sendable depth 20

bool_sync : IsSync (as_row bool-field)
bool_sync = search sendable depth 20

i128_send : IsSend (as_row i128-field)
i128_send = search sendable depth 20

i128_sync : IsSync (as_row i128-field)
i128_sync = search sendable depth 20

module _ (R : RattleType) (D : Type 0) (split : D → R.Denot) (join : R.Denot → D) (e : (d : D) → join (split d) ≡ d) where
  pub rejoined_send : IsSend R → IsSend (rejoined R D split join e)
  rejoined_send s = recorded_send R D split (split_one R D split join e) s

  pub rejoined_sync : IsSync R → IsSync (rejoined R D split join e)
  rejoined_sync s = recorded_sync R D split (split_one R D split join e) s

abbrev vec : RattleType → RattleType
vec R = Vec.the_row R Global.the_row ghosts

-- ---- one layer of a tree, over trees that may

module _ (trees pairs : RattleType) where
  layer_send : IsSend trees → IsSend pairs → IsSend (Knot.layer-Tree trees pairs)
  layer_send ts ps = variants_send (Knot.type-Tree trees pairs) (
    tt,
    (
      (as_row_send (row_field (as_row bool-field)) bool_send, tt),
      (
        (as_row_send (row_field (as_row i128-field)) i128_send, tt),
        (
          (as_row_send (row_field (as_row Text.the_field)) (as_row_send Text.the_field text_send), tt),
          ((as_row_send (row_field trees) ts, tt), ((as_row_send (row_field pairs) ps, tt), tt)),
        ),
      ),
    ),
  )

  layer_sync : IsSync trees → IsSync pairs → IsSync (Knot.layer-Tree trees pairs)
  layer_sync ts ps = variants_sync (Knot.type-Tree trees pairs) (
    tt,
    (
      (as_row_sync (row_field (as_row bool-field)) bool_sync, tt),
      (
        (as_row_sync (row_field (as_row i128-field)) i128_sync, tt),
        (
          (as_row_sync (row_field (as_row Text.the_field)) (as_row_sync Text.the_field text_sync), tt),
          ((as_row_sync (row_field trees) ts, tt), ((as_row_sync (row_field pairs) ps, tt), tt)),
        ),
      ),
    ),
  )

module _ (tree : RattleType) where
  pair_send : IsSend tree → IsSend (Tuple (Text.the_row ∷ tree ∷ []))
  pair_send s = declared_send (tuple_type (Text.the_row ∷ tree ∷ [])) (as_row_send (row_field Text.the_row) text_send, (as_row_send (row_field tree) s, tt))

  pair_sync : IsSync tree → IsSync (Tuple (Text.the_row ∷ tree ∷ []))
  pair_sync s = declared_sync (tuple_type (Text.the_row ∷ tree ∷ [])) (as_row_sync (row_field Text.the_row) text_sync, (as_row_sync (row_field tree) s, tt))

-- ---- the knot

module _ (p : Parts Knot.frame) where
  tree_send : ((i : the_members) → IsSend (rows Knot.frame p i)) → IsSend (Knot.at-Tree p)
  tree_send s = rejoined_send _ _ _ _ _ (layer_send (rows Knot.frame p member-Trees) (rows Knot.frame p member-Pairs) (s member-Trees) (s member-Pairs))

  tree_sync : ((i : the_members) → IsSync (rows Knot.frame p i)) → IsSync (Knot.at-Tree p)
  tree_sync s = rejoined_sync _ _ _ _ _ (layer_sync (rows Knot.frame p member-Trees) (rows Knot.frame p member-Pairs) (s member-Trees) (s member-Pairs))

  trees_within_send : ((i : the_members) → IsSend (rows Knot.frame p i)) → IsSend (Knot.at-Trees p)
  trees_within_send s = rejoined_send _ _ _ _ _ (declared_send (Knot.type-Trees (Knot.at-Tree p)) (as_row_send (row_field (vec (Knot.at-Tree p))) (Vec-send (Knot.at-Tree p) (tree_send s)), tt))

  trees_within_sync : ((i : the_members) → IsSync (rows Knot.frame p i)) → IsSync (Knot.at-Trees p)
  trees_within_sync s = rejoined_sync _ _ _ _ _ (declared_sync (Knot.type-Trees (Knot.at-Tree p)) (as_row_sync (row_field (vec (Knot.at-Tree p))) (Vec-sync (Knot.at-Tree p) (tree_sync s)), tt))

  pairs_within_send : ((i : the_members) → IsSend (rows Knot.frame p i)) → IsSend (Knot.at-Pairs p)
  pairs_within_send s = rejoined_send _ _ _ _ _ (declared_send (Knot.type-Pairs (Knot.at-Tree p))
      (as_row_send (row_field (vec (Tuple (Text.the_row ∷ Knot.at-Tree p ∷ [])))) (Vec-send (Tuple (Text.the_row ∷ Knot.at-Tree p ∷ [])) (pair_send (Knot.at-Tree p) (tree_send s))), tt))

  pairs_within_sync : ((i : the_members) → IsSync (rows Knot.frame p i)) → IsSync (Knot.at-Pairs p)
  pairs_within_sync s = rejoined_sync _ _ _ _ _ (declared_sync (Knot.type-Pairs (Knot.at-Tree p))
      (as_row_sync (row_field (vec (Tuple (Text.the_row ∷ Knot.at-Tree p ∷ [])))) (Vec-sync (Tuple (Text.the_row ∷ Knot.at-Tree p ∷ [])) (pair_sync (Knot.at-Tree p) (tree_sync s))), tt))

  trees_send : ((i : the_members) → IsSend (rows Knot.frame p i)) → IsSend (Knot.view-Trees p)
  trees_send s = view_send _ _ _ _ _ (trees_within_send s)

  trees_sync : ((i : the_members) → IsSync (rows Knot.frame p i)) → IsSync (Knot.view-Trees p)
  trees_sync s = view_sync _ _ _ _ _ (trees_within_sync s)

  pairs_send : ((i : the_members) → IsSend (rows Knot.frame p i)) → IsSend (Knot.view-Pairs p)
  pairs_send s = view_send _ _ _ _ _ (pairs_within_send s)

  pairs_sync : ((i : the_members) → IsSync (rows Knot.frame p i)) → IsSync (Knot.view-Pairs p)
  pairs_sync s = view_sync _ _ _ _ _ (pairs_within_sync s)

sends : (p : Parts Knot.frame) → ((i : the_members) → IsSend (rows Knot.frame p i)) → (i : the_members) → IsSend (rows Knot.frame (Knot.step p) i)
sends p s member-Pairs = record { owned = (pairs_send p s).owned; leaving = λ k x w. tt }
sends p s member-Trees = record { owned = (trees_send p s).owned; leaving = λ k x w. tt }

syncs : (p : Parts Knot.frame) → ((i : the_members) → IsSync (rows Knot.frame p i)) → (i : the_members) → IsSync (rows Knot.frame (Knot.step p) i)
syncs p s member-Pairs = record { shared = (pairs_sync p s).shared }
syncs p s member-Trees = record { shared = (trees_sync p s).shared }

members_send : (i : the_members) → IsSend (rows Knot.frame Knot.tied i)
members_send = tied_send Knot.frame Knot.step Knot.sizes sends

members_sync : (i : the_members) → IsSync (rows Knot.frame Knot.tied i)
members_sync = tied_sync Knot.frame Knot.step Knot.sizes syncs

pub Tree-send : IsSend Tree.the_row
Tree-send = variants_send Tree.enum (
  tt,
  (
    (bool_send, tt),
    (
      (i128_send, tt),
      (
        (as_row_send Text.the_field text_send, tt),
        (
          (as_row_send (row_field Knot.hole-Trees) (members_send member-Trees), tt),
          ((as_row_send (row_field Knot.hole-Pairs) (members_send member-Pairs), tt), tt),
        ),
      ),
    ),
  ),
)

pub Tree-sync : IsSync Tree.the_row
Tree-sync = variants_sync Tree.enum (
  tt,
  (
    (bool_sync, tt),
    (
      (i128_sync, tt),
      (
        (as_row_sync Text.the_field text_sync, tt),
        (
          (as_row_sync (row_field Knot.hole-Trees) (members_sync member-Trees), tt),
          ((as_row_sync (row_field Knot.hole-Pairs) (members_sync member-Pairs), tt), tt),
        ),
      ),
    ),
  ),
)
