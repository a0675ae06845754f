-- A tree that owns its nodes may go to other threads, where its items may.
use mathlib.Core.List.{[], ◌∷◌}
use denote.Hole.{as_row}
use denote.Model.Local.{Parts, rows}
use denote.Model.Marks.{tied_send}
use denote.Param.Send.{IsSend, sendable, view_send}
use denote.Param.SendFields.{declared_send, variants_send, as_row_send}
use denote.RattleType.{RattleType}
use denote.Struct.Field.{row_field, usize-field}
use denote.Struct.Tuple.{Tuple, tuple_type}
use Rattle.std.proofs.Crossing.{Box-send, crosses}
use Rattle.std.specs.contracts.alloc.Global as Global
use Rattle.std.specs.contracts.impls.GlobalAllocator.TheImpl.{ghosts}
use Rattle.std.specs.contracts.boxed.Box as Box
use Rattle.std.specs.contracts.option.Option as Option
use Rattle.cat_key.specs.declared.key.Key as Key
use Rattle.cat_owned_map.specs.contracts.boxed.Boxed as Boxed
use Rattle.cat_owned_map.specs.contracts.boxed.Boxed.TheKnot as Knot
use Rattle.cat_owned_map.specs.declared.boxed.Boxed.TheDeep.{the_members, member-Boxed}
use Rattle.cat_owned_map.specs.contracts.owned.Owned as Owned
use Rattle.cat_owned_map.specs.contracts.owned.Owned.TheInside as within
use Rattle.cat_shared.proofs.SentTrees.{rejoined_send}

abbrev box : RattleType → RattleType
box R = Box.the_row R Global.the_row ghosts

usize_send : IsSend (as_row usize-field)
usize_send = search sendable depth 20

module _ (T : RattleType) (t : IsSend T) where
  option_send : IsSend (Option.the_row T)
  option_send = variants_send (Option.enum T) (tt, ((as_row_send (row_field T) t, tt), tt))

  module _ (tree : RattleType) where
    fork_layer_send : IsSend tree → IsSend (Knot.layer-Fork T tree tree)
    fork_layer_send s = declared_send (Knot.type-Fork T tree tree) (
      as_row_send (row_field tree) s,
      (
        as_row_send (row_field (Option.the_row T)) option_send,
        (as_row_send (row_field tree) s, (as_row_send (row_field (as_row usize-field)) usize_send, tt)),
      ),
    )

  module _ (p : Parts (Knot.frame T)) (s : (i : the_members) → IsSend (rows (Knot.frame T) p i)) where
    fork_send : IsSend (Knot.at-Fork T p)
    fork_send = rejoined_send _ _ _ _ _ (fork_layer_send (rows (Knot.frame T) p member-Boxed) (s member-Boxed))

    link_send : IsSend (Knot.at-Link T p)
    link_send = rejoined_send _ _ _ _ _ (variants_send (Knot.type-Link T (Knot.at-Fork T p)) (tt, ((as_row_send (row_field (box (Knot.at-Fork T p))) (Box-send (Knot.at-Fork T p) fork_send), tt), tt)))

    within_send : IsSend (Knot.at-Boxed T p)
    within_send = rejoined_send _ _ _ _ _ (declared_send (Knot.type-Boxed T (Knot.at-Link T p)) (as_row_send (row_field (Knot.at-Link T p)) link_send, tt))

    view_send' : IsSend (Knot.view-Boxed T p)
    view_send' = view_send _ _ _ _ _ within_send

  sends : (p : Parts (Knot.frame T)) → ((i : the_members) → IsSend (rows (Knot.frame T) p i)) → (i : the_members) → IsSend (rows (Knot.frame T) (Knot.step T p) i)
  sends p s member-Boxed = record { owned = (view_send' p s).owned; leaving = λ k x w. tt }

  pub Boxed-send : IsSend (Boxed.the_row T)
  Boxed-send = tied_send (Knot.frame T) (Knot.step T) (Knot.sizes T) sends member-Boxed

-- ---- maps that own their nodes

module _ (K X : RattleType) where
  entry_send : IsSend K → IsSend X → IsSend (Tuple (K ∷ X ∷ []))
  entry_send k x = declared_send (tuple_type (K ∷ X ∷ [])) (as_row_send (row_field K) k, (as_row_send (row_field X) x, tt))

  module _ (g : Key.Ghosts K.Denot) (k : IsSend K) (x : IsSend X) where
    pub Owned-send : IsSend (Owned.the_row K X g)
    Owned-send = view_send _ _ _ _ _ (declared_send (within.the_type K X g) (as_row_send (Boxed.the_field (Tuple (K ∷ X ∷ []))) (Boxed-send (Tuple (K ∷ X ∷ [])) (entry_send k x)), tt))
