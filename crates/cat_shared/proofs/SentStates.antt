-- A state, the links beside it and a feed may go to other threads.
use mathlib.Core.List.{[], ◌∷◌}
use denote.Param.Send.{IsSend, IsSync, sendable, view_send, view_sync}
use denote.Param.SendFields.{declared_send, declared_sync, as_row_send, as_row_sync}
use denote.RattleType.{RattleType}
use denote.Struct.Field.{row_field}
use denote.Struct.Tuple.{Tuple, tuple_type}
use Rattle.std.proofs.Crossing.{crosses, Arc-send, Arc-sync}
use Rattle.cat_tree.specs.contracts.text.Text as Text
use Rattle.cat_tree.specs.contracts.tree.Tree as Tree
use Rattle.cat_key.specs.declared.key.Key as Key
use Rattle.cat_collections.specs.contracts.map.Map as Map
use Rattle.cat_collections.specs.contracts.map.Map.TheInside as within
use Rattle.cat_collections.specs.contracts.tree.Tree as Shared
use Rattle.cat_types.specs.contracts.reference.Ref as Ref
use Rattle.cat_types.specs.contracts.input.Offered as Offered
use Rattle.cat_types.specs.contracts.node.Node as Node
use Rattle.cat_types.specs.contracts.node.Node.TheInside as inside
use Rattle.cat_types.specs.contracts.work.Output as Output
use Rattle.cat_types.specs.contracts.relation.Relation as Relation
use Rattle.cat_state_parts.specs.contracts.index.Index as Index
use Rattle.cat_state_parts.specs.contracts.index.Index.TheInside as searched
use Rattle.cat_state_parts.specs.contracts.items.OfferedItems as OfferedItems
use Rattle.cat_state_parts.specs.contracts.items.OfferedItems.TheInside as counted
use Rattle.cat_links.specs.contracts.links.Links as Links
use Rattle.cat_links.specs.contracts.links.Links.TheInside as linked
use Rattle.cat_state_parts.specs.contracts.marks.Marks as Marks
use Rattle.cat_state_parts.specs.contracts.marks.Marks.TheInside as marked
use Rattle.cat_model.specs.contracts.rows.IndexedRows as IndexedRows
use Rattle.cat_model.specs.contracts.rows.IndexedRows.TheInside as indexed
use Rattle.cat_model.specs.contracts.records.Records as Records
use Rattle.cat_model.specs.contracts.records.Records.TheInside as recorded
use Rattle.cat_model.specs.contracts.types.Orphan as Orphan
use Rattle.cat_model.specs.contracts.types.ProviderInputs as ProviderInputs
use Rattle.cat_model.specs.contracts.types.Record as Record
use Rattle.cat_model.specs.contracts.types.Row as Row
use Rattle.cat_model.specs.contracts.types.State as State
use Rattle.cat_shared.proofs.SentTrees.{Tree-send, Tree-sync}
use Rattle.cat_shared.proofs.SentMaps as shared
use Rattle.cat_shared.proofs.SentOwned.{Owned-send}

pub node_send : IsSend Node.the_row
node_send = view_send _ _ _ _ _ (declared_send inside.the_type (Arc-send Tree.the_row Tree-send Tree-sync, tt))

pub node_sync : IsSync Node.the_row
node_sync = view_sync _ _ _ _ _ (declared_sync inside.the_type (Arc-sync Tree.the_row Tree-send Tree-sync, tt))

pub ref_send : IsSend Ref.the_row
ref_send = search (sendable, crosses) depth 40

pub ref_sync : IsSync Ref.the_row
ref_sync = search (sendable, crosses) depth 40

pub ruleset known = (node_send, node_sync, ref_send, ref_sync, sendable, crosses)

pub output_send : IsSend Output.the_row
output_send = declared_send Output.the_type (search known depth 60, (search known depth 60, tt))

pub record_send : IsSend Record.the_row
record_send = declared_send Record.the_type (search known depth 60, (search (output_send, known) depth 60, (search known depth 60, (search known depth 60, (search known depth 60, tt)))))

-- ---- maps

module _ (K X : RattleType) where
  entry_send : IsSend K → IsSend X → IsSend (Tuple (K ∷ X ∷ []))
  entry_send k x = declared_send (tuple_type (K ∷ X ∷ [])) (as_row_send (row_field K) k, (as_row_send (row_field X) x, tt))

  entry_sync : IsSync K → IsSync X → IsSync (Tuple (K ∷ X ∷ []))
  entry_sync k x = declared_sync (tuple_type (K ∷ X ∷ [])) (as_row_sync (row_field K) k, (as_row_sync (row_field X) x, tt))

  module _ (g : Key.Ghosts K.Denot) (k : IsSend K) (k' : IsSync K) (x : IsSend X) (x' : IsSync X) where
    pub Map-send : IsSend (Map.the_row K X g)
    Map-send = view_send _ _ _ _ _ (declared_send (within.the_type K X g) (as_row_send (Shared.the_field (Tuple (K ∷ X ∷ []))) (shared.Tree-send (Tuple (K ∷ X ∷ [])) (entry_send k x) (entry_sync k' x')), tt))

    pub Map-sync : IsSync (Map.the_row K X g)
    Map-sync = view_sync _ _ _ _ _ (declared_sync (within.the_type K X g) (as_row_sync (Shared.the_field (Tuple (K ∷ X ∷ []))) (shared.Tree-sync (Tuple (K ∷ X ∷ [])) (entry_send k x) (entry_sync k' x')), tt))

-- ---- states

offered_send : IsSend Offered.the_row
offered_send = search known depth 60

offered_sync : IsSync Offered.the_row
offered_sync = search known depth 60

items_send : IsSend OfferedItems.the_row
items_send = view_send _ _ _ _ _ (declared_send counted.the_type (search (Map-send, offered_send, offered_sync, known) depth 60, (search known depth 60, tt)))

items_sync : IsSync OfferedItems.the_row
items_sync = view_sync _ _ _ _ _ (declared_sync counted.the_type (search (Map-sync, offered_send, offered_sync, known) depth 60, (search known depth 60, tt)))

inputs_send : IsSend ProviderInputs.the_row
inputs_send = declared_send ProviderInputs.the_type (search known depth 60, (search (items_send, known) depth 60, tt))

inputs_sync : IsSync ProviderInputs.the_row
inputs_sync = declared_sync ProviderInputs.the_type (search known depth 60, (search (items_sync, known) depth 60, tt))

text_send : IsSend Text.the_row
text_send = search known depth 40

text_sync : IsSync Text.the_row
text_sync = search known depth 40

row_send : IsSend Row.the_row
row_send = search known depth 60

row_sync : IsSync Row.the_row
row_sync = search known depth 60

rows_send : IsSend IndexedRows.the_row
rows_send = view_send _ _ _ _ _ (declared_send indexed.the_type (
  search (Map-send, row_send, row_sync, known) depth 60,
  (search (Map-send, Map-sync, known) depth 60, (search (Map-send, Map-sync, known) depth 60, (search (Map-send, Map-sync, text_send, text_sync, known) depth 60, tt))),
))

marks_send : IsSend Marks.the_row
marks_send = view_send _ _ _ _ _ (declared_send marked.the_type (
  search (Map-send, known) depth 60,
  (search (Map-send, entry_send, entry_sync, known) depth 60, tt),
))

orphan_send : IsSend Orphan.the_row
orphan_send = search known depth 60

orphan_sync : IsSync Orphan.the_row
orphan_sync = search known depth 60

records_send : IsSend Records.the_row
records_send = view_send _ _ _ _ _ (declared_send recorded.the_type (
  search (Owned-send, record_send, known) depth 60,
  (search (Owned-send, entry_send, known) depth 60, (search (Owned-send, entry_send, known) depth 60, tt)),
))

index_send : IsSend Index.the_row
index_send = view_send _ _ _ _ _ (declared_send searched.the_type (
  search (Map-send, known) depth 60,
  (
    search (Map-send, known) depth 60,
    (search (Map-send, Map-sync, known) depth 60, (search (Map-send, Map-sync, entry_send, entry_sync, text_send, text_sync, known) depth 60, tt)),
  ),
))

pub state_send : IsSend State.the_row
state_send = declared_send State.the_type (
  search (Map-send, inputs_send, inputs_sync, text_send, text_sync, known) depth 60,
  (
    search (Map-send, text_send, text_sync, known) depth 60,
    (
      search (rows_send, known) depth 60,
      (
        search (Map-send, known) depth 60,
        (
          search (records_send, known) depth 60,
          (
            search (Map-send, orphan_send, orphan_sync, known) depth 60,
            (
              search (marks_send, known) depth 60,
              (
                search (index_send, known) depth 60,
                (search known depth 60, (search known depth 60, (search known depth 60, (search known depth 60, tt)))),
              ),
            ),
          ),
        ),
      ),
    ),
  ),
)

-- ---- links

relation_send : IsSend Relation.the_row
relation_send = search known depth 60

relation_sync : IsSync Relation.the_row
relation_sync = search known depth 60

pub links_send : IsSend Links.the_row
links_send = view_send _ _ _ _ _ (declared_send linked.the_type (search (Map-send, Map-sync, relation_send, relation_sync, known) depth 60, (search (Map-send, Map-sync, relation_send, relation_sync, known) depth 60, tt)))
