-- The lower layers of the catalogue, as the abstract catalogue takes them.
use Rattle.std.specs.Prelude.{List, []}
use Rattle.cat_collections.specs.Table.{Text}
use Rattle.cat_types.specs.declared.relation.Relation.{Relation}
use Rattle.cat_tree.specs.Data.{Data}
use Rattle.cat_kinds.specs.Kinds.{answer_of}
use Rattle.cat_kinds.specs.declared.answer.KindAnswer.{KindAnswer}
use Rattle.cat_kinds.specs.declared.answer.KindAnswer.TheVariants.{Faults, Relations}
use Rattle.cat_process.specs.Process.{contents_of, result_of, shelf_refs}
use Rattle.cat_process.proofs.OnShelf.{offered_on_shelf}
use Rattle.cat_process.proofs.Reading.{contents_agree}
use Rattle.cat_stitch.specs.Document.{document}
use Rattle.cat_types.specs.Same.{same_work, same_parts}
use Rattle.cat_types.proofs.Alike.{work_is, work_self, parts_is, parts_self}
use Rattle.cat_layers.specs.Bytes.{stored_bytes}
use Rattle.cat_model.specs.Catalogue.{Rules}

-- the relations of an answer that has no fault
abbrev pub relations_in : KindAnswer → List Relation
relations_in (Faults faults) = []
relations_in (Relations relations) = relations

-- the relations that an entity states, where its reference fields have no fault
abbrev pub entity_relations : Data → Text → List Relation
entity_relations tree r = relations_in (answer_of tree r)

-- what the lower layers give, and their laws
abbrev pub layered : Rules
layered = record {
  contents = contents_of;
  result = result_of;
  relations = entity_relations;
  doc = document;
  bytes = stored_bytes;
  shelf_refs = shelf_refs;
  same_work = same_work;
  same_parts = same_parts;
  same_work-is = work_is;
  same_parts-is = parts_is;
  same_work-self = work_self;
  same_parts-self = parts_self;
  offers_on_shelf = offered_on_shelf;
  reads = contents_agree;
}
