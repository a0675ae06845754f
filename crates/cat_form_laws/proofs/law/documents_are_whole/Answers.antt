use Rattle.cat_form_laws.proofs.Documents.{found, is_entity_map, document_names, document_orphan, all_relations}
use Rattle.cat_form_laws.proofs.law.documents_are_whole.Goals as goal

pub returns-clause-reference : goal.returns-clause-reference
returns-clause-reference c = document_names

pub returns-clause-relations : goal.returns-clause-relations
returns-clause-relations c p r h = c.shows_the_parts.ensures.relations p (is_entity_map p r h)

pub returns-clause-status : goal.returns-clause-status
returns-clause-status c p r h = c.shows_the_parts.ensures.status p (is_entity_map p r h) h.within.proper

pub returns-clause-id : goal.returns-clause-id
returns-clause-id c p r h = let m = found p r h in c.shows_the_number.ensures.id p m.metadata m.has m.map

pub returns-clause-orphan : goal.returns-clause-orphan
returns-clause-orphan c = document_orphan

pub returns-clause-stated : goal.returns-clause-stated
returns-clause-stated c = all_relations
