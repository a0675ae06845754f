-- The relations that are lent.
use Rattle.std.specs.Prelude.{List, [], drop, option_map, unwrap_or}
use Rattle.cat_types.specs.declared.relation.Relation.{Relation}
use Rattle.cat_collections.specs.Table.{keys}
use Rattle.cat_links.specs.declared.links.Relations.{Relations}

-- what an iterator over the relations of a source has still to give
abbrev pub relations_left : Relations → List Relation
relations_left it = drop it.place (keys (unwrap_or (option_map (λ x. x.now) it.counts) []))
