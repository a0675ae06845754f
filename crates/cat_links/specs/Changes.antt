-- Changes of what emitters emit, and the sources whose relations change with them.
use Rattle.std.specs.Prelude.{◌≡◌, ◌≢◌, cond, List, [], ◌∷◌, ◌++◌}
use Rattle.std.specs.List.{Contains}
use Rattle.std.specs.List.Sorted.{IsStrictlySortedBy}
use Rattle.cat_collections.specs.Rows.{without}
use Rattle.cat_collections.specs.Table.{Text, put, text_cmp}
use Rattle.cat_links.specs.declared.links.EmitChange.{EmitChange}
use Rattle.cat_links.specs.Links.{Emitted, emitted_by, is_empty, only_in, relations_of}
use Rattle.cat_types.specs.declared.relation.Relation.{Relation}

-- the table once an emitter emits just these relations; an emitter that emits none leaves it
abbrev pub with_emitter : Text → List Relation → Emitted → Emitted
with_emitter emitter relations m = cond (is_empty relations) (without text_cmp emitter m) (put text_cmp emitter relations m)

-- the table with these changes made, one after the other
abbrev pub with_changes : Emitted → List EmitChange → Emitted
with_changes m [] = m
with_changes m (c ∷ cs) = with_changes (with_emitter c.emitter c.relations m) cs

-- what the emitter of each change begins to emit with it, and what it no longer emits
abbrev pub touched : Emitted → List EmitChange → List Relation
touched m [] = []
touched m (c ∷ cs) = (only_in c.relations (emitted_by m c.emitter) ++ only_in (emitted_by m c.emitter) c.relations) ++ touched (with_emitter c.emitter c.relations m) cs

-- the list is that of exactly the sources whose relations differ between the tables, in order, each once
pub record AreChanged (before after : Emitted) (changed : List Text) : Type 0 where
  -- each source of the list has other relations than before
  pub sound : (source : Text) → Contains changed source → relations_of after source ≢ relations_of before source
  -- each source that has other relations than before is in the list
  pub complete : (source : Text) → relations_of after source ≢ relations_of before source → Contains changed source
  -- a source that isn't in the list has the relations that it had
  pub others : (source : Text) → (Contains changed source → ⊥) → relations_of after source ≡ relations_of before source
  pub rises : IsStrictlySortedBy text_cmp changed
