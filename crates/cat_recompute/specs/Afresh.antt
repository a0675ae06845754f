-- Fresh documents, with the relations that all fresh outputs emit worked out once.
use Rattle.std.specs.Prelude.{false, List}
use Rattle.std.specs.declared.option.Option.{Option}
use Rattle.std.specs.Option.{option_and_then, option_map}
use Rattle.cat_model.specs.Catalogue.{Ref, Tree, Relation, Output, Parts, Work, Rules, from_source}
use Rattle.cat_model.specs.Fresh.{Facts, fresh_outputs, fresh_work, issues_of}

-- the parts of a fresh document
abbrev pub parts_with : Rules → Facts → List Relation → Ref → Work → Output → Parts
parts_with rules facts relations r w output =
    record {
      entity = output.entity;
      number = facts.number r;
      orphan = false;
      relations = from_source r relations;
      issues = issues_of (rules.result w);
    }

-- the fresh document
abbrev pub document_with : Rules → Facts → List Relation → Ref → Option Tree
document_with rules facts relations r =
    option_and_then (λ w. option_map (λ output. rules.doc (parts_with rules facts relations r w output)) (fresh_outputs rules facts r))
    (fresh_work rules facts (fresh_outputs rules facts) r)
