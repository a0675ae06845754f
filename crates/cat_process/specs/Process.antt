-- What processing an entity gives, from its tree and the contents of its targets alone.
use Rattle.std.specs.Prelude.{ℕ, List, [], ◌∷◌, ◌++◌, Bool, true, false, ◌==◌, Option, Some, None, Result, Ok, Err, map, length, if◌then◌else◌, bytes_eq, codes}
use Rattle.std.specs.List.{flat_map}
use Rattle.cat_tree.specs.Data.{Data, words}
use Rattle.cat_tree.specs.Ask.{child_of}
use Rattle.cat_tree.specs.Edit.{with_key}
use Rattle.cat_types.specs.Reference.{text_at}
use Rattle.cat_collections.specs.Table.{Text, Map, get}
use Rattle.cat_types.specs.declared.input.Offered.{Offered}
use Rattle.cat_types.specs.declared.issue.Issue.{Issue}
use Rattle.cat_types.specs.declared.issue.IssueName.{IssueName}
use Rattle.cat_types.specs.declared.issue.IssueName.TheVariants as issue
use Rattle.cat_types.specs.declared.issue.Level.TheVariants.{Error, Warning}
use Rattle.cat_types.specs.declared.work.Content.{Content}
use Rattle.cat_types.specs.declared.work.Work.{Work}
use Rattle.cat_types.specs.declared.work.Outcome.{Outcome}
use Rattle.cat_types.specs.declared.work.Outcome.TheVariants.{Good, Bad}
use Rattle.cat_schema.specs.Rules.{breaches}
use Rattle.cat_schema.specs.declared.faults.SchemaFault.{SchemaFault}
use Rattle.cat_kinds.specs.Kinds.{kind_faults}
use Rattle.cat_kinds.specs.declared.answer.KindFault.{KindFault}
use Rattle.cat_target.specs.Location.{is_optional}
use Rattle.cat_target.specs.Targets.{targets_of, unless_faulty}
use Rattle.cat_target.specs.declared.target.Target.{Target}
use Rattle.cat_target.specs.declared.target.TargetFault.{TargetFault}
use Rattle.cat_inputs.specs.Shelf.{shelf_reading}
use Rattle.cat_inputs.specs.declared.fault.ShelfFault.{ShelfFault}
use Rattle.cat_inputs.specs.declared.shelf.Listed.{Listed}
use Rattle.cat_process.specs.Messages.{spaced, schema_text, kind_text, target_text, shelf_text}
use Rattle.cat_process.specs.Offers.{all_offers, firsts, repeats}

-- ---- the contents of an entity's targets

-- the name of a kind is Location
abbrev pub is_named_location : Option Text → Bool
is_named_location None = false
is_named_location (Some kind) = bytes_eq kind (codes "Location")

-- the kind is Location
unfoldable pub is_location : Data → Bool
is_location d = is_named_location (text_at (child_of (codes "kind") d))

-- the targets of a Location, and none of another kind
abbrev pub entity_targets : Data → Result (List Target) TargetFault
entity_targets d = if is_location d then targets_of d else Ok []

-- the targets of a Location without schema or target fault, else none
unfoldable pub wanted_of : Data → List Target
wanted_of d = if length (breaches d) == 0 then unless_faulty (entity_targets d) else []

-- the text that the shelf has for a target
abbrev pub content_from : Map Text → Target → Content
content_from shelf t = record { name = t.name; body = get shelf t.name }

-- for each wanted name the text that the shelf has for it, or nothing
unfoldable pub contents_of : Data → Map Text → List Content
contents_of d shelf = map (content_from shelf) (wanted_of d)

-- the input of an entity over a shelf
abbrev pub work_on : Data → Map Text → Work
work_on d shelf = record { tree = d; contents = contents_of d shelf }

-- ---- what is wrong with an entity

-- an issue of level error
abbrev pub error : IssueName → Text → Issue
error name message = record { level = Error; name = name; message = message }

-- the issue of a breach of the descriptor format
abbrev pub schema_issue : SchemaFault → Issue
schema_issue fault = error issue.SchemaFault (schema_text fault)

-- an issue for each breach of a rule of the descriptor format
unfoldable pub schema_issues : Data → List Issue
schema_issues d = map schema_issue (breaches d)

-- the issue of a reference field without a reading
abbrev pub reference_issue : KindFault → Issue
reference_issue fault = error issue.ReferenceFault (kind_text fault)

-- an issue for each reference field that has no reading
unfoldable pub reference_issues : Data → List Issue
reference_issues d = map reference_issue (kind_faults d)

-- the issue of targets that are at fault
abbrev pub target_issues_in : Result (List Target) TargetFault → List Issue
target_issues_in (Ok targets) = []
target_issues_in (Err fault) = error issue.TargetFault (target_text fault) ∷ []

-- an issue where a Location has no targets
unfoldable pub target_issues : Data → List Issue
target_issues d = target_issues_in (entity_targets d)

-- an issue where a text lists no descriptors
abbrev pub listing_issues : Text → Result (List Listed) ShelfFault → List Issue
listing_issues name (Ok listed) = []
listing_issues name (Err fault) = error issue.ShelfFault (spaced name (shelf_text fault)) ∷ []

-- an issue where there is no text for a target that isn't optional, or its text lists no descriptors
abbrev pub body_issues : Bool → Text → Option Text → List Issue
body_issues optional name None = if optional then [] else error issue.MissingTarget name ∷ []
body_issues optional name (Some body) = listing_issues name (shelf_reading body)

-- the issue of a content, if it is at fault
abbrev pub content_issue : Bool → Content → List Issue
content_issue optional c = body_issues optional c.name c.body

-- an issue for each content at fault, in order of the targets
unfoldable pub content_issues : Data → List Content → List Issue
content_issues d contents = flat_map (content_issue (is_optional d)) contents

-- ---- the result

-- metadata with the namespace `default`, where there is none
abbrev pub with_default : Data → Data → Option Data → Data
with_default d metadata None = with_key (codes "metadata") (with_key (codes "namespace") (words (codes "default")) metadata) d
with_default d metadata (Some namespace) = d

-- a tree whose metadata, if it has any, has a namespace
abbrev pub with_default_in : Data → Option Data → Data
with_default_in d None = d
with_default_in d (Some metadata) = with_default d metadata (child_of (codes "namespace") metadata)

-- the processed entity: the tree, with the namespace `default` where it has none
unfoldable pub entity_of : Data → Data
entity_of d = with_default_in d (child_of (codes "metadata") d)

-- a warning for an offer whose reference is offered before
abbrev pub duplicate : Text × Offered → Issue
duplicate e = record { level = Warning; name = issue.DuplicateOffer; message = spaced e.0 e.1.key }

-- the good result: the processed entity with the first offer of each reference, and a warning for each other offer
abbrev pub good : Data → Map Offered → Outcome
good d offers = Good (record { entity = entity_of d; offers = firsts [] offers }) (map duplicate (repeats [] offers))

-- the issues, if there are any, make the result bad
abbrev pub bad_or : List Issue → Outcome → Outcome
bad_or issues next = if length issues == 0 then next else Bad issues

-- what comes of the contents of an entity with which nothing else is wrong
abbrev pub from_contents : Data → List Content → Outcome
from_contents d contents = bad_or (content_issues d contents) (good d (all_offers d contents))

-- the first of these cases that holds: schema faults, reference faults, a target fault, contents at fault, and else good
unfoldable pub result_of : Work → Outcome
result_of w =
    bad_or (schema_issues w.tree)
    (bad_or (reference_issues w.tree)
    (bad_or (target_issues w.tree) (from_contents w.tree w.contents)))

-- ---- the references that a shelf gives

-- the references of the descriptors that a text lists
abbrev pub listed_refs : Result (List Listed) ShelfFault → List Text
listed_refs (Ok listed) = map (λ x. x.reference) listed
listed_refs (Err fault) = []

-- the references of all descriptors of all texts that list any
unfoldable pub shelf_refs : Map Text → List Text
shelf_refs shelf = flat_map (λ e. listed_refs (shelf_reading e.1)) shelf
