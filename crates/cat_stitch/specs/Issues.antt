-- How documents show issues.
use Rattle.std.specs.Prelude.{ℕ, List, [], ◌∷◌, map, codes}
use Rattle.cat_tree.specs.Data.{Data, words, list, dict, items_of, members_of}
use Rattle.cat_types.specs.declared.issue.Issue.{Issue}
use Rattle.cat_types.specs.declared.issue.Level.{Level}
use Rattle.cat_types.specs.declared.issue.Level.TheVariants.{Error, Warning}
use Rattle.cat_types.specs.declared.issue.IssueName.{IssueName}
use Rattle.cat_types.specs.declared.issue.IssueName.TheVariants.{SchemaFault, ReferenceFault, TargetFault, MissingTarget, ShelfFault, DuplicateOffer}

-- the name of a level
abbrev pub level_text : Level → List ℕ
level_text Error = codes "error"
level_text Warning = codes "warning"

-- the name of what an issue is about
abbrev pub issue_name_text : IssueName → List ℕ
issue_name_text SchemaFault = codes "SchemaFault"
issue_name_text ReferenceFault = codes "ReferenceFault"
issue_name_text TargetFault = codes "TargetFault"
issue_name_text MissingTarget = codes "MissingTarget"
issue_name_text ShelfFault = codes "ShelfFault"
issue_name_text DuplicateOffer = codes "DuplicateOffer"

-- what is wrong, by message and name
abbrev pub error_of : Issue → Data
error_of issue = dict (members_of (
    (codes "message", words issue.message)
    ∷ (codes "name", words (issue_name_text issue.name))
    ∷ []))

-- the status item of an issue
abbrev pub item_of_issue : Issue → Data
item_of_issue issue = dict (members_of (
    (codes "error", error_of issue)
    ∷ (codes "level", words (level_text issue.level))
    ∷ (codes "message", words issue.message)
    ∷ (codes "type", words (codes "backstage.io/catalog-processing"))
    ∷ []))

-- the status items of issues, in their order
abbrev pub items_of_issues : List Issue → Data
items_of_issues issues = list (items_of (map item_of_issue issues))
