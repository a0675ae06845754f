-- Tests of equality that compute.
use Rattle.std.specs.Prelude.{ℕ, Bool, true, false, ◌&&◌, List, [], ◌∷◌, nat_eq}
use Rattle.std.specs.declared.option.Option.{Option}
use Rattle.std.specs.declared.option.Option.TheVariants.{None, Some}
use Rattle.std.specs.Ordering.{eq_by_cmp}
use mathlib.Core.Bool.{beq}
use Rattle.cat_tree.specs.Same.{is_same}
use Rattle.cat_collections.specs.Table.{Text, same_text}
use Rattle.cat_types.specs.Relation.{relation_cmp}
use Rattle.cat_types.specs.declared.issue.Issue.{Issue}
use Rattle.cat_types.specs.declared.issue.IssueName.{IssueName}
use Rattle.cat_types.specs.declared.issue.IssueName.TheVariants.{SchemaFault, ReferenceFault, TargetFault, MissingTarget, ShelfFault, DuplicateOffer}
use Rattle.cat_types.specs.declared.issue.Level.{Level}
use Rattle.cat_types.specs.declared.issue.Level.TheVariants.{Error, Warning}
use Rattle.cat_types.specs.declared.parts.Parts.{Parts}
use Rattle.cat_types.specs.declared.relation.Relation.{Relation}
use Rattle.cat_types.specs.declared.work.Content.{Content}
use Rattle.cat_types.specs.declared.work.Work.{Work}

-- each name of an issue has a number of its own
abbrev pub name_rank : IssueName → ℕ
name_rank SchemaFault = 0
name_rank ReferenceFault = 1
name_rank TargetFault = 2
name_rank MissingTarget = 3
name_rank ShelfFault = 4
name_rank DuplicateOffer = 5

-- each level has a number of its own
abbrev pub level_rank : Level → ℕ
level_rank Error = 0
level_rank Warning = 1

-- the lists are equal one by one
abbrev pub same_list : {A : Type 0} → (A → A → Bool) → List A → List A → Bool
same_list same [] [] = true
same_list same [] (y ∷ ys) = false
same_list same (x ∷ xs) [] = false
same_list same (x ∷ xs) (y ∷ ys) = same x y && same_list same xs ys

-- both are absent, or both are there and equal
abbrev pub same_option_text : Option Text → Option Text → Bool
same_option_text None None = true
same_option_text None (Some y) = false
same_option_text (Some x) None = false
same_option_text (Some x) (Some y) = same_text x y

-- name and text are equal
abbrev pub same_content : Content → Content → Bool
same_content x y = same_text x.name y.name && same_option_text x.body y.body

-- source, kind and target are equal: neither relation stands before the other
abbrev pub same_relation : Relation → Relation → Bool
same_relation = eq_by_cmp relation_cmp

-- level, name and message are equal
abbrev pub same_issue : Issue → Issue → Bool
same_issue x y = (nat_eq (level_rank x.level) (level_rank y.level) && nat_eq (name_rank x.name) (name_rank y.name)) && same_text x.message y.message

-- the trees are equal, and the contents one by one
abbrev pub same_work : Work → Work → Bool
same_work x y = is_same x.tree y.tree && same_list same_content x.contents y.contents

-- entity, number, orphan or not, relations and issues are equal
abbrev pub same_parts : Parts → Parts → Bool
same_parts x y = (((is_same x.entity y.entity && nat_eq x.number y.number) && beq x.orphan y.orphan) && same_list same_relation x.relations y.relations) && same_list same_issue x.issues y.issues
