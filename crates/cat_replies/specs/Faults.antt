-- The replies to lines that are no commands, and to questions that have no answer.
use Rattle.std.specs.Prelude.{ℕ, List, [], ◌∷◌, codes}
use Rattle.std.specs.Fmt.{decimal}
use Rattle.cat_tree.specs.declared.read.TreeFault.{TreeFault}
use Rattle.cat_tree.specs.declared.read.TreeFault.TheVariants as tree
use Rattle.cat_types.specs.Faults.{fault_text}
use Rattle.cat_inputs.specs.Faults.{place_text}
use Rattle.cat_inputs.specs.declared.fault.InputFault.{InputFault}
use Rattle.cat_inputs.specs.declared.fault.InputFault.TheVariants as input
use Rattle.cat_query.specs.declared.fault.QueryFault.{QueryFault}
use Rattle.cat_query.specs.declared.fault.QueryFault.TheVariants as query
use Rattle.cat_replies.specs.Events.{no_memory, said}
use Rattle.cat_replies.specs.Line.{line}

-- no command has the word
abbrev pub bad_word : List ℕ
bad_word = said (codes "refused word")

-- the arguments are of another number or form
abbrev pub bad_arguments : List ℕ
bad_arguments = said (codes "refused arguments")

-- the line is too long
abbrev pub long_line : List ℕ
long_line = said (codes "refused long")

-- the bytes are no tree
abbrev pub no_tree : TreeFault → List ℕ
no_tree tree.Syntax = said (codes "refused json syntax")
no_tree tree.Fraction = said (codes "refused json fraction")
no_tree tree.NoMemory = no_memory

-- words and a place
abbrev pub at : List ℕ → ℕ → List ℕ
at words place = line (words ∷ decimal place ∷ [])

-- the body is no mutation, with the field or the place of the item at fault
abbrev pub no_mutation : InputFault → List ℕ
no_mutation (input.Json fault) = no_tree fault
no_mutation (input.Shape place) = line (codes "refused shape " ∷ place_text place ∷ [])
no_mutation input.TooMany = said (codes "refused too_many")
no_mutation (input.Deep place) = at (codes "refused deep ") place
no_mutation (input.NoRef place fault) = line (codes "refused no_ref " ∷ decimal place ∷ codes " " ∷ fault_text fault ∷ [])
no_mutation (input.Duplicate place) = at (codes "refused duplicate ") place
no_mutation input.NoMemory = no_memory

-- a text of a list names no entity, with its place
abbrev pub no_reference : ℕ → List ℕ
no_reference place = at (codes "refused reference ") place

-- a text is no query, with the place of a condition that has no key: that of its filter, and its own in it
abbrev pub no_query : QueryFault → List ℕ
no_query (query.Filter filter condition) = line (codes "refused filter " ∷ decimal filter ∷ codes " " ∷ decimal condition ∷ [])
no_query query.BadOrder = said (codes "refused order")
no_query query.BadLimit = said (codes "refused limit")
no_query query.BadCursor = said (codes "refused cursor")
no_query query.NoMemory = no_memory

-- a query asks for facets and names none
abbrev pub no_facet : List ℕ
no_facet = said (codes "refused facet")
