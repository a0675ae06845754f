-- The line that says what a catalogue has come to.
use Rattle.std.specs.Prelude.{ℕ, zero, suc, ◌+◌, ◌-◌, ◌^◌, min, Bool, false, cond, List, [], ◌∷◌, ◌++◌, length, Option, None, Some, find, bytes_eq, codes}
use Rattle.std.specs.Fmt.{decimal}
use Rattle.cat_tree.specs.Ask.{child_of}
use Rattle.cat_tree.specs.Data.{Data, null, flag, whole, words, list, dict, Items, no_items, item}
use Rattle.cat_types.specs.Reference.{text_at}
use Rattle.cat_collections.specs.Table.{Text, Map}
use Rattle.cat_model.specs.Catalogue.{Rules}
use Rattle.cat_model.specs.Reply.{counts}
use Rattle.cat_model.specs.declared.types.Counts.{Counts}
use Rattle.cat_model.specs.declared.types.Progress.{Progress}
use Rattle.cat_model.specs.declared.types.Settings.{Settings}
use Rattle.cat_replies.specs.Line.{line}
use Rattle.cat_sample.specs.Sample.{numbered, sample_settled}

-- a count stands still at the greatest number of 64 bits
abbrev pub capped : ℕ → ℕ
capped n = min n (2 ^ 64 - 1)

-- the items of a part that is a list
abbrev pub items_in : Option Data → Items
items_in None = no_items
items_in (Some null) = no_items
items_in (Some (flag b)) = no_items
items_in (Some (whole z)) = no_items
items_in (Some (words s)) = no_items
items_in (Some (list ds)) = ds
items_in (Some (dict ms)) = no_items

-- the relations of a document
abbrev pub relations_of : Data → Items
relations_of document = items_in (child_of (codes "relations") document)

-- the text, if there is one, is this
abbrev pub is_text : Text → Option Text → Bool
is_text text None = false
is_text text (Some other) = bytes_eq other text

-- a relation has the type `ownerOf`
abbrev pub is_ownership : Data → Bool
is_ownership relation = is_text (codes "ownerOf") (text_at (child_of (codes "type") relation))

-- how many there are
abbrev pub item_count : Items → ℕ
item_count no_items = 0
item_count (item d ds) = suc (item_count ds)

-- how many of them say what a Group owns
abbrev pub ownership_count : Items → ℕ
ownership_count no_items = 0
ownership_count (item d ds) = cond (is_ownership d) (suc (ownership_count ds)) (ownership_count ds)

-- how many relations the documents have
abbrev pub relation_count : Map Data → ℕ
relation_count [] = 0
relation_count (e ∷ es) = capped (item_count (relations_of e.1) + relation_count es)

-- the document under a reference's text
abbrev pub document_at : Text → Map Data → Option (Text × Data)
document_at name documents = find (λ e. bytes_eq e.0 name) documents

-- how much a document says that its Group owns
abbrev pub owned_in : Option (Text × Data) → ℕ
owned_in None = 0
owned_in (Some e) = ownership_count (relations_of e.1)

-- a space, and how much each of so many Groups owns, from a number on
abbrev pub owned_texts : Map Data → ℕ → ℕ → List Text
owned_texts documents j zero = []
owned_texts documents j (suc n) = codes " " ∷ decimal (owned_in (document_at (numbered (codes "group:default/g") j) documents)) ∷ owned_texts documents (j + 1) n

-- the number of Components, what the settle counted, and how many documents and relations there are
abbrev pub counted_texts : ℕ → Counts → ℕ → ℕ → List Text
counted_texts count settled documents relations =
    codes "sample " ∷ decimal count
    ∷ codes " settled " ∷ decimal settled.rounds ∷ codes " " ∷ decimal settled.leases ∷ codes " " ∷ decimal settled.stitched
    ∷ codes " documents " ∷ decimal documents
    ∷ codes " relations " ∷ decimal relations
    ∷ codes " owned" ∷ []

-- the line: that, and how much each Group owns
unfoldable pub summary : ℕ → Counts → Map Data → List ℕ
summary count settled documents = line (counted_texts count settled (length documents) (relation_count documents) ++ owned_texts documents 0 10)

-- the summary of a settle
abbrev pub settled_summary : ℕ → Progress → List ℕ
settled_summary count p = summary count (counts p) p.state.documents

-- the line of the sample that a seed makes
abbrev pub sample_line : Rules → Settings → ℕ → ℕ → List ℕ
sample_line rules s seed count = settled_summary count (sample_settled rules s seed count)
