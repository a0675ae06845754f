-- What a mirror answers to lines, and what it writes in the end.
use Rattle.std.specs.Prelude.{ℕ, List, [], ◌∷◌, ◌++◌, length, map, nat_lt, codes, Option, None, Some, Result, Ok, Err, if◌then◌else◌}
use Rattle.cat_tree.specs.Data.{list, items_of}
use Rattle.cat_tree.specs.Text.{text_of}
use Rattle.cat_tree.specs.declared.read.TreeFault.TheVariants as tree
use Rattle.cat_feed.specs.Changes.{Documents}
use Rattle.cat_feed.specs.declared.change.Changes.{Changes}
use Rattle.cat_feed.specs.declared.change.Since.{Since}
use Rattle.cat_feed.specs.Place.{since_text}
use Rattle.cat_feed.specs.Read.{changes_of, field_text}
use Rattle.cat_feed.specs.declared.text_fault.ChangesFault.{ChangesFault}
use Rattle.cat_feed.specs.declared.text_fault.ChangesFault.TheVariants as fault
use Rattle.cat_io.specs.Lines.{lines}
use Rattle.cat_feed.specs.Mirror.{empty, leads_on, mirrored}
use Rattle.cat_feed.specs.declared.mirror.Mirror.{Mirror}

-- ---- one line

-- the most bytes of a line, its LF and one CR before it not counted
abbrev pub longest_line : ℕ
longest_line = 1073741824

-- a mirror's place, or that it has none
abbrev pub place_text : Option Since → List ℕ
place_text None = codes "none"
place_text (Some since) = since_text since

-- why a line is no changes
abbrev pub refusal : ChangesFault → List ℕ
refusal (fault.Json tree.Syntax) = codes "refused json syntax"
refusal (fault.Json tree.Fraction) = codes "refused json fraction"
refusal (fault.Json tree.NoMemory) = codes "no memory"
refusal (fault.Shape field) = codes "refused shape " ++ field_text field
refusal fault.NoMemory = codes "no memory"

-- the answer to changes: the place that they lead to, or the one that they don't lead on from
abbrev pub told : Changes → Mirror → List ℕ
told c m = if leads_on c m then codes "ok " ++ since_text c.to else codes "refused gap " ++ place_text m.place

-- the answer to what a line is
abbrev pub answer_to : Result Changes ChangesFault → Mirror → List ℕ
answer_to (Ok c) m = told c m
answer_to (Err f) m = refusal f

-- the mirror after what a line is: changes are applied where they lead on from its place
abbrev pub led_by : Result Changes ChangesFault → Mirror → Mirror
led_by (Ok c) m = if leads_on c m then mirrored c m else m
led_by (Err f) m = m

-- the answer to a line, its LF at the end
unfoldable pub mirror_answer : Mirror → List ℕ → List ℕ
mirror_answer m line = (if nat_lt longest_line (length line) then codes "refused long" else answer_to (changes_of line) m) ++ 10 ∷ []

-- the mirror after a line
unfoldable pub mirror_next : Mirror → List ℕ → Mirror
mirror_next m line = if nat_lt longest_line (length line) then m else led_by (changes_of line) m

-- ---- lines

-- the answers to lines, one after the other
abbrev pub answers : Mirror → List (List ℕ) → List ℕ
answers m [] = []
answers m (line ∷ lines) = mirror_answer m line ++ answers (mirror_next m line) lines

-- the mirror after lines
abbrev pub mirror_after : Mirror → List (List ℕ) → Mirror
mirror_after m [] = m
mirror_after m (line ∷ lines) = mirror_after (mirror_next m line) lines

-- ---- the whole

-- the list of the documents in order of reference, its LF at the end
unfoldable pub documents_line : Documents → List ℕ
documents_line ds = text_of (list (items_of (map (λ e. e.1) ds))) ++ 10 ∷ []

-- what a mirror writes that has followed these bytes to their end: the answers to their lines, and then the list of its documents
abbrev pub mirror_out : List ℕ → List ℕ
mirror_out bytes = answers empty (lines bytes) ++ documents_line (mirror_after empty (lines bytes)).documents
