-- The lines of a text, and the parts of a list of lines.
use Rattle.std.specs.Prelude.{ℕ, ◌-◌, List, [], ◌∷◌, Bool, true, false, ◌==◌, ◌&&◌, ◌||◌, not, nat_lt, nat_le, length, map, Option, None, Some, if◌then◌else◌}
use Rattle.std.specs.Option.{option_and_then}
use Rattle.std.specs.Str.Lines.{lines}
use Rattle.cat_yaml.specs.declared.line.Start.{Start}
use Rattle.cat_yaml.specs.declared.line.Start.TheVariants.{Item, Entry, Document, Outside}
use Rattle.cat_yaml.specs.Scan.{begins_with, ends_word, stripped, is_end, is_item}

-- a line: how many bytes it has, and its content, which is the last of them
pub record Line : Type 0 where
  pub width : ℕ
  pub content : List ℕ

-- the content is what follows the spaces in front
abbrev pub line_of : List ℕ → Line
line_of s = record { width = length s; content = stripped s }

-- how many bytes stand in front of the content
abbrev pub indent : Line → ℕ
indent l = l.width - length l.content

-- the lines of a text, each ended by LF, with a CR before it dropped
abbrev pub lines_of : List ℕ → List Line
lines_of text = map line_of (lines text)

-- only spaces
abbrev pub is_blank : Line → Bool
is_blank l = length l.content == 0

-- a line with only spaces or a comment is passed over
abbrev pub is_passed : Line → Bool
is_passed l = is_blank l || begins_with 35 l.content

-- each line is passed over
abbrev pub are_passed : List Line → Bool
are_passed [] = true
are_passed (l ∷ ls) = if is_passed l then are_passed ls else false

-- what follows the byte c, if the bytes begin with it
abbrev pub after : ℕ → List ℕ → Option (List ℕ)
after c [] = None
after c (b ∷ s) = if b == c then Some s else None

-- what follows the byte c, three times
abbrev pub after_three : ℕ → List ℕ → Option (List ℕ)
after_three c s = option_and_then (after c) (option_and_then (after c) (after c s))

-- nothing but a comment follows
abbrev pub ends_start : Option (List ℕ) → Bool
ends_start None = false
ends_start (Some s) = is_end s

-- a document begins with `---` at indent 0, and a comment may follow
abbrev pub is_document_start : Line → Bool
is_document_start l = indent l == 0 && ends_start (after_three 45 l.content)

-- a space or nothing follows
abbrev pub ends_stop : Option (List ℕ) → Bool
ends_stop None = false
ends_stop (Some s) = ends_word s

-- `...` at indent 0, which has no reading
abbrev pub is_document_end : Line → Bool
is_document_end l = indent l == 0 && ends_stop (after_three 46 l.content)

-- whether the line begins the next item of a list or the next entry of a map at an indent, or a document, or stands outside
-- of the literal text of an entry at an indent; a list at the indent of a map's entry belongs to the entry
abbrev pub begins : Start → Line → Bool
begins (Item n) l = not (is_passed l) && nat_le (indent l) n
begins (Entry n) l = not (is_passed l) && (nat_lt (indent l) n || (indent l == n && not (is_item l.content)))
begins Document l = is_document_start l
begins (Outside n) l = not (is_blank l) && nat_le (indent l) n

-- the lines before the first that begins the next part
abbrev pub part : Start → List Line → List Line
part start [] = []
part start (l ∷ ls) = if begins start l then [] else l ∷ part start ls
