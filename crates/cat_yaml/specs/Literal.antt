-- Literal text: the lines below an entry, less their common indent.
use Rattle.std.specs.Prelude.{ℕ, ◌-◌, List, [], ◌∷◌, ◌++◌, ◌==◌, nat_le, length, drop, replicate, Option, None, Some, Result, Ok, Err, bytes_eq, codes, if◌then◌else◌}
use Rattle.cat_tree.specs.Data.{Data}
use Rattle.cat_yaml.specs.declared.fault.Refusal.{Refusal}
use Rattle.cat_yaml.specs.declared.fault.Refusal.TheVariants.{NoReading}
use Rattle.cat_yaml.specs.declared.literal.Chomping.{Chomping}
use Rattle.cat_yaml.specs.declared.literal.Chomping.TheVariants.{Clip, Strip, Keep}
use Rattle.cat_yaml.specs.declared.line.Start.TheVariants.{Outside}
use Rattle.cat_yaml.specs.Steps.{and_then}
use Rattle.cat_yaml.specs.Scan.{begins_with, trimmed, uncommented}
use Rattle.cat_yaml.specs.Scalar.{text_of, as_words}
use Rattle.cat_yaml.specs.Lines.{Line, indent, is_blank, are_passed, part}

-- how literal text ends, by its mark
abbrev pub chomping_by : List ℕ → Option Chomping
chomping_by s =
    if bytes_eq s (codes "|") then Some Clip
    else if bytes_eq s (codes "|-") then Some Strip
    else if bytes_eq s (codes "|+") then Some Keep
    else None

-- how literal text ends, where the rest of an entry calls for one by `|`, `|-` or `|+`
abbrev pub chomping_of : List ℕ → Option Chomping
chomping_of s = if begins_with 124 s then chomping_by (uncommented s) else None

-- the indent of the first line that has another byte than a space
abbrev pub margin : List Line → Option ℕ
margin [] = None
margin (l ∷ ls) = if is_blank l then margin ls else Some (indent l)

-- a line without the margin; only a line of spaces may have less of it, and is empty then
abbrev pub literal_line : Option ℕ → Line → Result (List ℕ) Refusal
literal_line None l = Ok []
literal_line (Some n) l =
    if nat_le n (indent l) then Ok (replicate (indent l - n) 32 ++ l.content)
    else if is_blank l then Ok []
    else Err NoReading

-- a line behind the text so far
abbrev pub with_line : List ℕ → Result (List ℕ) Refusal → Result (List ℕ) Refusal
with_line text (Ok t) = Ok (text ++ t)
with_line text (Err e) = Err e

-- the lines behind the text so far, each without the margin and with LF at its end
abbrev pub literal_lines : Option ℕ → List ℕ → List Line → Result (List ℕ) Refusal
literal_lines n text [] = Ok text
literal_lines n text (l ∷ ls) = and_then (with_line text (literal_line n l)) (λ t. literal_lines n (t ++ 10 ∷ []) ls)

-- the text with LF at its end, unless it is empty
abbrev pub with_newline : List ℕ → List ℕ
with_newline s = if length s == 0 then s else s ++ 10 ∷ []

-- the text with one LF at its end unless it is empty, or with none, or with all
abbrev pub chomped : Chomping → List ℕ → List ℕ
chomped Clip t = with_newline (trimmed 10 t)
chomped Strip t = trimmed 10 t
chomped Keep t = t

-- the text of the lines of literal text
abbrev pub literal_text : Chomping → List Line → Result Data Refusal
literal_text c ls = and_then (literal_lines (margin ls) [] ls) (λ t. as_words (text_of (chomped c t)))

-- the literal text of an entry at indent n: the lines that have only spaces or a greater indent; the lines after these are
-- passed over
abbrev pub literal : Chomping → ℕ → List Line → Result Data Refusal
literal c n ls = if are_passed (drop (length (part (Outside n) ls)) ls) then literal_text c (part (Outside n) ls) else Err NoReading
