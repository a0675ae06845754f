-- The documents of a text in block YAML.
use Rattle.std.specs.Prelude.{◌≡◌, ℕ, List, [], ◌∷◌, ◌++◌, ◌==◌, length, Option, None, Some, Result, Ok, Err, if◌then◌else◌}
use Rattle.std.specs.Str.{is_utf8}
use Rattle.cat_tree.specs.Data.{Data}
use Rattle.cat_yaml.specs.declared.fault.Refusal.{Refusal}
use Rattle.cat_yaml.specs.declared.fault.Refusal.TheVariants.{NoReading}
use Rattle.cat_yaml.specs.declared.line.Start.TheVariants.{Document}
use Rattle.cat_yaml.specs.Steps.{and_then}
use Rattle.cat_yaml.specs.Scan.{begins_with}
use Rattle.cat_yaml.specs.Lines.{Line, lines_of, is_passed, is_document_end, begins, part}
use Rattle.cat_yaml.specs.Block.{block}

-- the document of a node
abbrev pub as_some : Result Data Refusal → Result (Option Data) Refusal
as_some (Ok d) = Ok (Some d)
as_some (Err e) = Err e

-- the document on these lines, if one of them isn't passed over: a block node of at most 127 levels
abbrev pub document : List Line → Result (Option Data) Refusal
document [] = Ok None
document (l ∷ ls) =
    if is_passed l then document ls else if begins_with 9 l.content then Err NoReading else as_some (block 127 l ls)

-- a document behind those so far
abbrev pub with_document : List Data → Result (Option Data) Refusal → Result (List Data) Refusal
with_document done (Ok None) = Ok done
with_document done (Ok (Some d)) = Ok (done ++ d ∷ [])
with_document done (Err e) = Err e

-- the documents that begin on these lines, behind those so far
abbrev pub more_documents : List Data → List Line → Result (List Data) Refusal
more_documents done [] = Ok done
more_documents done (l ∷ ls) =
    if is_document_end l then Err NoReading
    else if begins Document l then and_then (with_document done (document (part Document ls))) (λ ds. more_documents ds ls)
    else more_documents done ls

-- the documents of these lines: one before the first `---`, and one after each
abbrev pub documents : List Line → Result (List Data) Refusal
documents ls = and_then (with_document [] (document (part Document ls))) (λ ds. more_documents ds ls)

-- a text has one document or more
abbrev pub some_documents : List Data → Result (List Data) Refusal
some_documents ds = if length ds == 0 then Err NoReading else Ok ds

-- the documents of a text that is UTF-8
abbrev pub text_reading : List ℕ → Result (List Data) Refusal
text_reading text = and_then (documents (lines_of text)) some_documents

-- the documents of a text, which is UTF-8
unfoldable pub reading : List ℕ → Result (List Data) Refusal
reading text = if is_utf8 text then text_reading text else Err NoReading

-- the text reads as these documents
abbrev pub IsReading : List ℕ → List Data → Type 0
IsReading text ds = reading text ≡ Ok ds
