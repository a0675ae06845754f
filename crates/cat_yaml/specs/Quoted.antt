-- Quoted texts: where one ends, and what it stands for.
use Rattle.std.specs.Prelude.{ℕ, suc, ◌-◌, List, [], ◌∷◌, Bool, true, false, ◌==◌, ◌&&◌, not, length, take, drop, Option, None, Some, Result, Ok, Err, if◌then◌else◌}
use Rattle.std.specs.Str.{is_utf8}
use Rattle.serde_json.specs.Data as json
use Rattle.serde_json.specs.Read.{read}
use Rattle.cat_yaml.specs.declared.fault.Refusal.{Refusal}
use Rattle.cat_yaml.specs.declared.fault.Refusal.TheVariants.{NoReading}
use Rattle.cat_yaml.specs.Scan.{begins_with}
use Rattle.cat_yaml.specs.Scalar.{text_of}

-- past the first single quote that is not doubled, counted from i on; after a quote, another one doubles it
abbrev pub single_from : ℕ → Bool → List ℕ → Option ℕ
single_from i after [] = if after then Some i else None
single_from i after (b ∷ s) =
    if b == 39 then single_from (suc i) (not after) s else if after then Some i else single_from (suc i) false s

-- past the first double quote that no backslash escapes, counted from i on
abbrev pub double_from : ℕ → Bool → List ℕ → Option ℕ
double_from i escaped [] = None
double_from i escaped (b ∷ s) =
    if b == 34 && not escaped then Some (suc i) else double_from (suc i) (b == 92 && not escaped) s

-- where the quoted text that begins here has its end, past the closing quote
abbrev pub quoted_end : List ℕ → Option ℕ
quoted_end s = if begins_with 39 s then single_from 1 false (drop 1 s) else double_from 1 false (drop 1 s)

-- the bytes between the quotes
abbrev pub inner : List ℕ → List ℕ
inner s = take (length s - 2) (drop 1 s)

-- each doubled single quote as one
abbrev pub undoubled : Bool → List ℕ → List ℕ
undoubled after [] = []
undoubled after (b ∷ s) = if b == 39 && not after then undoubled true s else b ∷ undoubled false s

-- the text of a JSON value that is a string
abbrev pub string_in : Option json.Data → Result (List ℕ) Refusal
string_in None = Err NoReading
string_in (Some json.null) = Err NoReading
string_in (Some (json.boolean b)) = Err NoReading
string_in (Some (json.number n)) = Err NoReading
string_in (Some (json.string t)) = Ok t
string_in (Some (json.array ds)) = Err NoReading
string_in (Some (json.object ms)) = Err NoReading

-- the text of a JSON string
abbrev pub json_text : List ℕ → Result (List ℕ) Refusal
json_text s = if is_utf8 s then string_in (read s) else Err NoReading

-- the text of a quoted text, with its quotes: in double quotes JSON's escapes, in single ones a doubled quote
abbrev pub quoted_text : List ℕ → Result (List ℕ) Refusal
quoted_text s = if begins_with 39 s then text_of (undoubled false (inner s)) else json_text s
