-- What the reader of JSON promises, by the text of a JSON string.
use Rattle.std.proofs.Common.{◌≡◌, ◌⊎◌, ℕ, List, Bool, true, false, Option, None, Some, Err, IsErrOf, if◌then◌else◌, refl, ap, ◌∙◌, inl, inr}
use Rattle.std.proofs.lemmas.Str.{IsUtf8-from_is_utf8, is_utf8-from_IsUtf8}
use Rattle.std.specs.Str.{is_utf8}
use Rattle.serde_json.specs.Data as json
use Rattle.serde_json.specs.Read.{read}
use Rattle.serde_json.specs.Written.{has_float}
use Rattle.cat_tree.specs.Data.{Data}
use Rattle.cat_tree.specs.Read.{IsReading, ReadsAs, tree_of}
use Rattle.cat_tree.specs.declared.read.TreeFault.{TreeFault}
use Rattle.cat_tree.specs.declared.read.TreeFault.TheVariants as tree
use Rattle.cat_tree.specs.declared.tree.Tree.{Tree}
use Rattle.cat_yaml.specs.declared.fault.Refusal.TheVariants.{NoReading, NoMemory}
use Rattle.cat_yaml.specs.Quoted.{string_in, json_text}
use Rattle.cat_yaml.specs.Seen.{words_of, refusal_of}

reading_is : (s : List ℕ) (d : json.Data) → IsReading s d → json_text s ≡ string_in (Some d)
reading_is s d h = rw (is_utf8-from_IsUtf8 s h.0, h.1) refl

string_words : (d : json.Data) → string_in (Some d) ≡ words_of (tree_of d)
string_words json.null = refl
string_words (json.boolean b) = refl
string_words (json.number n) = refl
string_words (json.string t) = refl
string_words (json.array ds) = refl
string_words (json.object ms) = refl

float_string : (d : json.Data) → has_float d ≡ true → string_in (Some d) ≡ Err NoReading
float_string json.null e = refl
float_string (json.boolean b) e = refl
float_string (json.number n) e = refl
float_string (json.string t) e = cc
float_string (json.array ds) e = refl
float_string (json.object ms) e = refl

syntax_by : (s : List ℕ) (b : Bool) (o : Option json.Data) → is_utf8 s ≡ b → read s ≡ o → ((d : json.Data) → ¬ IsReading s d) → (if b then string_in o else Err NoReading) ≡ Err NoReading
syntax_by s false o u r h = refl
syntax_by s true None u r h = refl
syntax_by s true (Some d) u r h = absurd (h d (IsUtf8-from_is_utf8 s u, r))

-- the text of the tree that was read
pub json_ok : (s : List ℕ) (t : Data) → ReadsAs s t → json_text s ≡ words_of t
json_ok s t h = reading_is s h.0 h.1 ∙ string_words h.0 ∙ ap words_of h.3

pub json_err : (s : List ℕ) (e : TreeFault) → (IsErrOf {T = Tree} (Err e) tree.Syntax → (d : json.Data) → ¬ IsReading s d) → (IsErrOf {T = Tree} (Err e) tree.Fraction → (d : json.Data) × IsReading s d × (has_float d ≡ true)) → (json_text s ≡ Err (refusal_of e)) ⊎ (refusal_of e ≡ NoMemory)
json_err s tree.Syntax h f = inl (syntax_by s (is_utf8 s) (read s) refl refl (h refl))
json_err s tree.Fraction h f = let x = f refl in inl (reading_is s x.0 x.1 ∙ float_string x.0 x.2)
json_err s tree.NoMemory h f = inr refl
