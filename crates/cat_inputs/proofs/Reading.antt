-- What the reader of trees promises, by the definition that computes.
use Rattle.std.proofs.Common.{◌≡◌, ◌⊎◌, ℕ, List, Bool, true, false, Option, None, Some, Result, Ok, Err, IfOk, IfErr, IsErrOf, if◌then◌else◌, refl, ◌∙◌, inl, inr}
use Rattle.std.proofs.lemmas.Str.{IsUtf8-from_is_utf8, is_utf8-from_IsUtf8}
use Rattle.std.specs.Str.{is_utf8}
use Rattle.serde_json.specs.Data as json
use Rattle.serde_json.specs.Read.{read}
use Rattle.serde_json.specs.Written.{has_float}
use Rattle.cat_tree.specs.Data.{Data}
use Rattle.cat_tree.specs.Read.{IsReading, ReadsAs}
use Rattle.cat_tree.specs.View.{data_of}
use Rattle.cat_tree.specs.declared.read.TreeFault.{TreeFault}
use Rattle.cat_tree.specs.declared.read.TreeFault.TheVariants.{Syntax, Fraction, NoMemory}
use Rattle.cat_tree.specs.declared.tree.Tree.{Tree}
use Rattle.cat_inputs.specs.Reading.{whole_tree, tree_reading}

reading_is : (bytes : List ℕ) (d : json.Data) → IsReading bytes d → tree_reading bytes ≡ whole_tree (Some d)
unfolding tree_reading
reading_is bytes d h = rw (is_utf8-from_IsUtf8 bytes h.0, h.1) refl

pub reading_ok : (bytes : List ℕ) (t : Data) → ReadsAs bytes t → tree_reading bytes ≡ Ok t
reading_ok bytes t h = reading_is bytes h.0 h.1 ∙ rw (h.2, h.3) refl

fraction_is : (bytes : List ℕ) → (d : json.Data) × IsReading bytes d × (has_float d ≡ true) → tree_reading bytes ≡ Err Fraction
fraction_is bytes h = reading_is bytes h.0 h.1 ∙ rw h.2 refl

syntax_by : (bytes : List ℕ) (b : Bool) (o : Option json.Data) → is_utf8 bytes ≡ b → read bytes ≡ o → ((d : json.Data) → ¬ IsReading bytes d) → (if b then whole_tree o else Err Syntax) ≡ Err Syntax
syntax_by bytes false o u r h = refl
syntax_by bytes true None u r h = refl
syntax_by bytes true (Some d) u r h = absurd (h d (IsUtf8-from_is_utf8 bytes u, r))

syntax_is : (bytes : List ℕ) → ((d : json.Data) → ¬ IsReading bytes d) → tree_reading bytes ≡ Err Syntax
unfolding tree_reading
syntax_is bytes h = syntax_by bytes (is_utf8 bytes) (read bytes) refl refl h

pub read_ok : (bytes : List ℕ) (r : Result Tree TreeFault) → IfOk r (λ t. ReadsAs bytes (data_of t)) → IfOk r (λ t. tree_reading bytes ≡ Ok (data_of t))
read_ok bytes (Ok t) h = reading_ok bytes (data_of t) h
read_ok bytes (Err e) h = h

pub read_err : (bytes : List ℕ) (r : Result Tree TreeFault) → (IsErrOf r Syntax → (d : json.Data) → ¬ IsReading bytes d) → (IsErrOf r Fraction → (d : json.Data) × IsReading bytes d × (has_float d ≡ true)) → IfErr r (λ e. (tree_reading bytes ≡ Err e) ⊎ (e ≡ NoMemory))
read_err bytes (Ok t) s f = tt
read_err bytes (Err Syntax) s f = inl (syntax_is bytes (s refl))
read_err bytes (Err Fraction) s f = inl (fraction_is bytes (f refl))
read_err bytes (Err NoMemory) s f = inr refl
