-- What the reader of block YAML promises, by the definition that computes.
use Rattle.std.proofs.Common.{◌≡◌, ◌⊎◌, ℕ, List, Bool, true, false, Result, Ok, Err, if◌then◌else◌, refl, ap, ◌∙◌, inl, inr}
use Rattle.cat_tree.specs.Data.{Data, list, items_of}
use Rattle.cat_tree.specs.Proper.{ItemsNarrow}
use Rattle.cat_tree.specs.declared.read.TreeFault.{TreeFault}
use Rattle.cat_tree.specs.declared.read.TreeFault.TheVariants.{Syntax, Fraction, NoMemory}
use Rattle.cat_yaml.specs.Narrow.{are_narrow}
use Rattle.cat_yaml.specs.Reading.{IsReading, reading}
use Rattle.cat_yaml.specs.declared.fault.Refusal.{Refusal}
use Rattle.cat_yaml.proofs.Narrowness.{items_narrow, items_wide}
use Rattle.cat_inputs.specs.Reading.{documents_tree}

narrow_is : (ds : List Data) (b : Bool) → are_narrow (items_of ds) ≡ b → ItemsNarrow (items_of ds) → are_narrow (items_of ds) ≡ true
narrow_is ds true e h = e
narrow_is ds false e h = absurd (items_wide (items_of ds) e h)

wide_is : (ds : List Data) (b : Bool) → are_narrow (items_of ds) ≡ b → ¬ (ItemsNarrow (items_of ds)) → are_narrow (items_of ds) ≡ false
wide_is ds true e h = absurd (h (items_narrow (items_of ds) e))
wide_is ds false e h = e

-- a reading with narrow numbers is the list of its documents
pub documents_ok : (bytes : List ℕ) (ds : List Data) → IsReading bytes ds → ItemsNarrow (items_of ds) → documents_tree (reading bytes) ≡ Ok (list (items_of ds))
documents_ok bytes ds h n =
    ap documents_tree h ∙ ap (λ b. if b then Ok (list (items_of ds)) else Err Fraction) (narrow_is ds (are_narrow (items_of ds)) refl n)

fraction_is : (bytes : List ℕ) → (ds : List Data) × IsReading bytes ds × ¬ (ItemsNarrow (items_of ds)) → documents_tree (reading bytes) ≡ Err Fraction
fraction_is bytes h =
    ap documents_tree h.1 ∙ ap (λ b. if b then Ok (list (items_of h.0)) else Err Fraction) (wide_is h.0 (are_narrow (items_of h.0)) refl h.2)

syntax_by : (bytes : List ℕ) (r : Result (List Data) Refusal) → reading bytes ≡ r → ((ds : List Data) → ¬ IsReading bytes ds) → documents_tree r ≡ Err Syntax
syntax_by bytes (Ok ds) e h = absurd (h ds e)
syntax_by bytes (Err refusal) e h = refl

-- each refusal is the definition's
pub documents_err : (bytes : List ℕ) (e : TreeFault) → (e ≡ Syntax → (ds : List Data) → ¬ IsReading bytes ds) → (e ≡ Fraction → (ds : List Data) × IsReading bytes ds × ¬ (ItemsNarrow (items_of ds))) → (documents_tree (reading bytes) ≡ Err e) ⊎ (e ≡ NoMemory)
documents_err bytes Syntax s f = inl (syntax_by bytes (reading bytes) refl (s refl))
documents_err bytes Fraction s f = inl (fraction_is bytes (f refl))
documents_err bytes NoMemory s f = inr refl
