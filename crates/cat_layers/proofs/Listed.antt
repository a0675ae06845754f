-- What a shelf text lists has the form of a descriptor.
use Rattle.std.proofs.Common.{◌≡◌, ℕ, suc, ◌≤◌, Bool, true, false, List, [], ◌∷◌, Option, None, Some, Result, Ok, Err, IfOk, if◌then◌else◌, nat_lt, refl, arith}
use Rattle.std.proofs.lemmas.Bool.Decides.{nat_tests}
use Rattle.std.specs.List.{AllByRecursion}
use Rattle.cat_tree.specs.Data.{Data, null, flag, whole, words, list, dict, Items, no_items, item, items_of}
use Rattle.cat_tree.specs.Proper.{ItemsNarrow, ItemsProper}
use Rattle.cat_tree.specs.declared.read.TreeFault.{TreeFault}
use Rattle.cat_tree.specs.declared.read.TreeFault.TheVariants.{Fraction}
use Rattle.cat_yaml.specs.Narrow.{are_narrow}
use Rattle.cat_yaml.specs.Reading.{reading}
use Rattle.cat_yaml.specs.declared.fault.Refusal.{Refusal}
use Rattle.cat_yaml.proofs.Narrowness.{items_narrow}
use Rattle.cat_yaml.proofs.Proper.{documents_proper}
use Rattle.cat_types.specs.Reference.{described, is_map}
use Rattle.cat_types.specs.declared.fault.RefFault.{RefFault}
use Rattle.cat_collections.specs.Table.{Text}
use Rattle.cat_inputs.specs.Body.{and_then, onto, each_from}
use Rattle.cat_inputs.specs.Inputs.{is_deep, first_deep}
use Rattle.cat_inputs.specs.Reading.{is_json, tree_reading, documents_tree, text_tree}
use Rattle.cat_inputs.specs.Shelf.{objects_from, descriptors, listed_as, listed_at, unless_deep, shallow, shelf_read, shelf_reading}
use Rattle.cat_inputs.specs.declared.fault.ShelfFault.{ShelfFault}
use Rattle.cat_inputs.specs.declared.fault.ShelfFault.TheVariants.{Shape}
use Rattle.cat_inputs.specs.declared.shelf.Listed.{Listed}
use Rattle.cat_layers.specs.Trees.{IsWithin}
use Rattle.cat_layers.proofs.Read.{IsSoundTree, tree_reading_is}

-- a descriptor under the reference that it names, at most 100 levels deep
pub record IsListed (x : Listed) : Type 0 where
  pub named : described x.tree ≡ Ok x.reference
  pub within : IsWithin 100 x.tree

-- ---- the tree of a text

-- the numbers of the documents are narrow, since the definition asks it, and their keys rise
documents_are : (bytes : List ℕ) (r : Result (List Data) Refusal) → reading bytes ≡ r → IfOk (documents_tree r) IsSoundTree
documents_are bytes (Ok ds) e = pick (are_narrow (items_of ds)) refl
  where
    pick : (b : Bool) → are_narrow (items_of ds) ≡ b → IfOk (if b then Ok (list (items_of ds)) else Err Fraction) IsSoundTree
    pick true n = record { narrow = items_narrow (items_of ds) n; proper = documents_proper bytes ds e }
    pick false n = tt
documents_are bytes (Err refusal) e = tt

text_tree_is : (bytes : List ℕ) → IfOk (text_tree bytes) IsSoundTree
text_tree_is bytes = pick (is_json bytes)
  where
    pick : (b : Bool) → IfOk (if b then tree_reading bytes else documents_tree (reading bytes)) IsSoundTree
    pick true = tree_reading_is bytes
    pick false = documents_are bytes (reading bytes) refl

-- ---- steps that may refuse

pub bound : {A B E : Type 0} (P : A → Type 0) (Q : B → Type 0) (r : Result A E) (next : A → Result B E) → IfOk r P → ((a : A) → P a → IfOk (next a) Q) → IfOk (and_then r next) Q
bound P Q (Ok a) next h k = k a h
bound P Q (Err e) next h k = tt

pub fronted : {A E : Type 0} (P : A → Type 0) (r : Result A E) (more : Result (List A) E) → IfOk r P → IfOk more (AllByRecursion P) → IfOk (onto r more) (AllByRecursion P)
fronted P (Ok x) (Ok xs) h k = (h, k)
fronted P (Ok x) (Err e) h k = tt
fronted P (Err e) more h k = tt

pub not_deep : (n : ℕ) → nat_lt 100 n ≡ false → n ≤ 100
not_deep n h = grind (arith, nat_tests)

-- ---- the descriptors

objects_are : (ds : Items) → ItemsNarrow ds → ItemsProper ds → IfOk (objects_from ds) (AllByRecursion IsSoundTree)
objects_are no_items n p = tt
objects_are (item d ds) n p = fronted IsSoundTree (if is_map d then Ok d else Err Shape) (objects_from ds) (pick (is_map d)) (objects_are ds n.1 p.1)
  where
    pick : (b : Bool) → IfOk {E = ShelfFault} (if b then Ok d else Err Shape) IsSoundTree
    pick true = record { narrow = n.0; proper = p.0 }
    pick false = tt

descriptors_are : (d : Data) → IsSoundTree d → IfOk (descriptors d) (AllByRecursion IsSoundTree)
descriptors_are null h = tt
descriptors_are (flag b) h = tt
descriptors_are (whole z) h = tt
descriptors_are (words s) h = tt
descriptors_are (list ds) h = objects_are ds h.narrow h.proper
descriptors_are (dict ms) h = (h, tt)

listed_is : (i : ℕ) (d : Data) (r : Result Text RefFault) → described d ≡ r → IsWithin 100 d → IfOk (listed_as i d r) IsListed
listed_is i d (Ok r) e h = record { named = e; within = h }
listed_is i d (Err fault) e h = tt

shallow_are : (i : ℕ) (ds : List Data) → AllByRecursion IsSoundTree ds → first_deep i ds ≡ None → AllByRecursion (IsWithin 100) ds
shallow_are i [] h e = tt
shallow_are i (d ∷ ds) h e = pick (is_deep d) refl e (shallow_are (suc i) ds h.1)
  where
    pick : (b : Bool) → is_deep d ≡ b → (if b then Some i else first_deep (suc i) ds) ≡ None → (first_deep (suc i) ds ≡ None → AllByRecursion (IsWithin 100) ds) → AllByRecursion (IsWithin 100) (d ∷ ds)
    pick true is e rest = cc
    pick false is e rest = (record { shallow = not_deep _ is; narrow = h.0.narrow; proper = h.0.proper }, rest e)

each_listed : (i : ℕ) (ds : List Data) → AllByRecursion (IsWithin 100) ds → IfOk (each_from listed_at i ds) (AllByRecursion IsListed)
each_listed i [] h = tt
each_listed i (d ∷ ds) h = fronted IsListed (listed_at i d) (each_from listed_at (suc i) ds) (listed_is i d (described d) refl h.0) (each_listed (suc i) ds h.1)

unless_deep_are : (o : Option ℕ) (next : Result (List Listed) ShelfFault) → (o ≡ None → IfOk next (AllByRecursion IsListed)) → IfOk (unless_deep o next) (AllByRecursion IsListed)
unless_deep_are None next h = h refl
unless_deep_are (Some i) next h = tt

shallow_listed : (ds : List Data) → AllByRecursion IsSoundTree ds → IfOk (shallow ds) (AllByRecursion IsListed)
shallow_listed ds h = unless_deep_are (first_deep 0 ds) (each_from listed_at 0 ds) (λ e. each_listed 0 ds (shallow_are 0 ds h e))

shelf_read_are : (r : Result Data TreeFault) → IfOk r IsSoundTree → IfOk (shelf_read r) (AllByRecursion IsListed)
shelf_read_are (Ok d) h = bound (AllByRecursion IsSoundTree) (AllByRecursion IsListed) (descriptors d) shallow (descriptors_are d h) shallow_listed
shelf_read_are (Err fault) h = tt

pub shelf_listed : (bytes : List ℕ) → IfOk (shelf_reading bytes) (AllByRecursion IsListed)
unfolding shelf_reading
shelf_listed bytes = shelf_read_are (text_tree bytes) (text_tree_is bytes)
