-- The mutation that a body gives is well-formed, and the keys of the maps in its trees rise.
use Rattle.std.proofs.Common.{◌≡◌, ℕ, suc, Bool, true, false, List, [], ◌∷◌, Option, None, Some, Result, Ok, Err, IfOk, IfSome, if◌then◌else◌, nat_lt, length, map, bytes_eq, codes, refl}
use Rattle.std.specs.List.{AllByRecursion}
use Rattle.std.specs.Option.{ok_or}
use Rattle.cat_tree.specs.Ask.{child_of, member_at}
use Rattle.cat_tree.specs.Data.{Data, null, flag, whole, words, list, dict, Items, no_items, item, Members, no_members, member}
use Rattle.cat_tree.specs.Proper.{IsProper, ItemsProper, MembersProper}
use Rattle.cat_tree.specs.declared.read.TreeFault.{TreeFault}
use Rattle.cat_types.specs.Reference.{described}
use Rattle.cat_types.specs.declared.fault.RefFault.{RefFault}
use Rattle.cat_collections.specs.Table.{Text}
use Rattle.cat_types.specs.declared.input.Item.{Item}
use Rattle.cat_types.specs.declared.input.Mutation.{Mutation}
use Rattle.cat_inputs.specs.Body.{Entry, Body, and_then, each_from, key_at, entry_with, entry_in, entries_from, entries_in, entries_of, texts_of, serial_of, field, body_with, body_in}
use Rattle.cat_inputs.specs.Faults.{place_text}
use Rattle.cat_inputs.specs.Inputs.{first_deep, item_named, item_at, ref_at, repeated, unless, all_refs, mutation_with, named, checked, mutation_from, mutation_read, mutation_of}
use Rattle.cat_inputs.specs.Reading.{tree_reading}
use Rattle.cat_inputs.specs.WellFormed.{IsWellFormed}
use Rattle.cat_inputs.specs.declared.fault.InputFault.{InputFault}
use Rattle.cat_inputs.specs.declared.fault.InputFault.TheVariants.{TooMany, Deep, Duplicate}
use Rattle.cat_inputs.specs.declared.fault.Place.{Place}
use Rattle.cat_inputs.specs.declared.fault.Place.TheVariants.{Entities, Added, Removed}
use Rattle.cat_inputs.specs.declared.form.Form.{Form}
use Rattle.cat_inputs.specs.declared.form.Form.TheVariants.{Full, Delta}
use Rattle.cat_inputs.proofs.Formed.{formed_result}
use Rattle.cat_layers.proofs.Listed.{bound, fronted}
use Rattle.cat_layers.proofs.Read.{IsSoundTree, tree_reading_is}
use Rattle.cat_form_laws.specs.Ready.{HasProperTree, HasProperTrees}

-- ---- the entries of a body

abbrev HasProperEntity : Entry → Type 0
HasProperEntity e = IsProper e.entity

member_proper : (k : List ℕ) (ms : Members) → MembersProper ms → IfSome (member_at k ms) IsProper
member_proper k no_members h = tt
member_proper k (member l d ms) h = pick (bytes_eq k l) (member_proper k ms h.1)
  where
    pick : (b : Bool) → IfSome (member_at k ms) IsProper → IfSome (if b then Some d else member_at k ms) IsProper
    pick true rest = h.0
    pick false rest = rest

child_proper : (k : List ℕ) (d : Data) → IsProper d → IfSome (child_of k d) IsProper
child_proper k null h = tt
child_proper k (flag b) h = tt
child_proper k (whole z) h = tt
child_proper k (words s) h = tt
child_proper k (list ds) h = tt
child_proper k (dict ms) h = member_proper k ms h.0

entry_proper : (o : Option Data) (key : Option (Option (List ℕ))) → IfSome o IsProper → IfSome (entry_with o key) HasProperEntity
entry_proper None key h = tt
entry_proper (Some d) None h = tt
entry_proper (Some d) (Some key) h = h

from_option : {A E : Type 0} (P : A → Type 0) (o : Option A) (e : E) → IfSome o P → IfOk (ok_or o e) P
from_option P None e h = tt
from_option P (Some x) e h = h

entry_in_proper : (d : Data) → IsProper d → IfSome (entry_in d) HasProperEntity
entry_in_proper d h =
    entry_proper (child_of (codes "entity") d) (key_at (child_of (codes "locationKey") d)) (child_proper (codes "entity") d h)

entries_from_proper : (place : Place) (ds : Items) → ItemsProper ds → IfOk (entries_from place ds) (AllByRecursion HasProperEntity)
entries_from_proper place no_items h = tt
entries_from_proper place (item d ds) h =
    fronted HasProperEntity (ok_or (entry_in d) _) (entries_from place ds) (from_option HasProperEntity (entry_in d) _ (entry_in_proper d h.0)) (entries_from_proper place ds h.1)

entries_in_proper : (place : Place) (o : Option Data) → IfSome o IsProper → IfOk (entries_in place o) (AllByRecursion HasProperEntity)
entries_in_proper place None h = tt
entries_in_proper place (Some null) h = tt
entries_in_proper place (Some (flag b)) h = tt
entries_in_proper place (Some (whole z)) h = tt
entries_in_proper place (Some (words s)) h = tt
entries_in_proper place (Some (list ds)) h = entries_from_proper place ds h
entries_in_proper place (Some (dict ms)) h = tt

entries_proper : (place : Place) (d : Data) → IsProper d → IfOk (entries_of place d) (AllByRecursion HasProperEntity)
entries_proper place d h = entries_in_proper place (field place d) (child_proper (place_text place) d h)

-- ---- the body

abbrev HasProperEntries : Body → Type 0
HasProperEntries b = AllByRecursion HasProperEntity b.entries

abbrev Anything : {A : Type 0} → A → Type 0
Anything x = Unit {0}

any_result : {A E : Type 0} (r : Result A E) → IfOk r Anything
any_result (Ok x) = tt
any_result (Err e) = tt

body_proper : (form : Form) (d : Data) → IsProper d → IfOk (body_in form d) HasProperEntries
body_proper Full d h =
    bound Anything HasProperEntries (serial_of d) (λ n. and_then (entries_of Entities d) (λ es. Ok (body_with n es []))) (any_result (serial_of d)) (λ n u. bound (AllByRecursion HasProperEntity) HasProperEntries (entries_of Entities d) (λ es. Ok (body_with n es [])) (entries_proper Entities d h) (λ es k. k))
body_proper Delta d h =
    bound Anything HasProperEntries (serial_of d) (λ n. and_then (entries_of Added d) (λ es. and_then (texts_of Removed d) (λ ts. Ok (body_with n es ts)))) (any_result (serial_of d)) (λ n u. bound (AllByRecursion HasProperEntity) HasProperEntries (entries_of Added d) (λ es. and_then (texts_of Removed d) (λ ts. Ok (body_with n es ts))) (entries_proper Added d h) (λ es k. bound Anything HasProperEntries (texts_of Removed d) (λ ts. Ok (body_with n es ts)) (any_result (texts_of Removed d)) (λ ts v. k)))

-- ---- the items

item_named_proper : (i : ℕ) (e : Entry) (r : Result Text RefFault) → HasProperEntity e → IfOk (item_named i e r) HasProperTree
item_named_proper i e (Ok r) h = h
item_named_proper i e (Err fault) h = tt

items_proper : (i : ℕ) (es : List Entry) → AllByRecursion HasProperEntity es → IfOk (each_from item_at i es) (AllByRecursion HasProperTree)
items_proper i [] h = tt
items_proper i (e ∷ es) h =
    fronted HasProperTree (item_at i e) (each_from item_at (suc i) es) (item_named_proper i e (described e.entity) h.0) (items_proper (suc i) es h.1)

unless_kept : {A : Type 0} (Q : A → Type 0) (o : Option ℕ) (fault : ℕ → InputFault) (next : Result A InputFault) → IfOk next Q → IfOk (unless o fault next) Q
unless_kept Q None fault next h = h
unless_kept Q (Some i) fault next h = tt

mutation_proper : (form : Form) (n : ℕ) (items : List Item) (refs : List Text) → AllByRecursion HasProperTree items → HasProperTrees (mutation_with form n items refs)
mutation_proper Full n items refs h = h
mutation_proper Delta n items refs h = h

named_proper : (form : Form) (b : Body) → HasProperEntries b → IfOk (named form b) HasProperTrees
named_proper form b h =
    bound (AllByRecursion HasProperTree) HasProperTrees (each_from item_at 0 b.entries) _ (items_proper 0 b.entries h) (λ items k. bound Anything HasProperTrees (each_from ref_at (length b.entries) b.removed) _ (any_result _) (λ refs u. unless_kept HasProperTrees (repeated [] 0 (all_refs items refs)) Duplicate _ (mutation_proper form b.serial items refs k)))

checked_proper : (form : Form) (b : Body) → HasProperEntries b → IfOk (checked form b) HasProperTrees
checked_proper form b h = pick (nat_lt 100000 (length b.entries))
  where
    pick : (t : Bool) → IfOk (if t then Err TooMany else unless (first_deep 0 (map (λ e. e.entity) b.entries)) Deep (named form b)) HasProperTrees
    pick true = tt
    pick false = unless_kept HasProperTrees (first_deep 0 (map (λ e. e.entity) b.entries)) Deep (named form b) (named_proper form b h)

from_proper : (form : Form) (d : Data) → IsProper d → IfOk (mutation_from form d) HasProperTrees
from_proper form d h = bound HasProperEntries HasProperTrees (body_in form d) (checked form) (body_proper form d h) (λ b k. checked_proper form b k)

-- ---- the mutation

-- what is read is well-formed, and the keys of its maps rise
pub record IsReadMutation (m : Mutation) : Type 0 where
  pub formed : IsWellFormed m
  pub proper : HasProperTrees m

given_back : (r s : Result Mutation InputFault) → s ≡ r → IfOk r (λ m. s ≡ Ok m)
given_back (Ok m) s e = e
given_back (Err e) s h = tt

both : (r : Result Mutation InputFault) → IfOk r IsWellFormed → IfOk r HasProperTrees → IfOk r IsReadMutation
both (Ok m) h k = record { formed = h; proper = k }
both (Err e) h k = tt

read_is : (form : Form) (r : Result Data TreeFault) → IfOk r IsSoundTree → IfOk (mutation_read form r) IsReadMutation
read_is form (Ok d) h =
    both (mutation_from form d) (formed_result form d (mutation_from form d) h.narrow (given_back (mutation_from form d) (mutation_from form d) refl)) (from_proper form d h.proper)
read_is form (Err fault) h = tt

pub mutation_is_read : (form : Form) (bytes : List ℕ) → IfOk (mutation_of form bytes) IsReadMutation
unfolding mutation_of
mutation_is_read form bytes = read_is form (tree_reading bytes) (tree_reading_is bytes)
