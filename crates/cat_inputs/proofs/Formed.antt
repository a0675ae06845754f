-- What is read from a body has all that the catalogue asks of a mutation.
use Rattle.std.proofs.Common.{◌≡◌, ℕ, suc, ◌^◌, ◌<◌, ◌≤◌, Bool, true, false, not, ◌&&◌, ◌||◌, pos, negsuc, List, [], ◌∷◌, ◌++◌, map, Option, None, Some, Result, Ok, Err, IfOk, IfSome, if◌then◌else◌, nat_lt, nat_le, length, bytes_eq, codes, refl, ap, sym, subst, arith}
use Rattle.std.proofs.lemmas.Bool.Decides.{nat_tests}
use Rattle.std.specs.List.{list_any, AllByRecursion}
use Rattle.std.specs.Option.{ok_or}
use Rattle.cat_tree.specs.Ask.{child_of, member_at}
use Rattle.cat_tree.specs.Data.{Data, null, flag, whole, words, list, dict, Items, no_items, item, Members, no_members, member}
use Rattle.cat_tree.specs.Proper.{IsNarrow, ItemsNarrow, MembersNarrow}
use Rattle.cat_types.specs.Reference.{described, text_in}
use Rattle.cat_types.specs.declared.fault.RefFault.{RefFault}
use Rattle.cat_collections.specs.Table.{Text}
use Rattle.cat_types.specs.declared.input.Item.{Item}
use Rattle.cat_types.specs.declared.input.Mutation.{Mutation}
use Rattle.cat_inputs.specs.declared.fault.InputFault.{InputFault}
use Rattle.cat_inputs.specs.declared.fault.InputFault.TheVariants.{TooMany, Deep, Shape}
use Rattle.cat_inputs.specs.declared.fault.Place.{Place}
use Rattle.cat_inputs.specs.declared.fault.Place.TheVariants.{Serial, Entities, Added, Removed}
use Rattle.cat_inputs.specs.declared.form.Form.{Form}
use Rattle.cat_inputs.specs.declared.form.Form.TheVariants.{Full, Delta}
use Rattle.cat_inputs.specs.Body.{Entry, Body, and_then, onto, each_from, is_serial, serial_in, is_key, key_in, key_at, entry_with, entry_in, entries_from, entries_in, entries_of, texts_of, serial_of, field, body_with, body_in}
use Rattle.cat_inputs.specs.Faults.{place_text}
use Rattle.cat_inputs.specs.Inputs.{is_deep, first_deep, item_named, item_at, ref_at, repeated, unless, all_refs, mutation_with, named, checked, mutation_from}
use Rattle.cat_inputs.proofs.Seen.{bytes_eq-sym}
use Rattle.cat_inputs.specs.WellFormed.{are_distinct, IsItem, IsWellFormed}

-- ---- a value that is there has a property

-- the first step has P, and the next gives Q
bound : {A B E : Type 0} (P : A → Type 0) (Q : B → Type 0) (r : Result A E) (next : A → Result B E) → IfOk r P → ((a : A) → P a → IfOk (next a) Q) → IfOk (and_then r next) Q
bound P Q (Ok a) next h k = k a h
bound P Q (Err e) next h k = tt

fronted : {A E : Type 0} (P : A → Type 0) (r : Result A E) (more : Result (List A) E) → IfOk r P → IfOk more (AllByRecursion P) → IfOk (onto r more) (AllByRecursion P)
fronted P (Ok x) (Ok xs) h k = (h, k)
fronted P (Ok x) (Err e) h k = tt
fronted P (Err e) more h k = tt

from_option : {A E : Type 0} (P : A → Type 0) (o : Option A) (e : E) → IfSome o P → IfOk (ok_or o e) P
from_option P None e h = tt
from_option P (Some x) e h = h

-- ---- the fields

pub record IsEntry (e : Entry) : Type 0 where
  pub narrow : IsNarrow e.entity
  pub key : IfSome e.key (λ k. (1 ≤ length k) × (length k ≤ 2048))

member_narrow : (k : List ℕ) (ms : Members) → MembersNarrow ms → IfSome (member_at k ms) IsNarrow
member_narrow k no_members h = tt
member_narrow k (member l d ms) h = pick (bytes_eq k l) (member_narrow k ms h.1)
  where
    pick : (b : Bool) → IfSome (member_at k ms) IsNarrow → IfSome (if b then Some d else member_at k ms) IsNarrow
    pick true rest = h.0
    pick false rest = rest

child_narrow : (k : List ℕ) (d : Data) → IsNarrow d → IfSome (child_of k d) IsNarrow
child_narrow k null h = tt
child_narrow k (flag b) h = tt
child_narrow k (whole z) h = tt
child_narrow k (words s) h = tt
child_narrow k (list ds) h = tt
child_narrow k (dict ms) h = member_narrow k ms h

abbrev IsKey : Option Text → Type 0
IsKey key = IfSome key (λ k. (1 ≤ length k) × (length k ≤ 2048))

key_fits : (k : List ℕ) → is_key k ≡ true → (1 ≤ length k) × (length k ≤ 2048)
key_fits k h = fits (length k) h
  where
    fits : (n : ℕ) → (nat_lt 0 n && nat_le n 2048) ≡ true → (1 ≤ n) × (n ≤ 2048)
    fits n h = (grind (arith, nat_tests), grind (arith, nat_tests))

key_in-fits : (t : Option (List ℕ)) → IfSome (key_in t) IsKey
key_in-fits None = tt
key_in-fits (Some k) = pick (is_key k) refl
  where
    pick : (b : Bool) → is_key k ≡ b → IfSome (if b then Some (Some k) else None) IsKey
    pick true e = key_fits k e
    pick false e = tt

key_at-fits : (o : Option Data) → IfSome (key_at o) IsKey
key_at-fits None = tt
key_at-fits (Some d) = key_in-fits (text_in d)

entry_with-is : (o : Option Data) (key : Option (Option (List ℕ))) → IfSome o IsNarrow → IfSome key IsKey → IfSome (entry_with o key) IsEntry
entry_with-is None key h k = tt
entry_with-is (Some d) None h k = tt
entry_with-is (Some d) (Some key) h k = record { narrow = h; key = k }

entry_in-is : (d : Data) → IsNarrow d → IfSome (entry_in d) IsEntry
entry_in-is d h =
    entry_with-is (child_of (codes "entity") d) (key_at (child_of (codes "locationKey") d)) (child_narrow (codes "entity") d h) (key_at-fits (child_of (codes "locationKey") d))

entries_from-are : (place : Place) (ds : Items) → ItemsNarrow ds → IfOk (entries_from place ds) (AllByRecursion IsEntry)
entries_from-are place no_items h = tt
entries_from-are place (item d ds) h =
    fronted IsEntry (ok_or (entry_in d) _) (entries_from place ds) (from_option IsEntry (entry_in d) _ (entry_in-is d h.0)) (entries_from-are place ds h.1)

entries_in-are : (place : Place) (o : Option Data) → IfSome o IsNarrow → IfOk (entries_in place o) (AllByRecursion IsEntry)
entries_in-are place None h = tt
entries_in-are place (Some null) h = tt
entries_in-are place (Some (flag b)) h = tt
entries_in-are place (Some (whole z)) h = tt
entries_in-are place (Some (words s)) h = tt
entries_in-are place (Some (list ds)) h = entries_from-are place ds h
entries_in-are place (Some (dict ms)) h = tt

abbrev IsSerial : ℕ → Type 0
IsSerial n = (1 ≤ n) × (n < 2 ^ 53)

serial_fits : (n : ℕ) → (nat_lt 0 n && nat_lt n (2 ^ 53)) ≡ true → IsSerial n
serial_fits n h = (grind (arith, nat_tests), grind (arith, nat_tests))

serial_in-fits : (o : Option Data) → IfSome (serial_in o) IsSerial
serial_in-fits None = tt
serial_in-fits (Some null) = tt
serial_in-fits (Some (flag b)) = tt
serial_in-fits (Some (whole (pos n))) = pick (is_serial n) refl
  where
    pick : (b : Bool) → is_serial n ≡ b → IfSome (if b then Some n else None) IsSerial
    pick true e = serial_fits n e
    pick false e = tt
serial_in-fits (Some (whole (negsuc n))) = tt
serial_in-fits (Some (words s)) = tt
serial_in-fits (Some (list ds)) = tt
serial_in-fits (Some (dict ms)) = tt

pub record IsBody (b : Body) : Type 0 where
  pub serial : (1 ≤ b.serial) × (b.serial < 2 ^ 53)
  pub entries : AllByRecursion IsEntry b.entries

any_result : {A E : Type 0} (r : Result A E) → IfOk r (λ _. Unit {0})
any_result (Ok x) = tt
any_result (Err e) = tt

serial_of-fits : (d : Data) → IfOk (serial_of d) IsSerial
serial_of-fits d = from_option IsSerial (serial_in (field Serial d)) (Shape Serial) (serial_in-fits (field Serial d))

entries_of-are : (place : Place) (d : Data) → IsNarrow d → IfOk (entries_of place d) (AllByRecursion IsEntry)
entries_of-are place d h = entries_in-are place (field place d) (child_narrow (place_text place) d h)

body_in-is : (form : Form) (d : Data) → IsNarrow d → IfOk (body_in form d) IsBody
body_in-is Full d h =
    bound IsSerial IsBody (serial_of d) (λ n. and_then (entries_of Entities d) (λ es. Ok (body_with n es []))) (serial_of-fits d) (λ n s. bound (AllByRecursion IsEntry) IsBody (entries_of Entities d) (λ es. Ok (body_with n es [])) (entries_of-are Entities d h) (λ es k. record { serial = s; entries = k }))
body_in-is Delta d h =
    bound IsSerial IsBody (serial_of d) (λ n. and_then (entries_of Added d) (λ es. and_then (texts_of Removed d) (λ ts. Ok (body_with n es ts)))) (serial_of-fits d) (λ n s. bound (AllByRecursion IsEntry) IsBody (entries_of Added d) (λ es. and_then (texts_of Removed d) (λ ts. Ok (body_with n es ts))) (entries_of-are Added d h) (λ es k. bound (λ _. Unit {0}) IsBody (texts_of Removed d) (λ ts. Ok (body_with n es ts)) (any_result (texts_of Removed d)) (λ ts u. record { serial = s; entries = k })))

-- ---- what the refusals leave

unless-none : {A : Type 0} (Q : A → Type 0) (o : Option ℕ) (fault : ℕ → InputFault) (next : Result A InputFault) → (o ≡ None → IfOk next Q) → IfOk (unless o fault next) Q
unless-none Q None fault next h = h refl
unless-none Q (Some i) fault next h = tt

shallow_entries : (i : ℕ) (es : List Entry) → first_deep i (map (λ e. e.entity) es) ≡ None → AllByRecursion (λ e. is_deep e.entity ≡ false) es
shallow_entries i [] h = tt
shallow_entries i (e ∷ es) h = pick (is_deep e.entity) refl h (shallow_entries (suc i) es)
  where
    pick : (b : Bool) → is_deep e.entity ≡ b → (if b then Some i else first_deep (suc i) (map (λ e. e.entity) es)) ≡ None → (first_deep (suc i) (map (λ e. e.entity) es) ≡ None → AllByRecursion (λ e. is_deep e.entity ≡ false) es) → AllByRecursion (λ e. is_deep e.entity ≡ false) (e ∷ es)
    pick true d h rest = cc
    pick false d h rest = (d, rest h)

not_deep : (n : ℕ) → nat_lt 100 n ≡ false → n ≤ 100
not_deep n h = grind (arith, nat_tests)

item_named-is : (i : ℕ) (e : Entry) (r : Result Text RefFault) → described e.entity ≡ r → IsEntry e → is_deep e.entity ≡ false → IfOk (item_named i e r) IsItem
item_named-is i e (Ok r) named h d = record { reference = named; shallow = not_deep _ d; narrow = h.narrow; key = h.key }
item_named-is i e (Err fault) named h d = tt

items_are : (i : ℕ) (es : List Entry) → AllByRecursion IsEntry es → AllByRecursion (λ e. is_deep e.entity ≡ false) es → IfOk (each_from item_at i es) (AllByRecursion IsItem)
items_are i [] h d = tt
items_are i (e ∷ es) h d =
    fronted IsItem (item_at i e) (each_from item_at (suc i) es) (item_named-is i e (described e.entity) refl h.0 d.0) (items_are (suc i) es h.1 d.1)

length-onto : {A E : Type 0} (n : ℕ) (r : Result A E) (more : Result (List A) E) → IfOk more (λ xs. length xs ≡ n) → IfOk (onto r more) (λ xs. length xs ≡ suc n)
length-onto n (Ok x) (Ok xs) h = ap suc h
length-onto n (Ok x) (Err e) h = tt
length-onto n (Err e) more h = tt

length-each_from : {A B E : Type 0} (f : ℕ → A → Result B E) (i : ℕ) (xs : List A) → IfOk (each_from f i xs) (λ ys. length ys ≡ length xs)
length-each_from f i [] = refl
length-each_from f i (x ∷ xs) = length-onto (length xs) (f i x) (each_from f (suc i) xs) (length-each_from f (suc i) xs)

two : {A E : Type 0} (P Q : A → Type 0) (r : Result A E) → IfOk r P → IfOk r Q → IfOk r (λ x. P x × Q x)
two P Q (Ok x) p q = (p, q)
two P Q (Err e) p q = tt

-- none of these stands among those
abbrev AreApart : List Text → List Text → Type 0
AreApart seen ts = AllByRecursion (λ t. list_any (bytes_eq t) seen ≡ false) ts

or_false : (a b : Bool) → (a || b) ≡ false → (a ≡ false) × (b ≡ false)
or_false true b h = cc
or_false false b h = (refl, h)

apart_first : (t : Text) (seen ts : List Text) → AreApart (t ∷ seen) ts → list_any (bytes_eq t) ts ≡ false
apart_first t seen [] h = refl
apart_first t seen (u ∷ ts) h =
    rw (bytes_eq-sym t u, (or_false (bytes_eq u t) (list_any (bytes_eq u) seen) h.0).0) (apart_first t seen ts h.1)

apart_rest : (t : Text) (seen ts : List Text) → AreApart (t ∷ seen) ts → AreApart seen ts
apart_rest t seen [] h = tt
apart_rest t seen (u ∷ ts) h = ((or_false (bytes_eq u t) (list_any (bytes_eq u) seen) h.0).1, apart_rest t seen ts h.1)

distinct_apart : (seen : List Text) (i : ℕ) (ts : List Text) → repeated seen i ts ≡ None → (are_distinct ts ≡ true) × AreApart seen ts
distinct_apart seen i [] h = (refl, tt)
distinct_apart seen i (t ∷ ts) h = pick (list_any (bytes_eq t) seen) refl h (distinct_apart (t ∷ seen) (suc i) ts)
  where
    pick : (b : Bool) → list_any (bytes_eq t) seen ≡ b → (if b then Some i else repeated (t ∷ seen) (suc i) ts) ≡ None → (repeated (t ∷ seen) (suc i) ts ≡ None → (are_distinct ts ≡ true) × AreApart (t ∷ seen) ts) → (are_distinct (t ∷ ts) ≡ true) × AreApart seen (t ∷ ts)
    pick true e h rest = cc
    pick false e h rest =
        let more = rest h in
        (rw (apart_first t seen ts more.1, more.0) refl, (e, apart_rest t seen ts more.1))

any_front : (p : Text → Bool) (xs ys : List Text) → list_any p (xs ++ ys) ≡ false → list_any p (xs ++ []) ≡ false
any_front p [] ys h = refl
any_front p (x ∷ xs) ys h =
    let parts = or_false (p x) (list_any p (xs ++ ys)) h in
    rw parts.0 (any_front p xs ys parts.1)

both_true : (a b : Bool) → (not a && b) ≡ true → (a ≡ false) × (b ≡ true)
both_true true b h = cc
both_true false b h = (refl, h)

distinct_front : (xs ys : List Text) → are_distinct (xs ++ ys) ≡ true → are_distinct (xs ++ []) ≡ true
distinct_front [] ys h = refl
distinct_front (x ∷ xs) ys h =
    let parts = both_true (list_any (bytes_eq x) (xs ++ ys)) (are_distinct (xs ++ ys)) h in
    rw (any_front (bytes_eq x) xs ys parts.0) (distinct_front xs ys parts.1)

mutation_with-is : (form : Form) (n : ℕ) (items : List Item) (refs : List Text) → IsSerial n → length items ≤ 100000 → AllByRecursion IsItem items → are_distinct (all_refs items refs) ≡ true → IsWellFormed (mutation_with form n items refs)
mutation_with-is Full n items refs s few are apart = record { serial = s; few = few; items = are; distinct = distinct_front (map (λ (x : Item). x.reference) items) refs apart }
mutation_with-is Delta n items refs s few are apart = record { serial = s; few = few; items = are; distinct = apart }

named-is : (form : Form) (b : Body) → IsBody b → length b.entries ≤ 100000 → AllByRecursion (λ e. is_deep e.entity ≡ false) b.entries → IfOk (named form b) IsWellFormed
named-is form b h few shallow =
    bound (λ items. AllByRecursion IsItem items × (length items ≡ length b.entries)) IsWellFormed (each_from item_at 0 b.entries) _ (two (AllByRecursion IsItem) (λ items. length items ≡ length b.entries) _ (items_are 0 b.entries h.entries shallow) (length-each_from item_at 0 b.entries)) (λ items k. bound (λ _. Unit {0}) IsWellFormed (each_from ref_at (length b.entries) b.removed) _ (any_result _) (λ refs u. unless-none IsWellFormed (repeated [] 0 (all_refs items refs)) _ _ (λ e. mutation_with-is form b.serial items refs h.serial (subst (λ n. n ≤ 100000) (sym k.1) few) k.0 (distinct_apart [] 0 (all_refs items refs) e).0)))

checked-is : (form : Form) (b : Body) → IsBody b → IfOk (checked form b) IsWellFormed
checked-is form b h = pick (nat_lt 100000 (length b.entries)) refl
  where
    few : (n : ℕ) → nat_lt 100000 n ≡ false → n ≤ 100000
    few n h = grind (arith, nat_tests)

    pick : (t : Bool) → nat_lt 100000 (length b.entries) ≡ t → IfOk (if t then Err TooMany else unless (first_deep 0 (map (λ e. e.entity) b.entries)) Deep (named form b)) IsWellFormed
    pick true e = tt
    pick false e =
        unless-none IsWellFormed (first_deep 0 (map (λ e. e.entity) b.entries)) Deep (named form b) (λ d. named-is form b h (few (length b.entries) e) (shallow_entries 0 b.entries d))

-- what a narrow tree gives is well-formed
formed : (form : Form) (d : Data) → IsNarrow d → IfOk (mutation_from form d) IsWellFormed
formed form d h = bound IsBody IsWellFormed (body_in form d) (checked form) (body_in-is form d h) (λ b k. checked-is form b k)

-- so is the mutation of a call that gives what the tree gives
pub formed_result : (form : Form) (d : Data) (r : Result Mutation InputFault) → IsNarrow d → IfOk r (λ m. mutation_from form d ≡ Ok m) → IfOk r IsWellFormed
formed_result form d (Ok m) h e = subst (λ r. IfOk r IsWellFormed) e (formed form d h)
formed_result form d (Err e) h k = tt
