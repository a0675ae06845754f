-- A well-formed mutation of a provider gives what may stand.
use Rattle.std.proofs.Common.{◌≡◌, ◌+◌, ◌≤◌, true, List, [], ◌∷◌, ◌++◌, Option, None, Some, IfSome, nat_le, length, codes, arith, length-append}
use Rattle.std.specs.List.{AllByRecursion}
use Rattle.std.proofs.lemmas.Bool.{and_parts, leb-true}
use Rattle.cat_types.specs.Names.{is_name}
use Rattle.cat_collections.specs.Table.{Text, get}
use Rattle.cat_types.specs.declared.input.Item.{Item}
use Rattle.cat_types.specs.declared.input.Mutation.{Mutation}
use Rattle.cat_types.specs.declared.input.Mutation.TheVariants.{Full, Delta}
use Rattle.cat_types.specs.declared.input.Offered.{Offered}
use Rattle.cat_inputs.specs.WellFormed.{IsItem, IsWellFormed}
use Rattle.cat_model.specs.Formed.{IsFormedGiven}
use Rattle.cat_model.specs.Given.{provider_key, key_or, offered_by, offers_of, given}
use Rattle.cat_layers.specs.Forms.{is_item}
use Rattle.cat_layers.proofs.Forms.{offer_holds}
use Rattle.cat_layers.proofs.Offers.{MayStand, found_stands}
use Rattle.cat_form_laws.specs.Ready.{HasProperTree, HasProperTrees}
use Rattle.cat_form_laws.specs.Real.{real_forms}

-- a key has 1 to 2,048 bytes
record IsKey (key : Text) : Type 0 where
  filled : 1 ≤ length key
  short : length key ≤ 2048

name_short : (p : Text) → is_name p ≡ true → length p ≤ 63
unfolding is_name
name_short p h =
    let short = and_parts _ _ h in
    let sizes = and_parts (nat_le 1 (length p)) (nat_le (length p) 63) short.0 in
    leb-true (length p) 63 sizes.1

provider_key_fits : (p : Text) → length p ≤ 63 → IsKey (provider_key p)
provider_key_fits p h =
    let long : length (codes "provider:" ++ p) ≡ 9 + length p = length-append (codes "provider:") p in
    record { filled = omega arith; short = omega arith }

key_fits : (p : Text) (key : Option Text) → length p ≤ 63 → IfSome key (λ k. (1 ≤ length k) × (length k ≤ 2048)) → IsKey (key_or p key)
key_fits p None h k = provider_key_fits p h
key_fits p (Some key) h k = record { filled = k.0; short = k.1 }

offered_stands : (p : Text) (x : Item) → length p ≤ 63 → IsItem x → HasProperTree x → MayStand (offered_by p x)
offered_stands p x h is proper =
    let key = key_fits p x.key h is.key in
    record { named = is.reference; within = record { shallow = is.shallow; narrow = is.narrow; proper = proper }; filled = key.filled; short = key.short }

offers_stand : (p : Text) (items : List Item) → length p ≤ 63 → AllByRecursion IsItem items → AllByRecursion HasProperTree items → AllByRecursion MayStand (offers_of p items)
offers_stand p [] h are proper = tt
offers_stand p (x ∷ xs) h are proper = (offered_stands p x h are.0 proper.0, offers_stand p xs h are.1 proper.1)

items_stand : (p : Text) (items : List Item) → is_name p ≡ true → AllByRecursion IsItem items → AllByRecursion HasProperTree items → (r : Text) (y : Offered) → get (offers_of p items) r ≡ Some y → is_item y r ≡ true
items_stand p items named are proper r y e =
    offer_holds y r (found_stands (offers_of p items) (offers_stand p items (name_short p named) are proper) r y e)

pub given_formed : (p : Text) (m : Mutation) → is_name p ≡ true → IsWellFormed m → HasProperTrees m → IsFormedGiven real_forms p (given p m)
given_formed p (Full serial items) named h proper = record { name = named; begun = h.serial.0; small = h.serial.1; items = items_stand p items named h.items proper }
given_formed p (Delta serial added removed) named h proper = record { name = named; begun = h.serial.0; small = h.serial.1; items = items_stand p added named h.items proper }
