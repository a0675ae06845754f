-- What an entity offers may stand under its references.
use Rattle.std.proofs.Common.{◌≡◌, ℕ, ◌≤◌, Bool, true, false, cond, List, [], ◌∷◌, ◌++◌, map, Option, None, Some, Result, Ok, Err, IfOk, if◌then◌else◌, nat_lt, nat_le, ◌==◌, length, codes, refl, ap, sym, subst, ◌∙◌, arith}
use Rattle.std.proofs.lemmas.Bool.{and_parts, leb-true}
use Rattle.std.specs.List.{list_all, flat_map, AllByRecursion}
use Rattle.cat_tree.specs.Ask.{child_of}
use Rattle.cat_tree.specs.Data.{Data, null, flag, whole, words, list, dict, no_members}
use Rattle.cat_tree.specs.Edit.{with_key}
use Rattle.cat_tree.proofs.Edits.{child_of-with_key_other}
use Rattle.cat_types.specs.Names.{is_shelf_name}
use Rattle.cat_types.specs.Reference.{described, is_map, text_at, part_or, named_by, named_in}
use Rattle.cat_types.specs.declared.fault.RefFault.TheVariants.{Shape}
use Rattle.cat_collections.specs.Table.{Text, Map, same_text, get}
use Rattle.cat_types.specs.declared.input.Offered.{Offered}
use Rattle.cat_collections.proofs.Tables.{text_total, text_antisymmetric, same_is}
use Rattle.cat_target.specs.Base.{Base}
use Rattle.cat_target.specs.Location.{base_of, type_of, is_optional, target_texts}
use Rattle.cat_target.specs.Resolve.{name_of}
use Rattle.cat_target.specs.Targets.{names_from, as_targets, typed_targets, targets_of, is_on_shelf, unless_faulty}
use Rattle.cat_target.specs.declared.target.Target.{Target}
use Rattle.cat_target.specs.declared.target.TargetFault.{TargetFault}
use Rattle.cat_target.specs.declared.target.TargetFault.TheVariants.{TooMany}
use Rattle.cat_target.proofs.Laws.{targets-shelf}
use Rattle.cat_inputs.specs.Shelf.{shelf_reading}
use Rattle.cat_inputs.specs.declared.fault.ShelfFault.{ShelfFault}
use Rattle.cat_inputs.specs.declared.shelf.Listed.{Listed}
use Rattle.cat_process.specs.Offers.{location_key, origin_key, origin_of, located, with_annotations, annotated_in, annotated_at, annotated, offer, listed_offers, body_offers, content_offers, all_offers, is_seen, firsts}
use Rattle.cat_process.specs.Process.{entity_targets, is_location, wanted_of, content_from, contents_of}
use Rattle.cat_layers.specs.Trees.{IsWithin}
use Rattle.cat_layers.specs.Forms.{IsOffer}
use Rattle.cat_layers.proofs.Edits.{child_within, within-with_key, within-words, within-empty, child_of-put}
use Rattle.cat_layers.proofs.Listed.{IsListed, shelf_listed}

-- ---- the reference of a tree whose metadata have changed

pub is_map-with_key : (k : List ℕ) (v d : Data) → is_map (with_key k v d) ≡ is_map d
is_map-with_key k v null = refl
is_map-with_key k v (flag b) = refl
is_map-with_key k v (whole z) = refl
is_map-with_key k v (words s) = refl
is_map-with_key k v (list ds) = refl
is_map-with_key k v (dict ms) = refl

pub named_alike : (d e m n : Data) → is_map n ≡ is_map m → child_of (codes "kind") e ≡ child_of (codes "kind") d
    → part_or (codes "default") (child_of (codes "namespace") n) ≡ part_or (codes "default") (child_of (codes "namespace") m) → child_of (codes "name") n ≡ child_of (codes "name") m → named_in e (Some n) ≡ named_in d (Some m)
named_alike d e m n p q r s = λ i. if p i then named_by (text_at (q i)) (r i) (part_or [] (s i)) else Err Shape

-- metadata that agree on namespace and name leave the reference as it is
pub described-metadata : (d m n : Data) → child_of (codes "metadata") d ≡ Some m → is_map n ≡ is_map m → part_or (codes "default") (child_of (codes "namespace") n) ≡ part_or (codes "default") (child_of (codes "namespace") m) → child_of (codes "name") n ≡ child_of (codes "name") m
    → described (with_key (codes "metadata") n d) ≡ described d
described-metadata d m n has map namespace name =
    ap (named_in (with_key (codes "metadata") n d)) (child_of-put (codes "metadata") n d m has)
    ∙ (named_alike d (with_key (codes "metadata") n d) m n map (child_of-with_key_other (codes "kind") (codes "metadata") n d refl) namespace name
    ∙ ap (named_in d) (sym has))

-- ---- the tree that is offered

with_annotations-named : (d m a : Data) → child_of (codes "metadata") d ≡ Some m → described (with_annotations d m a) ≡ described d
with_annotations-named d m a has =
    described-metadata d m (with_key (codes "annotations") a m) has (is_map-with_key (codes "annotations") a m)
    (ap (part_or (codes "default")) (child_of-with_key_other (codes "namespace") (codes "annotations") a m refl))
    (child_of-with_key_other (codes "name") (codes "annotations") a m refl)

with_annotations-within : (d m a : Data) → IsWithin 100 d → child_of (codes "metadata") d ≡ Some m → IsWithin 98 a → IsWithin 100 (with_annotations d m a)
with_annotations-within d m a h has k =
    within-with_key 99 (codes "metadata") (with_key (codes "annotations") a m) d
    (within-with_key 98 (codes "annotations") a m k (child_within 99 (codes "metadata") d m has h)) h

located-within : (origin name : Text) (a : Data) → IsWithin 98 a → IsWithin 98 (located origin name a)
located-within origin name a h =
    within-with_key 97 origin_key (words origin) (with_key location_key (words name) a) (within-words 97 origin)
    (within-with_key 97 location_key (words name) a (within-words 97 name) h)

-- the same reference, and at most 100 levels still
record IsAlike (d e : Data) : Type 0 where
  named : described e ≡ described d
  within : IsWithin 100 e

annotated_in-alike : (origin name : Text) (d m : Data) → IsWithin 100 d → child_of (codes "metadata") d ≡ Some m → (o : Option Data) → child_of (codes "annotations") m ≡ o → IsAlike d (annotated_in origin name d m o)
annotated_in-alike origin name d m h has None e = record {
  named = with_annotations-named d m _ has;
  within = with_annotations-within d m _ h has (located-within origin name (dict no_members) (within-empty 97));
}
annotated_in-alike origin name d m h has (Some a) e = pick (is_map a)
  where
    pick : (b : Bool) → IsAlike d (if b then with_annotations d m (located origin name a) else d)
    pick true = record {
      named = with_annotations-named d m _ has;
      within = with_annotations-within d m _ h has (located-within origin name a (child_within 98 (codes "annotations") m a e (child_within 99 (codes "metadata") d m has h)));
    }
    pick false = record { named = refl; within = h }

annotated_at-alike : (origin name : Text) (d : Data) → IsWithin 100 d → (o : Option Data) → child_of (codes "metadata") d ≡ o → IsAlike d (annotated_at origin name d o)
annotated_at-alike origin name d h None e = record { named = refl; within = h }
annotated_at-alike origin name d h (Some m) e = annotated_in-alike origin name d m h e (child_of (codes "annotations") m) refl

annotated-alike : (origin name : Text) (d : Data) → IsWithin 100 d → IsAlike d (annotated origin name d)
unfolding annotated
annotated-alike origin name d h = annotated_at-alike origin name d h (child_of (codes "metadata") d) refl

-- ---- the offers of a content

-- an offer may stand under the reference with which it is offered
abbrev pub MayStand : Text × Offered → Type 0
MayStand e = IsOffer e.1 e.0

-- the name of a target has a key's length
record IsName (name : Text) : Type 0 where
  filled : 1 ≤ length name
  short : length name ≤ 2048

offer_stands : (origin name : Text) (x : Listed) → IsName name → IsListed x → MayStand (offer origin name x)
offer_stands origin name x k h =
    let alike = annotated-alike origin name x.tree h.within in
    record { named = alike.named ∙ h.named; within = alike.within; filled = k.filled; short = k.short }

offers_stand : (origin name : Text) (xs : List Listed) → IsName name → AllByRecursion IsListed xs → AllByRecursion MayStand (map (offer origin name) xs)
offers_stand origin name [] k h = tt
offers_stand origin name (x ∷ xs) k h = (offer_stands origin name x k h.0, offers_stand origin name xs k h.1)

listed_stand : (origin name : Text) (r : Result (List Listed) ShelfFault) → IsName name → IfOk r (AllByRecursion IsListed) → AllByRecursion MayStand (listed_offers origin name r)
listed_stand origin name (Ok xs) k h = offers_stand origin name xs k h
listed_stand origin name (Err fault) k h = tt

body_stand : (origin name : Text) (body : Option Text) → IsName name → AllByRecursion MayStand (body_offers origin name body)
body_stand origin name None k = tt
body_stand origin name (Some body) k = listed_stand origin name (shelf_reading body) k (shelf_listed body)

all_append : {X : Type 0} (P : X → Type 0) (xs ys : List X) → AllByRecursion P xs → AllByRecursion P ys → AllByRecursion P (xs ++ ys)
all_append P [] ys h k = k
all_append P (x ∷ xs) ys h k = (h.0, all_append P xs ys h.1 k)

name_of_target : (t : Target) → is_on_shelf t ≡ true → IsName t.name
unfolding is_shelf_name
name_of_target t h =
    let sizes = and_parts (nat_le 3 (length t.name)) _ (and_parts _ _ h).0 in
    let low = leb-true 3 (length t.name) sizes.0 in
    record { filled = omega arith; short = leb-true (length t.name) 2048 (and_parts (nat_le (length t.name) 2048) _ sizes.1).0 }

contents_stand : (parent : Data) (shelf : Map Text) (ts : List Target) → list_all is_on_shelf ts ≡ true → AllByRecursion MayStand (flat_map (content_offers parent) (map (content_from shelf) ts))
contents_stand parent shelf [] h = tt
contents_stand parent shelf (t ∷ ts) h =
    let both = and_parts (is_on_shelf t) (list_all is_on_shelf ts) h in
    all_append MayStand (content_offers parent (content_from shelf t)) (flat_map (content_offers parent) (map (content_from shelf) ts))
    (body_stand (origin_of parent t.name) t.name (get shelf t.name) (name_of_target t both.0)) (contents_stand parent shelf ts both.1)

-- ---- the targets

named_on_shelf : (optional : Bool) (base : Option Base) (kind : List ℕ) (texts : List (List ℕ)) (r : Result (List (List ℕ)) TargetFault) → names_from (name_of base kind) 0 texts ≡ r → IfOk (as_targets optional r) (λ ts. list_all is_on_shelf ts ≡ true)
named_on_shelf optional base kind texts (Ok names) e = targets-shelf optional base kind texts names _ e refl
named_on_shelf optional base kind texts (Err fault) e = tt

by_type_on_shelf : (d : Data) (kind : Option (List ℕ)) → IfOk (typed_targets d kind (target_texts d)) (λ ts. list_all is_on_shelf ts ≡ true)
by_type_on_shelf d None = tt
by_type_on_shelf d (Some kind) = named_on_shelf (is_optional d) (base_of d) kind (target_texts d) _ refl

either_ok : {A E : Type 0} (P : A → Type 0) (b : Bool) (x y : Result A E) → IfOk x P → IfOk y P → IfOk (if b then x else y) P
either_ok P true x y h k = h
either_ok P false x y h k = k

targets_on_shelf : (d : Data) → IfOk (targets_of d) (λ ts. list_all is_on_shelf ts ≡ true)
unfolding targets_of
targets_on_shelf d =
    either_ok (λ ts. list_all is_on_shelf ts ≡ true) (nat_lt 1000 (length (target_texts d))) (Err TooMany) (if length (target_texts d) == 0 then Ok [] else typed_targets d (type_of d) (target_texts d)) tt
    (either_ok (λ ts. list_all is_on_shelf ts ≡ true) (length (target_texts d) == 0) (Ok []) (typed_targets d (type_of d) (target_texts d)) refl (by_type_on_shelf d (type_of d)))

entity_on_shelf : (d : Data) → IfOk (entity_targets d) (λ ts. list_all is_on_shelf ts ≡ true)
entity_on_shelf d = either_ok (λ ts. list_all is_on_shelf ts ≡ true) (is_location d) (targets_of d) (Ok []) (targets_on_shelf d) refl

faultless_on_shelf : (r : Result (List Target) TargetFault) → IfOk r (λ ts. list_all is_on_shelf ts ≡ true) → list_all is_on_shelf (unless_faulty r) ≡ true
faultless_on_shelf (Ok ts) h = h
faultless_on_shelf (Err fault) h = refl

either_on_shelf : (b : Bool) (ts : List Target) → list_all is_on_shelf ts ≡ true → list_all is_on_shelf (if b then ts else []) ≡ true
either_on_shelf true ts h = h
either_on_shelf false ts h = refl

wanted_on_shelf : (d : Data) → list_all is_on_shelf (wanted_of d) ≡ true
unfolding wanted_of
wanted_on_shelf d = either_on_shelf _ (unless_faulty (entity_targets d)) (faultless_on_shelf (entity_targets d) (entity_on_shelf d))

pub all_stand : (d : Data) (shelf : Map Text) → AllByRecursion MayStand (all_offers d (contents_of d shelf))
unfolding all_offers contents_of
all_stand d shelf = contents_stand d shelf (wanted_of d) (wanted_on_shelf d)

-- ---- the first of each reference, and one that is found

pub firsts_stand : (seen : List Text) (es : Map Offered) → AllByRecursion MayStand es → AllByRecursion MayStand (firsts seen es)
firsts_stand seen [] h = tt
firsts_stand seen (e ∷ es) h = pick (is_seen seen e) (firsts_stand seen es h.1) (firsts_stand (seen ++ e.0 ∷ []) es h.1)
  where
    pick : (b : Bool) → AllByRecursion MayStand (firsts seen es) → AllByRecursion MayStand (firsts (seen ++ e.0 ∷ []) es) → AllByRecursion MayStand (if b then firsts seen es else e ∷ firsts (seen ++ e.0 ∷ []) es)
    pick true skip keep = skip
    pick false skip keep = (h.0, keep)

pub found_stands : (es : Map Offered) → AllByRecursion MayStand es → (q : Text) (y : Offered) → get es q ≡ Some y → IsOffer y q
found_stands [] h q y e = cc
found_stands (x ∷ xs) h q y e = pick (same_text q x.0) refl e (found_stands xs h.1 q y)
  where
    pick : (b : Bool) → same_text q x.0 ≡ b → cond b (Some x.1) (get xs q) ≡ Some y → (get xs q ≡ Some y → IsOffer y q) → IsOffer y q
    pick true is e rest =
        let same : x.1 ≡ y = cc in
        subst (λ r. IsOffer y r) (sym (same_is text_total text_antisymmetric q x.0 is)) (subst (λ z. IsOffer z x.0) same h.0)
    pick false is e rest = rest e
