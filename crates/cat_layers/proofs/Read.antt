-- The tree of a JSON text has integers of 64 bits, and the keys of its maps rise.
use Rattle.std.proofs.Common.{◌≡◌, ℕ, suc, zero, ◌≤◌, ◌^◌, Bool, true, false, ◌&&◌, ◌||◌, List, Some, None, Option, Result, Ok, Err, IfSome, IfOk, if◌then◌else◌, nat_lt, nat_le, nat_cmp, Ordering, Less, Equal, Greater, refl, ap, sym, subst, arith}
use Rattle.std.specs.Prelude.{option_map, option_and_then, neg_ℤ, pos, slice_index, drop, ◌==◌}
use Rattle.std.proofs.lemmas.Bool.{and_parts, ltb-true, leb-true}
use Rattle.std.specs.Float.{binary64, float_is_finite}
use Rattle.std.specs.Ordering.{match_ordering}
use Rattle.std.specs.Cmp.Lexicographic.{slice_cmp}
use Rattle.std.specs.FinMap.Entries.{by_order}
use Rattle.std.specs.Str.{is_utf8}
use Rattle.fast_float.specs.Text.{minus, Parts, scan, digits_of, nearest, with_sign}
use Rattle.json.specs.Json as text
use Rattle.json.specs.Lex.{tokens}
use Rattle.serde_json.specs.Data as json
use Rattle.serde_json.specs.Find.{is_float}
use Rattle.serde_json.specs.Read.{is_integer, float_of, number_from, number_of, of_json, of_items, of_members, max_depth, read}
use Rattle.serde_json.specs.Written.{has_float, items_have_float, members_have_float}
use Rattle.cat_tree.specs.Data.{Data, whole, member}
use Rattle.cat_tree.specs.Edit.{put_member}
use Rattle.cat_tree.specs.Proper.{Rise, IsProper, ItemsProper, MembersProper, IsNarrow, ItemsNarrow, MembersNarrow}
use Rattle.cat_tree.specs.Read.{whole_of, tree_of, items_from, members_from}
use Rattle.cat_tree.specs.declared.read.TreeFault.{TreeFault}
use Rattle.cat_tree.specs.declared.read.TreeFault.TheVariants.{Syntax, Fraction}
use Rattle.cat_tree.proofs.Edits.{Rise-put}
use Rattle.cat_inputs.specs.Reading.{whole_tree, tree_reading}

-- ---- numbers

-- a number that isn't a float is an integer of 64 bits
abbrev IsInteger : json.Num → Type 0
IsInteger n = is_float n ≡ false → IsNarrow (whole (whole_of n))

float_is : (sign : Bool) (p : Parts) → IfSome (float_of sign p) IsInteger
float_is sign p = pick (float_is_finite (nearest binary64 sign p))
  where
    pick : (b : Bool) → IfSome (if b then Some (json.float (nearest binary64 sign p)) else None) IsInteger
    pick true = λ e. cc
    pick false = tt

negated : (n : ℕ) → nat_lt 0 n ≡ true → nat_le n (2 ^ 63) ≡ true → IsNarrow (whole (neg_ℤ (pos n)))
negated zero h k = cc
negated (suc n) h k = let le : suc n ≤ 2 ^ 63 = leb-true (suc n) (2 ^ 63) k in omega arith

number_from_is : (sign : Bool) (p : Parts) → IfSome (number_from sign p) IsInteger
number_from_is false p = pick (is_integer p && nat_lt (digits_of p) (2 ^ 64)) refl
  where
    pick : (b : Bool) → (is_integer p && nat_lt (digits_of p) (2 ^ 64)) ≡ b → IfSome (if b then Some (json.unsigned (digits_of p)) else float_of false p) IsInteger
    pick true e = λ f. ltb-true (digits_of p) (2 ^ 64) (and_parts (is_integer p) (nat_lt (digits_of p) (2 ^ 64)) e).1
    pick false e = float_is false p
number_from_is true p = pick ((is_integer p && nat_lt 0 (digits_of p)) && nat_le (digits_of p) (2 ^ 63)) refl
  where
    pick : (b : Bool) → ((is_integer p && nat_lt 0 (digits_of p)) && nat_le (digits_of p) (2 ^ 63)) ≡ b → IfSome (if b then Some (json.negative (with_sign true (digits_of p))) else float_of true p) IsInteger
    pick true e = λ f.
        let both = and_parts (is_integer p && nat_lt 0 (digits_of p)) (nat_le (digits_of p) (2 ^ 63)) e in
        negated (digits_of p) (and_parts (is_integer p) (nat_lt 0 (digits_of p)) both.0).1 both.1
    pick false e = float_is true p

either_is : (b : Bool) (x y : Option json.Num) → IfSome x IsInteger → IfSome y IsInteger → IfSome (if b then x else y) IsInteger
either_is true x y h k = h
either_is false x y h k = k

number_is : (s : List ℕ) → IfSome (number_of s) IsInteger
unfolding number_of
number_is s = either_is (slice_index s 0 == minus) _ _ (number_from_is true (scan (drop 1 s))) (number_from_is false (scan s))

-- ---- values

-- where a value has no float, its numbers are integers of 64 bits; the keys of its maps rise
abbrev IsRead : json.Data → Type 0
IsRead d = (has_float d ≡ false → IsNarrow (tree_of d)) × IsProper (tree_of d)

abbrev ItemsRead : json.Items → Type 0
ItemsRead ds = (items_have_float ds ≡ false → ItemsNarrow (items_from ds)) × ItemsProper (items_from ds)

-- so it is with each member
abbrev AreRead : json.Members → Type 0
AreRead json.no_members = Unit {0}
AreRead (json.member k d ms) = IsRead d × AreRead ms

abbrev MembersRead : json.Members → Type 0
MembersRead ms = AreRead ms × Rise (members_from ms)

neither : (a b : Bool) → (a || b) ≡ false → (a ≡ false) × (b ≡ false)
neither true b h = cc
neither false b h = (refl, h)

members_narrow : (ms : json.Members) → AreRead ms → members_have_float ms ≡ false → MembersNarrow (members_from ms)
members_narrow json.no_members h f = tt
members_narrow (json.member k d ms) h f =
    let both = neither (has_float d) (members_have_float ms) f in
    (h.0.0 both.0, members_narrow ms h.1 both.1)

members_proper : (ms : json.Members) → AreRead ms → MembersProper (members_from ms)
members_proper json.no_members h = tt
members_proper (json.member k d ms) h = (h.0.1, members_proper ms h.1)

-- ---- a member is put

abbrev order : List ℕ → List ℕ → Ordering
order = slice_cmp nat_cmp

are_read-put : (k : List ℕ) (d : json.Data) (ms : json.Members) → IsRead d → AreRead ms → AreRead (json.put k d ms)
are_read-put k d json.no_members h rest = (h, tt)
are_read-put k d (json.member l e ms) h rest =
    elim (order k l) as (λ o. AreRead (match_ordering o (json.member k d (json.member l e ms)) (json.member l d ms) (json.member l e (json.put k d ms)))) [ Less ↦ (h, rest) | Equal ↦ (h, rest.1) | Greater ↦ (rest.0, are_read-put k d ms h rest.1) ]

members_from-put : (k : List ℕ) (d : json.Data) (ms : json.Members) → members_from (json.put k d ms) ≡ put_member k (tree_of d) (members_from ms)
members_from-put k d json.no_members = refl
members_from-put k d (json.member l e ms) =
    elim (order k l) as (λ o. members_from (match_ordering o (json.member k d (json.member l e ms)) (json.member l d ms) (json.member l e (json.put k d ms))) ≡ by_order o (member k (tree_of d) (member l (tree_of e) (members_from ms))) (member l (tree_of d) (members_from ms)) (member l (tree_of e) (put_member k (tree_of d) (members_from ms)))) [ Less ↦ refl | Equal ↦ refl | Greater ↦ ap (member l (tree_of e)) (members_from-put k d ms) ]

read-put : (k : List ℕ) (d : json.Data) (ms : json.Members) → IsRead d → MembersRead ms → MembersRead (json.put k d ms)
read-put k d ms h m = (are_read-put k d ms h m.0, subst Rise (sym (members_from-put k d ms)) (Rise-put k (tree_of d) (members_from ms) m.1))

-- ---- what the grammar gives

mapped : {A B : Type 0} (P : A → Type 0) (Q : B → Type 0) (f : A → B) (o : Option A) → IfSome o P → ((a : A) → P a → Q (f a)) → IfSome (option_map f o) Q
mapped P Q f None h k = tt
mapped P Q f (Some a) h k = k a h

chained : {A B : Type 0} (P : A → Type 0) (Q : B → Type 0) (f : A → Option B) (o : Option A) → IfSome o P → ((a : A) → P a → IfSome (f a) Q) → IfSome (option_and_then f o) Q
chained P Q f None h k = tt
chained P Q f (Some a) h k = k a h

one_more : (d : json.Data) (ds : json.Items) → IsRead d → ItemsRead ds → ItemsRead (json.item d ds)
one_more d ds h rest = (λ f. let both = neither (has_float d) (items_have_float ds) f in (h.0 both.0, rest.0 both.1), (h.1, rest.1))

mutual
  value_read : (j : text.Json) → IfSome (of_json j) IsRead
  value_read text.null = (λ f. tt, tt)
  value_read (text.boolean b) = (λ f. tt, tt)
  value_read (text.number s) = mapped IsInteger IsRead json.number (number_of s) (number_is s) (λ n h. (h, tt))
  value_read (text.string s) = (λ f. tt, tt)
  value_read (text.array js) = mapped ItemsRead IsRead json.array (of_items js) (items_read js) (λ ds h. h)
  value_read (text.object ms) = mapped MembersRead IsRead json.object (of_members ms json.no_members) (members_read ms json.no_members (tt, tt)) (λ ns h. (members_narrow ns h.0, (members_proper ns h.0, h.1)))

  items_read : (js : text.Items) → IfSome (of_items js) ItemsRead
  items_read text.no_items = (λ f. tt, tt)
  items_read (text.item j js) = chained IsRead ItemsRead _ (of_json j) (value_read j) (λ d h. mapped ItemsRead ItemsRead (json.item d) (of_items js) (items_read js) (λ ds rest. one_more d ds h rest))

  members_read : (ms : text.Members) (found : json.Members) → MembersRead found → IfSome (of_members ms found) MembersRead
  members_read text.no_members found h = h
  members_read (text.member k j ms) found h = chained IsRead MembersRead _ (of_json j) (value_read j) (λ d g. members_read ms (json.put k d found) (read-put k d found g h))

text_read : (o : Option text.Json) → IfSome (option_and_then of_json o) IsRead
text_read None = tt
text_read (Some j) = value_read j

-- ---- the tree

-- numbers of 64 bits, and keys that rise
pub record IsSoundTree (d : Data) : Type 0 where
  pub narrow : IsNarrow d
  pub proper : IsProper d

whole_tree_is : (o : Option json.Data) → IfSome o IsRead → IfOk (whole_tree o) IsSoundTree
whole_tree_is None h = tt
whole_tree_is (Some d) h = pick (has_float d) refl
  where
    pick : (b : Bool) → has_float d ≡ b → IfOk (if b then Err Fraction else Ok (tree_of d)) IsSoundTree
    pick true e = tt
    pick false e = record { narrow = h.0 e; proper = h.1 }

either_tree : (b : Bool) (x : Result Data TreeFault) → IfOk x IsSoundTree → IfOk (if b then x else Err Syntax) IsSoundTree
either_tree true x h = h
either_tree false x h = tt

pub tree_reading_is : (bytes : List ℕ) → IfOk (tree_reading bytes) IsSoundTree
unfolding tree_reading
tree_reading_is bytes = either_tree (is_utf8 bytes) (whole_tree (read bytes)) (whole_tree_is (read bytes) (text_read (option_and_then (λ p. text.if_last p.0 p.1) (text.value max_depth (tokens bytes)))))
