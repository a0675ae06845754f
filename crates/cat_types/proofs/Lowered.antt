-- A reference's text reads as the reference.
use Rattle.std.proofs.Common.{◌≡◌, ℕ, ◌+◌, ◌-◌, ◌<◌, ◌≤◌, length, Bool, true, false, cond, ltb, leb, List, [], ◌∷◌, ◌++◌, map, append_assoc, Option, Some, None, Ok, refl, sym, ap, ◌∙◌, arith}
use Rattle.std.specs.Prelude.{◌&&◌, slice_get, option_map, IsSome}
use denote.Ref.{Bor}
use Rattle.std.specs.List.{list_all}
use Rattle.std.specs.Option.{option_map_or, option_copied}
use Rattle.std.specs.Char.{to_ascii_lowercase, is_ascii_alphabetic, is_ascii_alphanumeric}
use Rattle.std.proofs.lemmas.Bool.Decides.{nat_tests, Decides-ltb}
use Rattle.std.proofs.lemmas.List.{length-map, map-append}
use Rattle.std.proofs.lemmas.Option.{slice_get-map}
use Rattle.std.proofs.lemmas.Str.Ascii.{lowercase-lowercase}
use Rattle.cat_types.specs.Names.{is_short, begins, ends, has_plain_ends, is_dash_or_plain, is_name_byte, is_kind, is_namespace, is_name}
use Rattle.cat_types.specs.Reading.{Pieces, ReadsAs, is_piece_byte, is_piece, reading}
use Rattle.cat_types.specs.Reference.{IsReference, full_text, named, filled_in, parsed}
use Rattle.cat_types.specs.Pieces.{pieces_of}
use Rattle.cat_types.specs.declared.split.RefParts.{RefParts}
use Rattle.cat_types.proofs.Readings.{left_of, right_of, both_of, some_is, none_is_some, reading-reads, no_reading}

-- ---- tests that do not tell the cases apart

fold_step : (p : ℕ → Bool) (b : ℕ) (t u : Bool) → (t ≡ false → u ≡ true → p (b + 32) ≡ p b) → p (cond t b (cond u (b + 32) b)) ≡ p b
fold_step p b true u h = refl
fold_step p b false true h = h refl refl
fold_step p b false false h = refl

at_least : (b n : ℕ) → ltb b n ≡ false → n ≤ b
at_least b n h = grind (arith, nat_tests)

under : (b n : ℕ) → ltb b n ≡ true → b < n
under b n h = (Decides-ltb b n).0 h

fold_keeps : (p : ℕ → Bool) → ((b : ℕ) → 65 ≤ b → b < 91 → p (b + 32) ≡ p b) → (b : ℕ) → p (to_ascii_lowercase b) ≡ p b
fold_keeps p h b = fold_step p b (ltb b 65) (ltb b 91) (λ x y. h b (at_least b 65 x) (under b 91 y))

alphabetic_kept : (b : ℕ) → 65 ≤ b → b < 91 → is_ascii_alphabetic (b + 32) ≡ is_ascii_alphabetic b
alphabetic_kept b low high = grind (arith, nat_tests)

alphanumeric_kept : (b : ℕ) → 65 ≤ b → b < 91 → is_ascii_alphanumeric (b + 32) ≡ is_ascii_alphanumeric b
alphanumeric_kept b low high = grind (arith, nat_tests)

dash_kept : (b : ℕ) → 65 ≤ b → b < 91 → is_dash_or_plain (b + 32) ≡ is_dash_or_plain b
dash_kept b low high = grind (arith, nat_tests)

name_byte_kept : (b : ℕ) → 65 ≤ b → b < 91 → is_name_byte (b + 32) ≡ is_name_byte b
name_byte_kept b low high = grind (arith, nat_tests)

piece_byte_kept : (b : ℕ) → 65 ≤ b → b < 91 → is_piece_byte (b + 32) ≡ is_piece_byte b
piece_byte_kept b low high = grind (arith, nat_tests)

all_kept : (p : ℕ → Bool) → ((b : ℕ) → p (to_ascii_lowercase b) ≡ p b) → (s : List ℕ) → list_all p (map to_ascii_lowercase s) ≡ list_all p s
all_kept p h [] = refl
all_kept p h (b ∷ bs) = λ i. h b i && all_kept p h bs i

map_or_kept : (p : ℕ → Bool) → ((b : ℕ) → p (to_ascii_lowercase b) ≡ p b) → (o : Option ℕ) → option_map_or p (option_map to_ascii_lowercase o) false ≡ option_map_or p o false
map_or_kept p h None = refl
map_or_kept p h (Some b) = h b

at_kept : (p : ℕ → Bool) → ((b : ℕ) → p (to_ascii_lowercase b) ≡ p b) → (s : List ℕ) (k : ℕ) → option_map_or p (slice_get (map to_ascii_lowercase s) k) false ≡ option_map_or p (slice_get s k) false
at_kept p h s k = ap (λ o. option_map_or p o false) (slice_get-map to_ascii_lowercase s k) ∙ map_or_kept p h (slice_get s k)

begins_kept : (p : ℕ → Bool) → ((b : ℕ) → p (to_ascii_lowercase b) ≡ p b) → (s : List ℕ) → begins p (map to_ascii_lowercase s) ≡ begins p s
begins_kept p h s = at_kept p h s 0

ends_kept : (p : ℕ → Bool) → ((b : ℕ) → p (to_ascii_lowercase b) ≡ p b) → (s : List ℕ) → ends p (map to_ascii_lowercase s) ≡ ends p s
ends_kept p h s =
    ap (λ n. option_map_or p (slice_get (map to_ascii_lowercase s) (n - 1)) false) (length-map s to_ascii_lowercase) ∙ at_kept p h s (length s - 1)

short_kept : (s : List ℕ) → is_short (map to_ascii_lowercase s) ≡ is_short s
short_kept s = ap (λ n. leb 1 n && leb n 63) (length-map s to_ascii_lowercase)

plain_ends_kept : (s : List ℕ) → has_plain_ends (map to_ascii_lowercase s) ≡ has_plain_ends s
plain_ends_kept s =
    let keeps = fold_keeps is_ascii_alphanumeric alphanumeric_kept in
    λ i. begins_kept is_ascii_alphanumeric keeps s i && ends_kept is_ascii_alphanumeric keeps s i

pub kind_kept : (s : List ℕ) → is_kind (map to_ascii_lowercase s) ≡ is_kind s
unfolding is_kind
kind_kept s =
    λ i. short_kept s i && (begins_kept is_ascii_alphabetic (fold_keeps is_ascii_alphabetic alphabetic_kept) s i && all_kept is_ascii_alphanumeric (fold_keeps is_ascii_alphanumeric alphanumeric_kept) s i)

pub namespace_kept : (s : List ℕ) → is_namespace (map to_ascii_lowercase s) ≡ is_namespace s
unfolding is_namespace
namespace_kept s = λ i. short_kept s i && (plain_ends_kept s i && all_kept is_dash_or_plain (fold_keeps is_dash_or_plain dash_kept) s i)

pub name_kept : (s : List ℕ) → is_name (map to_ascii_lowercase s) ≡ is_name s
unfolding is_name
name_kept s = λ i. short_kept s i && (plain_ends_kept s i && all_kept is_name_byte (fold_keeps is_name_byte name_byte_kept) s i)

piece_kept : (s : List ℕ) → is_piece (map to_ascii_lowercase s) ≡ is_piece s
piece_kept s =
    λ i. leb 1 (length-map s to_ascii_lowercase i) && all_kept is_piece_byte (fold_keeps is_piece_byte piece_byte_kept) s i

-- ---- parts are pieces

all_weaker : (p q : ℕ → Bool) → ((b : ℕ) → p b ≡ true → q b ≡ true) → (s : List ℕ) → list_all p s ≡ true → list_all q s ≡ true
all_weaker p q h [] k = refl
all_weaker p q h (b ∷ bs) k = both_of (q b) _ (h b (left_of (p b) _ k)) (all_weaker p q h bs (right_of (p b) _ k))

alphanumeric_piece : (b : ℕ) → is_ascii_alphanumeric b ≡ true → is_piece_byte b ≡ true
alphanumeric_piece b h = grind (arith, nat_tests)

name_byte_piece : (b : ℕ) → is_name_byte b ≡ true → is_piece_byte b ≡ true
name_byte_piece b h = grind (arith, nat_tests)

dash_piece : (b : ℕ) → is_dash_or_plain b ≡ true → is_piece_byte b ≡ true
dash_piece b h = grind (arith, nat_tests)

kind_piece : (s : List ℕ) → is_kind s ≡ true → is_piece s ≡ true
unfolding is_kind
kind_piece s h =
    both_of (leb 1 (length s)) _ (left_of _ (leb (length s) 63) (left_of (is_short s) _ h))
    (all_weaker is_ascii_alphanumeric is_piece_byte alphanumeric_piece s (right_of (begins is_ascii_alphabetic s) _ (right_of (is_short s) _ h)))

namespace_piece : (s : List ℕ) → is_namespace s ≡ true → is_piece s ≡ true
unfolding is_namespace
namespace_piece s h =
    both_of (leb 1 (length s)) _ (left_of _ (leb (length s) 63) (left_of (is_short s) _ h))
    (all_weaker is_dash_or_plain is_piece_byte dash_piece s (right_of (has_plain_ends s) _ (right_of (is_short s) _ h)))

name_piece : (s : List ℕ) → is_name s ≡ true → is_piece s ≡ true
unfolding is_name
name_piece s h =
    both_of (leb 1 (length s)) _ (left_of _ (leb (length s) 63) (left_of (is_short s) _ h))
    (all_weaker is_name_byte is_piece_byte name_byte_piece s (right_of (has_plain_ends s) _ (right_of (is_short s) _ h)))

-- ---- the text of a reference

lowered_twice : (s : List ℕ) → map to_ascii_lowercase (map to_ascii_lowercase s) ≡ map to_ascii_lowercase s
lowered_twice [] = refl
lowered_twice (b ∷ bs) = λ i. lowercase-lowercase b i ∷ lowered_twice bs i

full_text_of_parts : (k ns n : List ℕ) → full_text k ns n ≡ map to_ascii_lowercase k ++ 58 ∷ (map to_ascii_lowercase ns ++ 47 ∷ map to_ascii_lowercase n)
full_text_of_parts k ns n =
    map-append to_ascii_lowercase k (58 ∷ (ns ++ 47 ∷ n)) ∙ ap (λ r. map to_ascii_lowercase k ++ 58 ∷ r) (map-append to_ascii_lowercase ns (47 ∷ n))

pub named_parts : (k ns n : List ℕ) → is_kind k ≡ true → is_namespace ns ≡ true → is_name n ≡ true → named k ns n ≡ Ok (full_text k ns n)
unfolding named
named_parts k ns n hk hns hn = rw (hk, hns, hn) refl

abbrev parts_of : List ℕ → List ℕ → List ℕ → Pieces
parts_of k ns n = record { kind = Some k; namespace = Some ns; name = n }

-- a reference's text has its kind, namespace and name as pieces
pub reference_reads : (t : List ℕ) (r : IsReference t) → ReadsAs t (parts_of (map to_ascii_lowercase r.kind) (map to_ascii_lowercase r.namespace) (map to_ascii_lowercase r.name))
reference_reads t r =
    let k = map to_ascii_lowercase r.kind in
    let ns = map to_ascii_lowercase r.namespace in
    let n = map to_ascii_lowercase r.name in
    record {
      text_is =
          r.text_is ∙ (full_text_of_parts r.kind r.namespace r.name ∙ sym (append_assoc k (58 ∷ []) ((ns ++ 47 ∷ []) ++ n) ∙ ap (λ x. k ++ 58 ∷ x) (append_assoc ns (47 ∷ []) n)));
      kind = piece_kept r.kind ∙ kind_piece r.kind r.is_kind;
      namespace = piece_kept r.namespace ∙ namespace_piece r.namespace r.is_namespace;
      name = piece_kept r.name ∙ name_piece r.name r.is_name;
    }

-- a reference's text names the reference, with no defaults
pub reference_parses : (t : List ℕ) (r : IsReference t) (kind : Option (List ℕ)) (namespace : List ℕ) → parsed t kind namespace ≡ Ok t
reference_parses t r kind namespace =
    let k = map to_ascii_lowercase r.kind in
    let ns = map to_ascii_lowercase r.namespace in
    let n = map to_ascii_lowercase r.name in
    let again : full_text k ns n ≡ t =
    ap (map to_ascii_lowercase) (sym (full_text_of_parts r.kind r.namespace r.name)) ∙ (lowered_twice (r.kind ++ 58 ∷ (r.namespace ++ 47 ∷ r.name)) ∙ sym r.text_is) in
    ap (λ o. filled_in o kind namespace) (reading-reads t _ (reference_reads t r))
    ∙ (named_parts k ns n (kind_kept r.kind ∙ r.is_kind) (namespace_kept r.namespace ∙ r.is_namespace) (name_kept r.name ∙ r.is_name)
    ∙ ap Ok again)

some_copied : {A : Type 0} (o : Option (Bor A)) (x : A) → option_copied o ≡ Some x → IsSome o
some_copied None x e = absurd (none_is_some x e)
some_copied (Some y) x e = refl

-- the pieces of a reference's text are three
pub three_parts : (t : List ℕ) (r : IsReference t) (p : Pieces) → reading t ≡ Some p → p ≡ parts_of (map to_ascii_lowercase r.kind) (map to_ascii_lowercase r.namespace) (map to_ascii_lowercase r.name)
three_parts t r p e = some_is p _ (sym e ∙ reading-reads t _ (reference_reads t r))

pub kind_there : (t : List ℕ) (r : IsReference t) (p : RefParts) → reading t ≡ Some (pieces_of p) → IsSome p.kind
kind_there t r p e = some_copied p.kind _ (ap (λ (q : Pieces). q.kind) (three_parts t r (pieces_of p) e))

pub namespace_there : (t : List ℕ) (r : IsReference t) (p : RefParts) → reading t ≡ Some (pieces_of p) → IsSome p.namespace
namespace_there t r p e = some_copied p.namespace _ (ap (λ (q : Pieces). q.namespace) (three_parts t r (pieces_of p) e))

pub has_reading : (t : List ℕ) → IsReference t → reading t ≡ None → ⊥
has_reading t r e = no_reading t e _ (reference_reads t r)
