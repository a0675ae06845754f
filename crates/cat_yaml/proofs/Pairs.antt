-- The entries of a map that is being read.
use Rattle.std.proofs.Common.{◌≡◌, List, [], ◌∷◌, true, false, cond, map, String, Global, string_bytes, string_cmp, nat_cmp, bytes_eq, Less, Equal, Greater, None, Some, is_some, Ok, Err, if◌then◌else◌, refl, ap, sym, ◌∙◌}
use Rattle.std.proofs.lemmas.Map.Text.{is_eq-slice_cmp}
use Rattle.std.specs.BTreeMap.{insert_entry, is_at}
use Rattle.std.specs.FinMap.Entries.{by_order}
use Rattle.std.specs.Option.{option_map}
use Rattle.std.specs.Ordering.{is_eq, match_ordering}
use Rattle.std.specs.Cmp.Lexicographic.{slice_cmp}
use Rattle.std.specs.List.{AllByRecursion}
use Rattle.std.specs.List.Sorted.{IsStrictlySortedBy}
use Rattle.std.specs.Map as std_map
use Rattle.cat_tree.specs.Ask.{member_at}
use Rattle.cat_tree.specs.Data.{member, keys_of, IsRising}
use Rattle.cat_tree.specs.Edit.{put_member}
use Rattle.cat_tree.specs.View.{data_of}
use Rattle.cat_tree.specs.declared.tree.Tree.{Tree}
use Rattle.cat_yaml.specs.Block.{with_pair}
use Rattle.cat_yaml.specs.SeenPair.{seen_pair, seen_pairs}
use Rattle.cat_yaml.specs.declared.fault.Refusal.TheVariants.{NoReading}

abbrev Pair : Type 0
Pair = String Global × Tree

above_pairs : (k : String Global) (es : List Pair) → AllByRecursion (λ y. string_cmp k y ≡ Less) (std_map.keys_of es) → AllByRecursion (λ y. slice_cmp nat_cmp (string_bytes k) y ≡ Less) (keys_of (map seen_pair es))
above_pairs k [] h = tt
above_pairs k (e ∷ es) h = (h.0, above_pairs k es h.1)

-- a `BTreeMap` has its keys in byte order
pub rising_pairs : (es : List Pair) → IsStrictlySortedBy string_cmp (std_map.keys_of es) → IsRising (map seen_pair es)
unfolding IsStrictlySortedBy
rising_pairs [] h = tt
rising_pairs (e ∷ es) h = (above_pairs e.0 es h.0, rising_pairs es h.1)

-- the value at a key is that of the member at the key
found : (k : String Global) (es : List Pair) → option_map data_of (std_map.lookup (is_at (string_cmp k)) es) ≡ member_at (string_bytes k) (seen_pairs es)
found k [] = refl
found k (e ∷ es) =
    let tied : bytes_eq (string_bytes k) (string_bytes e.0) ≡ is_eq (string_cmp k e.0) = sym (is_eq-slice_cmp (string_bytes k) (string_bytes e.0)) in
    rw tied (elim (is_eq (string_cmp k e.0)) as (λ b. option_map data_of (cond b (Some e.1) (std_map.lookup (is_at (string_cmp k)) es)) ≡ cond b (Some (data_of e.1)) (member_at (string_bytes k) (seen_pairs es))) [
      | true ↦ refl
      | false ↦ found k es
    ])

-- an entry is put where its member is put
put_seen : (k : String Global) (t : Tree) (es : List Pair) → seen_pairs (insert_entry string_cmp es k t) ≡ put_member (string_bytes k) (data_of t) (seen_pairs es)
put_seen k t [] = refl
put_seen k t (e ∷ es) =
    elim (string_cmp k e.0) as (λ o. seen_pairs (match_ordering o ((k, t) ∷ e ∷ es) ((e.0, t) ∷ es) (e ∷ insert_entry string_cmp es k t)) ≡ by_order o (member (string_bytes k) (data_of t) (seen_pairs (e ∷ es))) (member (string_bytes e.0) (data_of t) (seen_pairs es)) (member (string_bytes e.0) (data_of e.1) (put_member (string_bytes k) (data_of t) (seen_pairs es)))) [
      | Less ↦ refl
      | Equal ↦ refl
      | Greater ↦ ap (member (string_bytes e.0) (data_of e.1)) (put_seen k t es)
    ]

pub put_new : (es : List Pair) (k : String Global) (t : Tree) → std_map.lookup (is_at (string_cmp k)) es ≡ None → with_pair (seen_pairs es) (string_bytes k) (data_of t) ≡ Ok (seen_pairs (insert_entry string_cmp es k t))
put_new es k t h =
    let none : member_at (string_bytes k) (seen_pairs es) ≡ None = sym (found k es) ∙ ap (option_map data_of) h in
    ap (λ o. if is_some o then Err NoReading else Ok (put_member (string_bytes k) (data_of t) (seen_pairs es))) none
    ∙ ap Ok (sym (put_seen k t es))

pub put_old : (es : List Pair) (k : String Global) (t u : Tree) → std_map.lookup (is_at (string_cmp k)) es ≡ Some u → with_pair (seen_pairs es) (string_bytes k) (data_of t) ≡ Err NoReading
put_old es k t u h =
    let some : member_at (string_bytes k) (seen_pairs es) ≡ Some (data_of u) = sym (found k es) ∙ ap (option_map data_of) h in
    ap (λ o. if is_some o then Err NoReading else Ok (put_member (string_bytes k) (data_of t) (seen_pairs es))) some
