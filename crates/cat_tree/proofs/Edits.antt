-- Entries that are put in and taken out: the trees below don't matter, the keys stay in order, and each key is found as it should be.
use Rattle.std.proofs.Common.{◌≡◌, ℕ, Bool, true, false, cond, List, [], ◌∷◌, map, Less, Equal, Greater, Ordering, nat_cmp, bytes_eq, refl, sym, ap, subst, ◌∙◌}
use Rattle.std.specs.Prelude.{Some, None}
use Rattle.std.specs.Ordering.{ordering_reverse, is_eq}
use Rattle.std.specs.Cmp.Lexicographic.{slice_cmp}
use Rattle.std.specs.FinMap.Entries.{by_order, put}
use Rattle.std.specs.List.{AllByRecursion}
use Rattle.std.specs.List.Sorted.{IsStrictlySortedBy}
use Rattle.std.specs.Map.{remove_entry}
use Rattle.std.proofs.lemmas.Cmp.{nat_list_cmp_total}
use Rattle.std.proofs.lemmas.Map.Text.{is_eq-slice_cmp}
use Rattle.std.proofs.lemmas.Slice.Eq.{bytes_eq-Decides}
use Rattle.cat_tree.specs.declared.tree.Tree.{Tree}
use Rattle.cat_tree.specs.Ask.{member_at, child_of}
use Rattle.cat_tree.specs.Data.{Data, null, flag, whole, words, list, dict, Members, no_members, member, members_of, keys_of, IsRising}
use Rattle.cat_tree.specs.Edit.{put_member, drop_member, with_key, without_key}
use Rattle.cat_tree.specs.Proper.{IsBelow, Rise, IsProper, MembersProper, IsNarrow, MembersNarrow}
use Rattle.cat_tree.specs.View.{data_of, entry_of}

abbrev order : List ℕ → List ℕ → Ordering
order = slice_cmp nat_cmp

-- ---- the trees of the code, and their data

pub map-put : (k : List ℕ) (t : Tree) (es : List (List ℕ × Tree)) → map entry_of (put order k t es) ≡ put order k (data_of t) (map entry_of es)
map-put k t [] = refl
map-put k t (e ∷ es) =
    elim (order k e.0) as (λ o. map entry_of (by_order o ((k, t) ∷ e ∷ es) ((e.0, t) ∷ es) (e ∷ put order k t es)) ≡ by_order o ((k, data_of t) ∷ entry_of e ∷ map entry_of es) ((e.0, data_of t) ∷ map entry_of es) (entry_of e ∷ put order k (data_of t) (map entry_of es))) [
      | Less ↦ refl
      | Equal ↦ refl
      | Greater ↦ ap (λ xs. entry_of e ∷ xs) (map-put k t es)
    ]

pub map-remove : (k : List ℕ) (es : List (List ℕ × Tree)) → map entry_of (remove_entry (bytes_eq k) es) ≡ remove_entry (bytes_eq k) (map entry_of es)
map-remove k [] = refl
map-remove k (e ∷ es) =
    elim (bytes_eq k e.0) as (λ b. map entry_of (cond b es (e ∷ remove_entry (bytes_eq k) es)) ≡ cond b (map entry_of es) (entry_of e ∷ remove_entry (bytes_eq k) (map entry_of es))) [
      | true ↦ refl
      | false ↦ ap (λ xs. entry_of e ∷ xs) (map-remove k es)
    ]

pub members_of-put : (k : List ℕ) (d : Data) (es : List (List ℕ × Data)) → members_of (put order k d es) ≡ put_member k d (members_of es)
members_of-put k d [] = refl
members_of-put k d (e ∷ es) =
    elim (order k e.0) as (λ o. members_of (by_order o ((k, d) ∷ e ∷ es) ((e.0, d) ∷ es) (e ∷ put order k d es)) ≡ by_order o (member k d (member e.0 e.1 (members_of es))) (member e.0 d (members_of es)) (member e.0 e.1 (put_member k d (members_of es)))) [
      | Less ↦ refl
      | Equal ↦ refl
      | Greater ↦ ap (member e.0 e.1) (members_of-put k d es)
    ]

pub members_of-remove : (k : List ℕ) (es : List (List ℕ × Data)) → members_of (remove_entry (bytes_eq k) es) ≡ drop_member k (members_of es)
members_of-remove k [] = refl
members_of-remove k (e ∷ es) =
    elim (bytes_eq k e.0) as (λ b. members_of (cond b es (e ∷ remove_entry (bytes_eq k) es)) ≡ cond b (members_of es) (member e.0 e.1 (drop_member k (members_of es)))) [
      | true ↦ refl
      | false ↦ ap (member e.0 e.1) (members_of-remove k es)
    ]

-- ---- the keys of entries stay in order

abbrev AreAbove : List ℕ → List (List ℕ × Data) → Type 0
AreAbove x es = AllByRecursion (λ y. order x y ≡ Less) (keys_of es)

reversed : (k l : List ℕ) → order k l ≡ Greater → order l k ≡ Less
reversed k l h = nat_list_cmp_total.antisymm l k ∙ ap ordering_reverse h

above_less : (x y : List ℕ) (es : List (List ℕ × Data)) → order x y ≡ Less → AreAbove y es → AreAbove x es
above_less x y [] h a = tt
above_less x y (e ∷ es) h a = (nat_list_cmp_total.trans x y e.0 h a.0, above_less x y es h a.1)

above-put : (x k : List ℕ) (d : Data) (es : List (List ℕ × Data)) → order x k ≡ Less → AreAbove x es → AreAbove x (put order k d es)
above-put x k d [] h a = (h, tt)
above-put x k d (e ∷ es) h a =
    elim (order k e.0) as (λ o. AreAbove x (by_order o ((k, d) ∷ e ∷ es) ((e.0, d) ∷ es) (e ∷ put order k d es))) [
      | Less ↦ (h, a)
      | Equal ↦ a
      | Greater ↦ (a.0, above-put x k d es h a.1)
    ]

pub rising-put : (k : List ℕ) (d : Data) (es : List (List ℕ × Data)) → IsRising es → IsRising (put order k d es)
unfolding IsStrictlySortedBy
rising-put k d [] h = (tt, tt)
rising-put k d (e ∷ es) h =
    elim (order k e.0) as (λ o. order k e.0 ≡ o → IsRising (by_order o ((k, d) ∷ e ∷ es) ((e.0, d) ∷ es) (e ∷ put order k d es))) [
      | Less ↦ λ p. ((p, above_less k e.0 es p h.0), h)
      | Equal ↦ λ p. h
      | Greater ↦ λ p. (above-put e.0 k d es (reversed k e.0 p) h.0, rising-put k d es h.1)
    ] refl

above-remove : (x k : List ℕ) (es : List (List ℕ × Data)) → AreAbove x es → AreAbove x (remove_entry (bytes_eq k) es)
above-remove x k [] a = tt
above-remove x k (e ∷ es) a =
    elim (bytes_eq k e.0) as (λ b. AreAbove x (cond b es (e ∷ remove_entry (bytes_eq k) es))) [ true ↦ a.1 | false ↦ (a.0, above-remove x k es a.1) ]

pub rising-remove : (k : List ℕ) (es : List (List ℕ × Data)) → IsRising es → IsRising (remove_entry (bytes_eq k) es)
unfolding IsStrictlySortedBy
rising-remove k [] h = tt
rising-remove k (e ∷ es) h =
    elim (bytes_eq k e.0) as (λ b. IsRising (cond b es (e ∷ remove_entry (bytes_eq k) es))) [ true ↦ h.1 | false ↦ (above-remove e.0 k es h.0, rising-remove k es h.1) ]

-- ---- what is found

found : (q l : List ℕ) (d : Data) (ms : Members) (b : Bool) → bytes_eq q l ≡ b → member_at q (member l d ms) ≡ cond b (Some d) (member_at q ms)
found q l d ms b e = ap (λ c. cond c (Some d) (member_at q ms)) e

tied : (k l : List ℕ) (o : Ordering) → order k l ≡ o → bytes_eq k l ≡ is_eq o
tied k l o e = sym (is_eq-slice_cmp k l) ∙ ap is_eq e

pub member_at-put_same : (k : List ℕ) (d : Data) (ms : Members) → member_at k (put_member k d ms) ≡ Some d
member_at-put_same k d no_members = found k k d no_members true ((bytes_eq-Decides k k).1 refl)
member_at-put_same k d (member l e ms) =
    elim (order k l) as (λ o. order k l ≡ o → member_at k (by_order o (member k d (member l e ms)) (member l d ms) (member l e (put_member k d ms))) ≡ Some d) [
      | Less ↦ λ p. found k k d (member l e ms) true ((bytes_eq-Decides k k).1 refl)
      | Equal ↦ λ p. found k l d ms true (tied k l Equal p)
      | Greater ↦ λ p. found k l e (put_member k d ms) false (tied k l Greater p) ∙ member_at-put_same k d ms
    ] refl

pub member_at-put_other : (q k : List ℕ) (d : Data) (ms : Members) → bytes_eq q k ≡ false → member_at q (put_member k d ms) ≡ member_at q ms
member_at-put_other q k d no_members h = found q k d no_members false h
member_at-put_other q k d (member l e ms) h =
    elim (order k l) as (λ o. order k l ≡ o → member_at q (by_order o (member k d (member l e ms)) (member l d ms) (member l e (put_member k d ms))) ≡ member_at q (member l e ms)) [
      | Less ↦ λ p. found q k d (member l e ms) false h
      | Equal ↦ λ p.
          let apart : bytes_eq q l ≡ false = ap (bytes_eq q) (sym ((bytes_eq-Decides k l).0 (tied k l Equal p))) ∙ h in
          found q l d ms false apart ∙ sym (found q l e ms false apart)
      | Greater ↦ λ p. ap (λ x. cond (bytes_eq q l) (Some e) x) (member_at-put_other q k d ms h)
    ] refl

pub member_at-drop_other : (q k : List ℕ) (ms : Members) → bytes_eq q k ≡ false → member_at q (drop_member k ms) ≡ member_at q ms
member_at-drop_other q k no_members h = refl
member_at-drop_other q k (member l e ms) h =
    elim (bytes_eq k l) as (λ b. bytes_eq k l ≡ b → member_at q (cond b ms (member l e (drop_member k ms))) ≡ member_at q (member l e ms)) [
      | true ↦ λ p. sym (found q l e ms false (ap (bytes_eq q) (sym ((bytes_eq-Decides k l).0 p)) ∙ h))
      | false ↦ λ p. ap (λ x. cond (bytes_eq q l) (Some e) x) (member_at-drop_other q k ms h)
    ] refl

-- a key below all others isn't among them
pub member_at-below : (k : List ℕ) (ms : Members) → IsBelow k ms → member_at k ms ≡ None
member_at-below k no_members b = refl
member_at-below k (member l e ms) b = found k l e ms false (tied k l Less b.0) ∙ member_at-below k ms b.1

pub member_at-drop_same : (k : List ℕ) (ms : Members) → Rise ms → member_at k (drop_member k ms) ≡ None
member_at-drop_same k no_members r = refl
member_at-drop_same k (member l e ms) r =
    elim (bytes_eq k l) as (λ b. bytes_eq k l ≡ b → member_at k (cond b ms (member l e (drop_member k ms))) ≡ None) [
      | true ↦ λ p. member_at-below k ms (subst (λ x. IsBelow x ms) (sym ((bytes_eq-Decides k l).0 p)) r.0)
      | false ↦ λ p. found k l e (drop_member k ms) false p ∙ member_at-drop_same k ms r.1
    ] refl

pub child_of-with_key_same : (k : List ℕ) (v : Data) (ms : Members) → child_of k (with_key k v (dict ms)) ≡ Some v
child_of-with_key_same k v ms = member_at-put_same k v ms

pub child_of-with_key_other : (q k : List ℕ) (v d : Data) → bytes_eq q k ≡ false → child_of q (with_key k v d) ≡ child_of q d
child_of-with_key_other q k v null h = refl
child_of-with_key_other q k v (flag b) h = refl
child_of-with_key_other q k v (whole z) h = refl
child_of-with_key_other q k v (words s) h = refl
child_of-with_key_other q k v (list ds) h = refl
child_of-with_key_other q k v (dict ms) h = member_at-put_other q k v ms h

pub child_of-without_key_other : (q k : List ℕ) (d : Data) → bytes_eq q k ≡ false → child_of q (without_key k d) ≡ child_of q d
child_of-without_key_other q k null h = refl
child_of-without_key_other q k (flag b) h = refl
child_of-without_key_other q k (whole z) h = refl
child_of-without_key_other q k (words s) h = refl
child_of-without_key_other q k (list ds) h = refl
child_of-without_key_other q k (dict ms) h = member_at-drop_other q k ms h

pub child_of-without_key_same : (k : List ℕ) (d : Data) → IsProper d → child_of k (without_key k d) ≡ None
child_of-without_key_same k null p = refl
child_of-without_key_same k (flag b) p = refl
child_of-without_key_same k (whole z) p = refl
child_of-without_key_same k (words s) p = refl
child_of-without_key_same k (list ds) p = refl
child_of-without_key_same k (dict ms) p = member_at-drop_same k ms p.1

-- ---- a tree stays proper, and its numbers narrow

below_less : (x y : List ℕ) (ms : Members) → order x y ≡ Less → IsBelow y ms → IsBelow x ms
below_less x y no_members h b = tt
below_less x y (member l e ms) h b = (nat_list_cmp_total.trans x y l h b.0, below_less x y ms h b.1)

below-put : (x k : List ℕ) (d : Data) (ms : Members) → order x k ≡ Less → IsBelow x ms → IsBelow x (put_member k d ms)
below-put x k d no_members h b = (h, tt)
below-put x k d (member l e ms) h b =
    elim (order k l) as (λ o. IsBelow x (by_order o (member k d (member l e ms)) (member l d ms) (member l e (put_member k d ms)))) [ Less ↦ (h, b) | Equal ↦ b | Greater ↦ (b.0, below-put x k d ms h b.1) ]

pub Rise-put : (k : List ℕ) (d : Data) (ms : Members) → Rise ms → Rise (put_member k d ms)
Rise-put k d no_members r = (tt, tt)
Rise-put k d (member l e ms) r =
    elim (order k l) as (λ o. order k l ≡ o → Rise (by_order o (member k d (member l e ms)) (member l d ms) (member l e (put_member k d ms)))) [
      | Less ↦ λ p. ((p, below_less k l ms p r.0), r)
      | Equal ↦ λ p. r
      | Greater ↦ λ p. (below-put l k d ms (reversed k l p) r.0, Rise-put k d ms r.1)
    ] refl

below-drop : (x k : List ℕ) (ms : Members) → IsBelow x ms → IsBelow x (drop_member k ms)
below-drop x k no_members b = tt
below-drop x k (member l e ms) b = elim (bytes_eq k l) as (λ c. IsBelow x (cond c ms (member l e (drop_member k ms)))) [ true ↦ b.1 | false ↦ (b.0, below-drop x k ms b.1) ]

pub Rise-drop : (k : List ℕ) (ms : Members) → Rise ms → Rise (drop_member k ms)
Rise-drop k no_members r = tt
Rise-drop k (member l e ms) r = elim (bytes_eq k l) as (λ c. Rise (cond c ms (member l e (drop_member k ms)))) [ true ↦ r.1 | false ↦ (below-drop l k ms r.0, Rise-drop k ms r.1) ]

MembersProper-put : (k : List ℕ) (d : Data) (ms : Members) → IsProper d → MembersProper ms → MembersProper (put_member k d ms)
MembersProper-put k d no_members h p = (h, tt)
MembersProper-put k d (member l e ms) h p =
    elim (order k l) as (λ o. MembersProper (by_order o (member k d (member l e ms)) (member l d ms) (member l e (put_member k d ms)))) [ Less ↦ (h, p) | Equal ↦ (h, p.1) | Greater ↦ (p.0, MembersProper-put k d ms h p.1) ]

MembersProper-drop : (k : List ℕ) (ms : Members) → MembersProper ms → MembersProper (drop_member k ms)
MembersProper-drop k no_members p = tt
MembersProper-drop k (member l e ms) p = elim (bytes_eq k l) as (λ c. MembersProper (cond c ms (member l e (drop_member k ms)))) [ true ↦ p.1 | false ↦ (p.0, MembersProper-drop k ms p.1) ]

pub MembersNarrow-put : (k : List ℕ) (d : Data) (ms : Members) → IsNarrow d → MembersNarrow ms → MembersNarrow (put_member k d ms)
MembersNarrow-put k d no_members h p = (h, tt)
MembersNarrow-put k d (member l e ms) h p =
    elim (order k l) as (λ o. MembersNarrow (by_order o (member k d (member l e ms)) (member l d ms) (member l e (put_member k d ms)))) [ Less ↦ (h, p) | Equal ↦ (h, p.1) | Greater ↦ (p.0, MembersNarrow-put k d ms h p.1) ]

MembersNarrow-drop : (k : List ℕ) (ms : Members) → MembersNarrow ms → MembersNarrow (drop_member k ms)
MembersNarrow-drop k no_members p = tt
MembersNarrow-drop k (member l e ms) p = elim (bytes_eq k l) as (λ c. MembersNarrow (cond c ms (member l e (drop_member k ms)))) [ true ↦ p.1 | false ↦ (p.0, MembersNarrow-drop k ms p.1) ]

pub IsProper-with_key : (k : List ℕ) (v d : Data) → IsProper v → IsProper d → IsProper (with_key k v d)
IsProper-with_key k v null h p = tt
IsProper-with_key k v (flag b) h p = tt
IsProper-with_key k v (whole z) h p = tt
IsProper-with_key k v (words s) h p = tt
IsProper-with_key k v (list ds) h p = p
IsProper-with_key k v (dict ms) h p = (MembersProper-put k v ms h p.0, Rise-put k v ms p.1)

pub IsProper-without_key : (k : List ℕ) (d : Data) → IsProper d → IsProper (without_key k d)
IsProper-without_key k null p = tt
IsProper-without_key k (flag b) p = tt
IsProper-without_key k (whole z) p = tt
IsProper-without_key k (words s) p = tt
IsProper-without_key k (list ds) p = p
IsProper-without_key k (dict ms) p = (MembersProper-drop k ms p.0, Rise-drop k ms p.1)

pub IsNarrow-with_key : (k : List ℕ) (v d : Data) → IsNarrow v → IsNarrow d → IsNarrow (with_key k v d)
IsNarrow-with_key k v null h p = tt
IsNarrow-with_key k v (flag b) h p = tt
IsNarrow-with_key k v (whole z) h p = p
IsNarrow-with_key k v (words s) h p = tt
IsNarrow-with_key k v (list ds) h p = p
IsNarrow-with_key k v (dict ms) h p = MembersNarrow-put k v ms h p

pub IsNarrow-without_key : (k : List ℕ) (d : Data) → IsNarrow d → IsNarrow (without_key k d)
IsNarrow-without_key k null p = tt
IsNarrow-without_key k (flag b) p = tt
IsNarrow-without_key k (whole z) p = p
IsNarrow-without_key k (words s) p = tt
IsNarrow-without_key k (list ds) p = p
IsNarrow-without_key k (dict ms) p = MembersNarrow-drop k ms p
