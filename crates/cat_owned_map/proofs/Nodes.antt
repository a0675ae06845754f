-- A node that is opened: its item, and what stands on its sides.
use Rattle.std.proofs.Common.{◌≡◌, ℕ, zero, suc, ◌+◌, ◌≤◌, ◌-◌, ◌<◌, List, [], ◌∷◌, ◌++◌, length, length-append, refl, sym, ap, subst, ◌∙◌, true, arith}
use Rattle.std.specs.Prelude.{IsSome, slice_get}
use Rattle.std.specs.declared.option.Option.{Option}
use Rattle.std.specs.declared.option.Option.TheVariants.{None, Some}
use Rattle.std.specs.declared.alloc.Global.{Global}
use Rattle.std.specs.declared.boxed.Box.{Box}
use Rattle.std.specs.declared.cmp.Ordering.{Ordering}
use Rattle.std.specs.FinMap.Entries.{is_sorted}
use Rattle.cat_owned_map.specs.declared.boxed.Fork.{Fork}
use Rattle.cat_owned_map.specs.declared.boxed.Link.{Link}
use Rattle.cat_owned_map.specs.declared.boxed.Link.TheVariants.{Fork as Link-Fork}
use Rattle.std.specs.List.{remove}
use Rattle.std.proofs.Math.ListN.{set}
use Rattle.std.proofs.lemmas.List.{set-append_left}
use Rattle.std.proofs.lemmas.List.Edits.{length-remove}
use Rattle.cat_collections.proofs.Sides.{set_after, set_here}
use Rattle.cat_owned_map.specs.Boxed.{held, items}
use Rattle.cat_collections.proofs.Searched.{AtFork}

pub at_node : {K X : Type 0} {R : K → K → Ordering} {n : Link (K × X)} {all : List (K × X)} {f : Box (Fork (K × X)) Global} {d : Fork (K × X)} {e : K × X}
    → items n ≡ all → n ≡ Link-Fork f → d ≡ f.value → d.item ≡ Some e → is_sorted R all ≡ true → AtFork R all d.left e d.right
at_node {K} {X} {R} {n} {all} {f} {d} {e} view is fork_is item_is h =
    let p : all ≡ d.left ++ e ∷ d.right =
    sym view ∙ (ap items is ∙ (ap (λ (x : Fork (K × X)). x.left ++ (held x.item ++ x.right)) (sym fork_is) ∙ ap (λ o. d.left ++ (held o ++ d.right)) item_is)) in
    record { is = p; sorted = subst (λ l. is_sorted R l ≡ true) p h; shorter = rw p (omega (arith, length-append d.left (e ∷ d.right))) }

-- ---- the item at a place, by how the place stands to the sides

get_front : {E : Type 0} (l m : List E) (i : ℕ) → i < length l → slice_get (l ++ m) i ≡ slice_get l i
get_front [] m i h = absurd (omega arith)
get_front (x ∷ l) m zero h = refl
get_front (x ∷ l) m (suc i) h = get_front l m i (omega arith)

get_back : {E : Type 0} (l m : List E) (i : ℕ) → slice_get (l ++ m) (length l + i) ≡ slice_get m i
get_back [] m i = let at : 0 + i ≡ i = omega arith in ap (slice_get m) at
get_back (x ∷ l) m i = let at : suc (length l) + i ≡ suc (length l + i) = omega arith in ap (slice_get (x ∷ (l ++ m))) at ∙ get_back l m i

pub item_left : {E : Type 0} (l m all : List E) (i : ℕ) (x : E) → l ++ m ≡ all → i < length l → slice_get l i ≡ Some x → slice_get all i ≡ Some x
item_left l m all i x is within e = sym (ap (λ a. slice_get a i) is) ∙ (get_front l m i within ∙ e)

pub item_here : {E : Type 0} (l : List E) (o : Option E) (r all : List E) (i : ℕ) (x : E) → l ++ (held o ++ r) ≡ all → i ≡ length l → o ≡ Some x → slice_get all i ≡ Some x
item_here l o r all i x is at e =
    let place : length l + 0 ≡ i = omega arith in
    sym (ap (λ a. slice_get a i) is)
    ∙ (sym (ap (slice_get (l ++ (held o ++ r))) place) ∙ (get_back l (held o ++ r) 0 ∙ ap (λ p. slice_get (held p ++ r) 0) e))

pub item_right : {E : Type 0} (l : List E) (o : Option E) (r all : List E) (i n : ℕ) (x : E) → l ++ (held o ++ r) ≡ all → IsSome o → n ≡ length l → n < i → slice_get r (i - n - 1) ≡ Some x → slice_get all i ≡ Some x
item_right l None r all i n x is some at past e = absurd (cc)
item_right l (Some y) r all i n x is some at past e =
    let place : length l + suc (i - n - 1) ≡ i = omega arith in
    sym (ap (λ a. slice_get a i) is) ∙ (sym (ap (slice_get (l ++ y ∷ r)) place) ∙ (get_back l (y ∷ r) (suc (i - n - 1)) ∙ e))

-- ---- another item at a place

pub set_left : {E : Type 0} (l m : List E) (i : ℕ) (x : E) → i < length l → set (l ++ m) i x ≡ set l i x ++ m
set_left l m i x h = set-append_left l m i x h

pub set_held : {E : Type 0} (l : List E) (o : Option E) (r : List E) (i : ℕ) (x : E) → IsSome o → i ≡ length l → set (l ++ (held o ++ r)) i x ≡ l ++ x ∷ r
set_held l None r i x some at = absurd (cc)
set_held l (Some y) r i x some at = set_here l y r i x at

pub set_right : {E : Type 0} (l : List E) (o : Option E) (r : List E) (i n : ℕ) (x : E) → IsSome o → n ≡ length l → n < i → set (l ++ (held o ++ r)) i x ≡ l ++ (held o ++ set r (i - n - 1) x)
set_right l None r i n x some at past = absurd (cc)
set_right l (Some y) r i n x some at past =
    let past' : length l < i = omega arith in
    set_after l y r i x past' ∙ ap (λ m. l ++ y ∷ set r (i - m - 1) x) (sym at)

-- ---- room beside what is taken out

one_held : {E : Type 0} (o : Option E) → IsSome o → length (held o) ≡ 1
one_held None h = absurd (cc)
one_held (Some x) h = refl

sizes : {E : Type 0} (l : List E) (o : Option E) (r all : List E) → IsSome o → l ++ (held o ++ r) ≡ all → length all ≡ length l + 1 + length r
sizes l o r all some is =
    let n : length all ≡ length (l ++ (held o ++ r)) = ap length (sym is) in
    omega (arith, n, one_held o some, length-append l (held o ++ r), length-append (held o) r)

pub room_left : {E : Type 0} (l : List E) (o : Option E) (r all k : List E) (i most : ℕ) → IsSome o → l ++ (held o ++ r) ≡ all → length all ≤ most → i < length l → k ≡ remove l i → length k + length r < most
room_left l o r all k i most some is all_most within e =
    let n : length k ≡ length (remove l i) = ap length e in
    omega (arith, n, sizes l o r all some is, length-remove l i within)

pub room_right : {E : Type 0} (l : List E) (o : Option E) (r all k : List E) (i most : ℕ) → IsSome o → l ++ (held o ++ r) ≡ all → length all ≤ most → i < length r → k ≡ remove r i → length l + length k < most
room_right l o r all k i most some is all_most within e =
    let n : length k ≡ length (remove r i) = ap length e in
    omega (arith, n, sizes l o r all some is, length-remove r i within)

-- a place past the item lies on the right
pub on_right : {E : Type 0} (l : List E) (o : Option E) (r all : List E) (i n : ℕ) → IsSome o → l ++ (held o ++ r) ≡ all → i < length all → n ≡ length l → n < i → i - n - 1 < length r
on_right l o r all i n some is within at past = omega (arith, sizes l o r all some is)
