-- What a step over the items of a tree comes to.
use Rattle.std.proofs.Common.{◌≡◌, ℕ, zero, suc, ◌+◌, ◌-◌, ◌<◌, ◌≤◌, List, [], ◌∷◌, ◌++◌, drop, length, refl, sym, ap, subst, ◌∙◌, arith, append_assoc, length-drop}
use Rattle.std.specs.Arc.{arc_value}
use Rattle.std.specs.Prelude.{slice_get, IfSome}
use Rattle.std.specs.declared.alloc.Global.{Global}
use Rattle.std.specs.declared.option.Option.{Option}
use Rattle.std.specs.declared.option.Option.TheVariants.{None, Some}
use Rattle.std.specs.declared.sync.Arc.{Arc}
use Rattle.std.proofs.lemmas.List.{drop_all, drop-append-le}
use Rattle.std.proofs.lemmas.Option.{none-some}
use Rattle.std.proofs.Math.Seq.{drop-append-add}
use Rattle.cat_collections.proofs.Sides.{drop_get}
use Rattle.cat_collections.specs.Left.{step_left}
use Rattle.cat_collections.specs.Tree.{IsSized, items}
use Rattle.cat_collections.specs.declared.tree.Fork.{Fork}
use Rattle.cat_collections.specs.declared.tree.Node.{Node}
use Rattle.cat_collections.specs.declared.tree.Node.TheVariants.{Fork as Node-Fork}
use Rattle.cat_collections.specs.declared.tree.Step.{Step}

append_nil : {A : Type 0} (xs : List A) → xs ++ [] ≡ xs
append_nil [] = refl
append_nil (x ∷ xs) = ap (λ l. x ∷ l) (append_nil xs)

-- a part that is small is all that is left of itself
pub step_small : {A : Type 0} (xs : List A) (i n : ℕ) (x : A) → slice_get xs i ≡ Some x → n ≡ length xs → x ∷ (drop (i + 1) xs ++ drop n xs) ≡ drop i xs
step_small xs i n x e h =
    ap (λ l. x ∷ (drop (i + 1) xs ++ l)) (drop_all n xs (omega arith)) ∙ (ap (λ l. x ∷ l) (append_nil (drop (i + 1) xs)) ∙ sym (drop_get xs i x e))

-- where there is no item, none is left
pub step_past : {A : Type 0} (xs : List A) (i : ℕ) → slice_get xs i ≡ None → [] ≡ drop i xs
step_past [] i e = sym (drop_all i [] (omega arith))
step_past (x ∷ xs) zero e = absurd (none-some _ (sym e))
step_past (x ∷ xs) (suc i) e = step_past xs i e

-- the items of a fork that is opened
pub opened_is : {A : Type 0} {n : Node A} {all : List A} {f : Arc (Fork A) Global} {d : Fork A} → items n ≡ all → n ≡ Node-Fork f → d ≡ arc_value f → all ≡ d.left ++ arc_value d.item ∷ d.right
opened_is {A} view is fork_is = sym view ∙ (ap items is ∙ ap (λ (x : Fork A). x.left ++ arc_value x.item ∷ x.right) (sym fork_is))

-- the size that a fork that is opened has stored
pub size_is : {A : Type 0} {n : Node A} {all : List A} {f : Arc (Fork A) Global} {d : Fork A} → items n ≡ all → n ≡ Node-Fork f → d ≡ arc_value f → IsSized n → d.size ≡ length all
size_is {A} view is fork_is sized = let s = subst IsSized is sized in ap (λ (x : Fork A). x.size) fork_is ∙ (s.0 ∙ ap length (sym (ap items is) ∙ view))

-- a step among the items before one
pub step_before : {A : Type 0} (l : List A) (y : A) (r : List A) (i : ℕ) (s : Option (Step A)) → i < length l → step_left l s ≡ drop i l → IfSome s (λ p. p.behind ≤ length l)
    → step_left (l ++ y ∷ r) s ≡ drop i (l ++ y ∷ r)
step_before l y r i None h e b = absurd (omega (arith, h, ap length e, length-drop i l))
step_before l y r i (Some s) h e b =
    ap (λ k. s.item.now ∷ (drop s.place s.part.now ++ k)) (drop-append-le s.behind l (y ∷ r) b)
    ∙ (ap (λ k. s.item.now ∷ k) (sym (append_assoc (drop s.place s.part.now) (drop s.behind l) (y ∷ r)))
    ∙ (ap (λ k. k ++ y ∷ r) e ∙ sym (drop-append-le i l (y ∷ r) (omega arith))))

-- the step to an item between others
pub step_here : {A : Type 0} (l : List A) (y : A) (r : List A) (i n : ℕ) → i ≡ length l → length (l ++ y ∷ r) ≤ n → y ∷ (drop n (l ++ y ∷ r) ++ drop (i + 1) (l ++ y ∷ r)) ≡ drop i (l ++ y ∷ r)
step_here l y r i n h k =
    ap (λ m. y ∷ (m ++ drop (i + 1) (l ++ y ∷ r))) (drop_all n (l ++ y ∷ r) k)
    ∙ (ap (λ m. y ∷ drop (m + 1) (l ++ y ∷ r)) h
    ∙ (ap (λ m. y ∷ m) (drop-append-add l (y ∷ r) 1)
    ∙ sym (ap (λ m. drop m (l ++ y ∷ r)) h ∙ drop-append-le (length l) l (y ∷ r) (omega arith) ∙ ap (λ m. m ++ y ∷ r) (drop_all (length l) l (omega arith)))))

-- a step among the items behind one
pub step_after : {A : Type 0} (l : List A) (y : A) (r : List A) (i b n : ℕ) (x : A) (ys : List A) → length l < i → n ≡ length l + 1 + b → x ∷ (ys ++ drop b r) ≡ drop (i - length l - 1) r
    → x ∷ (ys ++ drop n (l ++ y ∷ r)) ≡ drop i (l ++ y ∷ r)
step_after l y r i b n x ys h k e =
    let at : n ≡ length l + suc b = omega arith in
    let from : i ≡ length l + suc (i - length l - 1) = omega arith in
    ap (λ m. x ∷ (ys ++ drop m (l ++ y ∷ r))) at
    ∙ (ap (λ m. x ∷ (ys ++ m)) (drop-append-add l (y ∷ r) (suc b))
    ∙ (e ∙ sym (ap (λ m. drop m (l ++ y ∷ r)) from ∙ drop-append-add l (y ∷ r) (suc (i - length l - 1)))))

-- where none is left of the items behind one, none is left of all
pub step_none : {A : Type 0} (l : List A) (y : A) (r : List A) (i : ℕ) → length l < i → [] ≡ drop (i - length l - 1) r → [] ≡ drop i (l ++ y ∷ r)
step_none l y r i h e =
    let from : i ≡ length l + suc (i - length l - 1) = omega arith in
    e ∙ sym (ap (λ m. drop m (l ++ y ∷ r)) from ∙ drop-append-add l (y ∷ r) (suc (i - length l - 1)))

-- the items of a part that isn't spent, and then those behind it
pub part_left : {A : Type 0} (xs : List A) (i : ℕ) (x : A) (ys : List A) → slice_get xs i ≡ Some x → drop i xs ++ ys ≡ x ∷ (drop (i + 1) xs ++ ys)
part_left xs i x ys e = ap (λ l. l ++ ys) (drop_get xs i x e)

-- where a part is spent, those behind it are left
pub part_spent : {A : Type 0} (xs : List A) (i : ℕ) (ys : List A) → length xs ≤ i → drop i xs ++ ys ≡ ys
part_spent xs i ys h = ap (λ l. l ++ ys) (drop_all i xs h)
