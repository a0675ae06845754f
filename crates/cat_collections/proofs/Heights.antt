-- A balanced tree of n items has a height of at most the logarithm of n + 1 to the base 4/3.
use Rattle.std.proofs.Common.{◌≡◌, ℕ, ◌+◌, ◌*◌, ◌^◌, ◌≤◌, List, ◌∷◌, ◌++◌, length, length-append, sym, ap, subst, ◌∙◌, arith}
use Rattle.std.specs.Arc.{arc_value}
use Rattle.std.specs.declared.alloc.Global.{Global}
use Rattle.std.specs.declared.sync.Arc.{Arc}
use Rattle.cat_collections.specs.declared.tree.Fork.{Fork}
use Rattle.cat_collections.specs.declared.tree.Node.{Node}
use Rattle.cat_collections.specs.declared.tree.Node.TheVariants.{Fork as Node-Fork}
use Rattle.cat_collections.specs.Tree.{IsSized, items}
use Rattle.std.proofs.Math.Nat.{mul-le-mul_left, mul_assoc}
use Rattle.std.proofs.lemmas.Nat.{pow-add}

chain : (p x y : ℕ) → p ≤ x → x * 4 ≤ y → p * 4 ≤ y
chain p x y h k = omega arith

-- one level above a side of a items, where 4 (a + 1) is at most 3 (n + 1)
pub higher : (h a n : ℕ) → 4 ^ h ≤ 3 ^ h * (a + 1) → 4 * (a + 1) ≤ 3 * (n + 1) → 4 ^ (h + 1) ≤ 3 ^ (h + 1) * (n + 1)
higher h a n p q =
    let q' : (a + 1) * 4 ≤ 3 * (n + 1) = omega arith in
    let m : (3 ^ h * (a + 1)) * 4 ≤ (3 ^ h * 3) * (n + 1) = rw (mul_assoc (3 ^ h) (a + 1) 4, mul_assoc (3 ^ h) 3 (n + 1)) (mul-le-mul_left (3 ^ h) q') in
    rw (pow-add 4 h 1, pow-add 3 h 1) (chain (4 ^ h) (3 ^ h * (a + 1)) _ p m)

-- a fork that is opened: how many items it has, and how they are balanced
pub record Weighs {A : Type 0} (all : List A) (d : Fork A) : Type 0 where
  pub long : length all ≡ length d.left + length d.right + 1
  pub low : length d.left ≤ 3 * length d.right + 2
  pub high : length d.right ≤ 3 * length d.left + 2

pub weighs : {A : Type 0} {n : Node A} {all : List A} {f : Arc (Fork A) Global} {d : Fork A} → items n ≡ all → n ≡ Node-Fork f → d ≡ arc_value f → IsSized n → Weighs all d
weighs {A} {n} {all} {f} {d} view is fork_is sized =
    let s = subst IsSized is sized in
    let p : all ≡ d.left ++ arc_value d.item ∷ d.right = sym view ∙ (ap items is ∙ ap (λ (x : Fork A). x.left ++ arc_value x.item ∷ x.right) (sym fork_is)) in
    record { long = rw p (omega (arith, length-append d.left (arc_value d.item ∷ d.right))); low = rw fork_is (s.2.0); high = rw fork_is (s.2.1) }
