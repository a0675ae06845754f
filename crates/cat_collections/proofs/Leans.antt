-- How many items there are on each side where a tree that leans is turned.
use Rattle.std.proofs.Common.{◌≡◌, ℕ, ◌+◌, ◌*◌, ◌<◌, ◌≤◌, List, ◌∷◌, ◌++◌, length, length-append, sym, ap, subst, ◌∙◌, arith}
use Rattle.std.specs.Arc.{arc_value}
use Rattle.std.specs.declared.option.Option.{Option}
use Rattle.std.specs.declared.option.Option.TheVariants.{Some}
use Rattle.cat_collections.specs.declared.tree.Parts.{Parts}
use Rattle.cat_collections.specs.Parts.{IsBalanced, parted}
use Rattle.cat_collections.specs.Tree.{Balance}

-- a tree that was taken apart: how many items it has, and how they are balanced
pub record Parted {A : Type 0} (all : List A) (p : Parts A) : Type 0 where
  pub long : length all ≡ length p.left + length p.right + 1
  pub sides : Balance (length p.left) (length p.right)

pub in_parts : {A : Type 0} {o : Option (Parts A)} {all : List A} {p : Parts A} → parted o ≡ all → IsBalanced o → o ≡ Some p → Parted all p
in_parts {A} {o} {all} {p} e b is =
    let h : length all ≡ length (p.left ++ arc_value p.item ∷ p.right) = ap length (sym e ∙ ap parted is) in
    record { long = omega (arith, length-append p.left (arc_value p.item ∷ p.right)); sides = subst IsBalanced is b }

-- one item goes over, to the left
pub low_turn : (l r a b n m most : ℕ) → l + r < most → 3 * l + 2 < r → r ≤ 3 * l + 5 → r ≡ a + b + 1 → Balance a b → n ≡ a → m ≡ b → n ≤ 2 * m
    → (l + a + b + 1 < most) × Balance l a × Balance (l + a + 1) b
low_turn l r a b n m most h1 h2 h3 h4 h5 h6 h7 h8 = (omega arith, (omega arith, omega arith), (omega arith, omega arith))

-- one item goes over, to the right
pub high_turn : (l r a b n m most : ℕ) → l + r < most → 3 * r + 2 < l → l ≤ 3 * r + 5 → l ≡ a + b + 1 → Balance a b → n ≡ b → m ≡ a → n ≤ 2 * m
    → (a + b + r + 1 < most) × Balance b r × Balance a (b + r + 1)
high_turn l r a b n m most h1 h2 h3 h4 h5 h6 h7 h8 = (omega arith, (omega arith, omega arith), (omega arith, omega arith))

-- the near half of the right side goes over, to the left
pub low_turns : (l r a b i j n m most : ℕ) → l + r < most → 3 * l + 2 < r → r ≤ 3 * l + 5 → r ≡ a + b + 1 → Balance a b → n ≡ a → m ≡ b → 2 * m < n → a ≡ i + j + 1 → Balance i j
    → (l + i + j + b + 2 < most) × Balance l i × Balance j b × Balance (l + i + 1) (j + b + 1)
low_turns l r a b i j n m most h1 h2 h3 h4 h5 h6 h7 h8 h9 h10 = (omega arith, (omega arith, omega arith), (omega arith, omega arith), (omega arith, omega arith))

-- the near half of the left side goes over, to the right
pub high_turns : (l r a b i j n m most : ℕ) → l + r < most → 3 * r + 2 < l → l ≤ 3 * r + 5 → l ≡ a + b + 1 → Balance a b → n ≡ b → m ≡ a → 2 * m < n → b ≡ i + j + 1 → Balance i j
    → (a + i + j + r + 2 < most) × Balance a i × Balance j r × Balance (a + i + 1) (j + r + 1)
high_turns l r a b i j n m most h1 h2 h3 h4 h5 h6 h7 h8 h9 h10 = (omega arith, (omega arith, omega arith), (omega arith, omega arith), (omega arith, omega arith))
