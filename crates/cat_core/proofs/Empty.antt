-- A list is empty where it has no length.
use Rattle.std.proofs.Common.{◌≡◌, ℕ, suc, false, List, [], ◌∷◌, length, nat_eq, refl, arith}
use Rattle.std.proofs.lemmas.Bool.Decides.{nat_tests}
use Rattle.cat_model.specs.Settle.{is_empty}

no_zero : (n : ℕ) → nat_eq (suc n) 0 ≡ false
no_zero n = grind (arith, nat_tests)

pub is_empty-length : {A : Type 0} (l : List A) → nat_eq (length l) 0 ≡ is_empty l
is_empty-length [] = refl
is_empty-length (x ∷ xs) = no_zero (length xs)
