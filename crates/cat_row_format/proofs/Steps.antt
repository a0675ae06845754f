-- Tests that hold, and loops that put what they make of each tree at the end of a list.
use Rattle.std.proofs.Common.{◌≡◌, List, [], ◌∷◌, ◌++◌, Result, Ok, Err, true, false, true≢false, refl, sym, ap, append_assoc}
use Rattle.std.specs.Prelude.{Bool, ◌&&◌, not}
use Rattle.cat_row_format.specs.Parsed.{and_then, with_front, onto}
use Rattle.cat_row_format.specs.declared.row.RowFault.{RowFault}

-- one more at the end of the front
pub with_front-push : {A : Type 0} (xs : List A) (x : A) (more : Result (List A) RowFault) → with_front (xs ++ x ∷ []) more ≡ with_front xs (onto (Ok x) more)
with_front-push xs x (Ok ys) = ap Ok (append_assoc xs (x ∷ []) ys)
with_front-push xs x (Err e) = refl

pub both : (a b : Bool) → (a && b) ≡ true → (a ≡ true) × (b ≡ true)
both true b e = (refl, e)
both false b e = absurd (true≢false (sym e))

pub flipped : (b : Bool) → not b ≡ true → b ≡ false
flipped true e = absurd (true≢false (sym e))
flipped false e = refl
