-- What holds whatever the answer is.
use Rattle.std.specs.Prelude.{◌≡◌, ⊤, IfOk, OnErr, Result, Ok, Err}
use Rattle.std.proofs.Common.{refl}

-- what holds of each value holds of an answer that is there
pub if_any : {T E : Type 0} (r : Result T E) → IfOk r (λ x. ⊤)
if_any (Ok x) = tt
if_any (Err e) = tt

-- what holds anyway holds of an error
pub err_any : {T E : Type 0} (P : Type 0) (r : Result T E) → P → OnErr r P
err_any P (Ok x) h = tt
err_any P (Err e) h = h

-- where what came of a call is known, the rest stays as it was
pub if_still : {A B D : Type 0} (d : D) (y : A) (r : Result A B) → IfOk r (λ x. x ≡ y) → IfOk r (λ x. (d ≡ d) × (x ≡ y))
if_still d y (Ok x) h = (refl, h)
if_still d y (Err e) h = tt
