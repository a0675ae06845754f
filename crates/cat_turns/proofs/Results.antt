-- A fact of an answer that follows from another one of it.
use Rattle.std.proofs.Common.{IfOk, IfErr}
use Rattle.std.specs.declared.result.Result.{Result}
use Rattle.std.specs.declared.result.Result.TheVariants.{Ok, Err}

module _ {T E : Type 0} where
  pub ok_too : (P Q : T → Type 0) (r : Result T E) → ((x : T) → P x → Q x) → IfOk r P → IfOk r Q
  ok_too P Q (Ok x) f p = f x p
  ok_too P Q (Err e) f p = tt

  pub err_too : (P Q : E → Type 0) (r : Result T E) → ((e : E) → P e → Q e) → IfErr r P → IfErr r Q
  err_too P Q (Ok x) f p = tt
  err_too P Q (Err e) f p = f e p

  pub ok_both : (P Q R : T → Type 0) (r : Result T E) → ((x : T) → P x → Q x → R x) → IfOk r P → IfOk r Q → IfOk r R
  ok_both P Q R (Ok x) f p q = f x p q
  ok_both P Q R (Err e) f p q = tt
