-- What follows from the forms of names.
use Rattle.std.proofs.Common.{◌≡◌, ℕ, ◌+◌, length, Bool, true, false, eqb, List, [], refl, sym, ap, ◌∙◌, arith}
use Rattle.std.specs.Prelude.{◌&&◌, ◌||◌}
use Rattle.std.specs.List.{position_or_len, before_first, after_first}
use Rattle.std.proofs.lemmas.List.{drop_all}
use Rattle.cat_types.specs.Names.{is_name, is_subdomain, is_key}

and_false : (a : Bool) → a && false ≡ false
and_false true = refl
and_false false = refl

pub name_empty : is_name [] ≡ false
unfolding is_name
name_empty = refl

-- after the first of what isn't there comes nothing
pub after_none : (p : ℕ → Bool) (s : List ℕ) → position_or_len p s ≡ length s → after_first p s ≡ []
after_none p s none = drop_all (position_or_len p s + 1) s (omega arith)

pub key_without_slash : (s : List ℕ) → is_name s ≡ false → position_or_len (λ b. eqb b 47) s ≡ length s → false ≡ is_key s
unfolding is_key
key_without_slash s not_name none =
    let rest : is_name (after_first (λ b. eqb b 47) s) ≡ false = ap is_name (after_none (λ b. eqb b 47) s none) ∙ name_empty in
    let both : is_subdomain (before_first (λ b. eqb b 47) s) && is_name (after_first (λ b. eqb b 47) s) ≡ false =
    ap (λ x. is_subdomain (before_first (λ b. eqb b 47) s) && x) rest ∙ and_false _ in
    sym (λ i. not_name i || both i)
