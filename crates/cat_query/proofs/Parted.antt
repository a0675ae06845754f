-- Filters that are read one after the other, and numbers of many digits.
use Rattle.std.proofs.Common.{◌≡◌, ℕ, ◌*◌, ◌+◌, ◌-◌, List, [], ◌∷◌, ◌++◌, Result, Ok, Err, min, fold, ◌<◌, length, get_or, drop, ap, sym, ◌∙◌, arith}
use Rattle.std.proofs.lemmas.List.{drop_more}
use Rattle.cat_search.specs.declared.condition.Condition.{Condition}
use Rattle.cat_query.specs.declared.fault.QueryFault.{QueryFault}
use Rattle.cat_query.specs.Query.{with_digit}

-- these filters come before the others
abbrev pub after_filters : List (List Condition) → Result (List (List Condition)) QueryFault → Result (List (List Condition)) QueryFault
after_filters fs (Ok gs) = Ok (fs ++ gs)
after_filters fs (Err e) = Err e

one_digit : (a b d : ℕ) → min a 1001 ≡ min b 1001 → min (with_digit a d) 1001 ≡ min (with_digit b d) 1001
one_digit a b d h = omega (arith, h)

-- numbers that are the same up to 1,001 are so with more digits
pub more_digits : (ds : List ℕ) (a b : ℕ) → min a 1001 ≡ min b 1001 → min (fold with_digit a ds) 1001 ≡ min (fold with_digit b ds) 1001
more_digits [] a b h = h
more_digits (d ∷ ds) a b h = more_digits ds (with_digit a d) (with_digit b d) (one_digit a b d h)

-- one digit more of a number that is kept up to 1,001
pub digit_more : (ds : List ℕ) (i a m n : ℕ) → i < length ds → m ≡ min (a * 10 + (get_or ds i 0 - 48)) 1001 → min (fold with_digit a (drop i ds)) 1001 ≡ n → min (fold with_digit m (drop (i + 1) ds)) 1001 ≡ n
digit_more ds i a m n h is was =
    more_digits (drop (i + 1) ds) m (with_digit a (get_or ds i 0)) (omega (arith, is))
    ∙ ap (λ l. min (fold with_digit a l) 1001) (sym (drop_more ds i 0 h))
    ∙ was
