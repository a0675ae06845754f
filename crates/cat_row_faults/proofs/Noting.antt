-- Keys that are noted one after the other.
use Rattle.std.proofs.Common.{◌≡◌, ℕ, zero, suc, ◌+◌, ◌<◌, Bool, true, false, ◌==◌, cond, List, ◌∷◌, is_some, length, take, get_or, refl, sym, ap, ◌∙◌, arith, Ordering, Less, Equal, Greater, true≢false, ne_eqb}
use Rattle.std.specs.Cmp.{IsTotalOrder}
use Rattle.std.specs.FinMap.{IsAntisymmetric}
use Rattle.std.specs.FinMap.Entries.{find-put}
use Rattle.std.specs.List.{count_by}
use Rattle.std.specs.Option.{option_or}
use Rattle.std.specs.Ordering.{eq_by_cmp, is_eq}
use Rattle.std.specs.declared.option.Option.{Option}
use Rattle.std.specs.declared.option.Option.TheVariants.{None, Some}
use Rattle.std.proofs.lemmas.List.Sums.{sum_by_more}
use Rattle.cat_collections.specs.Table.{find, put}
use Rattle.cat_row_faults.specs.Told.{is_first}

is_equal : (r : Ordering) → is_eq r ≡ true → r ≡ Equal
is_equal Less e = absurd (true≢false (sym e))
is_equal Equal e = refl
is_equal Greater e = absurd (true≢false (sym e))

pub none_is : {X : Type 0} (p : Option X) → is_some p ≡ false → p ≡ None
none_is None e = refl
none_is (Some x) e = absurd (true≢false e)

-- what is noted of a key that stood so often
abbrev pub seen : ℕ → Option Bool
seen zero = None
seen (suc zero) = Some false
seen (suc (suc n)) = Some true

pub once_is : (n : ℕ) → is_first (seen n) ≡ (n == 1)
once_is zero = refl
once_is (suc zero) = refl
once_is (suc (suc n)) = sym (ne_eqb (suc (suc n)) 1 (λ e. absurd (omega (arith, e))))

once_more : (n : ℕ) → Some (is_some (seen n)) ≡ seen (n + 1)
once_more zero = refl
once_more (suc zero) = refl
once_more (suc (suc n)) = let e : suc (suc (suc n)) ≡ suc (suc n) + 1 = omega arith in ap seen e

same_more : (n : ℕ) → seen n ≡ seen (n + 0)
same_more n = let e : n ≡ n + 0 = omega arith in ap seen e

module _ {K : Type 0} {R : K → K → Ordering} (o : IsTotalOrder R) (s : IsAntisymmetric R) where
  -- a key that ties with another has what that has
  tied : {X : Type 0} (k key : K) (m : List (K × X)) → eq_by_cmp R k key ≡ true → find R k m ≡ find R key m
  tied k key m e = ap (λ x. find R x m) (s k key (is_equal _ e))

  -- a key is noted once more
  pub noted_more : (keys : List K) (i : ℕ) (key : K) (again : Bool) (made : List (K × Bool)) → i < length keys → key ≡ get_or keys i key → again ≡ is_some (find R key made)
      → ((k : K) → find R k made ≡ seen (count_by (eq_by_cmp R k) (take i keys))) → (k : K) → find R k (put R key again made) ≡ seen (count_by (eq_by_cmp R k) (take (i + 1) keys))
  noted_more keys i key again made h at w so k =
      find-put R o k key again made ∙ (go (eq_by_cmp R k key) refl ∙ ap seen (sym counted))
    where
      counted : count_by (eq_by_cmp R k) (take (i + 1) keys) ≡ count_by (eq_by_cmp R k) (take i keys) + cond (eq_by_cmp R k key) 1 0
      counted = sum_by_more (λ x. cond (eq_by_cmp R k x) 1 0) keys i key h ∙ ap (λ x. count_by (eq_by_cmp R k) (take i keys) + cond (eq_by_cmp R k x) 1 0) (sym at)

      go : (b : Bool) → eq_by_cmp R k key ≡ b → cond b (Some again) (find R k made) ≡ seen (count_by (eq_by_cmp R k) (take i keys) + cond b 1 0)
      go true e = ap Some (w ∙ ap is_some (sym (tied k key made e) ∙ so k)) ∙ once_more (count_by (eq_by_cmp R k) (take i keys))
      go false e = so k ∙ same_more (count_by (eq_by_cmp R k) (take i keys))

  -- the first entry of a key that has none yet
  pub first_new : {X : Type 0} (key : K) (v : X) (made rest : List (K × X)) → find R key made ≡ None → (k : K)
      → option_or (find R k (put R key v made)) (find R k rest) ≡ option_or (find R k made) (find R k ((key, v) ∷ rest))
  first_new key v made rest none k = ap (λ p. option_or p (find R k rest)) (find-put R o k key v made) ∙ go (eq_by_cmp R k key) refl
    where
      go : (b : Bool) → eq_by_cmp R k key ≡ b → option_or (cond b (Some v) (find R k made)) (find R k rest) ≡ option_or (find R k made) (cond b (Some v) (find R k rest))
      go true e = sym (ap (λ p. option_or p (Some v)) (tied k key made e ∙ none))
      go false e = refl

  -- an entry of a key that has one
  pub first_old : {X : Type 0} (key : K) (v : X) (made rest : List (K × X)) → is_some (find R key made) ≡ true → (k : K)
      → option_or (find R k made) (find R k rest) ≡ option_or (find R k made) (find R k ((key, v) ∷ rest))
  first_old key v made rest some k = go (eq_by_cmp R k key) refl (find R k made) refl
    where
      go : (b : Bool) → eq_by_cmp R k key ≡ b → (p : Option _) → find R k made ≡ p → option_or p (find R k rest) ≡ option_or p (cond b (Some v) (find R k rest))
      go false e p f = refl
      go true e (Some x) f = refl
      go true e None f = absurd (true≢false (sym some ∙ ap is_some (sym (tied k key made e) ∙ f)))
