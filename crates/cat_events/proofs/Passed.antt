-- One pass over two tables in order finds the references whose holder changes.
use Rattle.std.proofs.Common.{T, ◌≡◌, ℕ, ◌+◌, ◌-◌, ◌<◌, ◌≤◌, Bool, true, false, cond, not, ◌&&◌, ◌⊎◌, inl, inr, List, [], ◌∷◌, ◌++◌, drop, take, length, get_or, refl, sym, ap, subst, ◌∙◌, nat_eq, is_some, true≢false, arith, Less, Equal, Greater}
use Rattle.std.specs.declared.option.Option.TheVariants.{None, Some}
use Rattle.std.specs.Ordering.{is_eq, ordering_reverse}
use Rattle.std.specs.List.{AllByRecursion, filter}
use Rattle.std.specs.List.Sorted.{IsStrictlySortedBy}
use Rattle.std.specs.FinMap.Entries.{is_sorted}
use Rattle.std.proofs.lemmas.List.{append_assoc, append-nil, drop_all, drop_more, length-drop, take_all}
use Rattle.cat_collections.specs.Table.{get, keys, same_text, text_cmp, text_total, text_antisymmetric}
use Rattle.cat_collections.proofs.Orders.{keys_rise}
use Rattle.cat_collections.proofs.Tables.{same_is, same_self}
use Rattle.cat_model.specs.Catalogue.{Holders, Ref, held}
use Rattle.cat_claims.specs.Claimed.{are_others, held_by_another, newly_held}

-- the reference is below each of these
abbrev IsBelow : Ref → List Ref → Type 0
IsBelow k ks = AllByRecursion (λ y. text_cmp k y ≡ Less) ks

-- what is above a reference isn't it
apart_above : (k y : Ref) → text_cmp k y ≡ Less → same_text y k ≡ false
apart_above k y h = go (same_text y k) refl
  where
    go : (b : Bool) → same_text y k ≡ b → b ≡ false
    go true e = absurd (true≢false (sym (same_self text_total text_antisymmetric k) ∙ (ap (same_text k) (sym (same_is text_total text_antisymmetric y k e)) ∙ ap is_eq h)))
    go false e = refl

-- a reference below all keys has no entry
none_below : (k : Ref) (es : Holders) → IsBelow k (keys es) → get es k ≡ None
none_below k [] h = refl
none_below k (e ∷ es) h = ap (λ c. cond (is_eq c) (Some e.1) (get es k)) h.0 ∙ none_below k es h.1

below_too : (x y : Ref) (ks : List Ref) → text_cmp x y ≡ Less → IsBelow y ks → IsBelow x ks
below_too x y [] e h = tt
below_too x y (k ∷ ks) e h = (text_total.trans x y k e h.0, below_too x y ks e h.1)

below_rest : (e : Ref × ℕ) (es : Holders) → T (is_sorted text_cmp (e ∷ es)) → IsBelow e.0 (keys es)
unfolding IsStrictlySortedBy
below_rest e es h = (keys_rise text_total text_antisymmetric (e ∷ es) h).0

sorted_rest : (e : Ref × ℕ) (es : Holders) → T (is_sorted text_cmp (e ∷ es)) → T (is_sorted text_cmp es)
sorted_rest e es h = right_true _ _ h
  where
    right_true : (a b : Bool) → T (a && b) → T b
    right_true true b h = h
    right_true false b h = absurd h

-- tests that agree above a reference keep the same of what stands above it
filter_above : (p q : Ref → Bool) (k : Ref) (ks : List Ref) → IsBelow k ks → ((y : Ref) → text_cmp k y ≡ Less → p y ≡ q y) → filter p ks ≡ filter q ks
filter_above p q k [] h f = refl
filter_above p q k (y ∷ ys) h f = ap (λ b. cond b (y ∷ filter p ys) (filter p ys)) (f y h.0) ∙ ap (λ l. cond (q y) (y ∷ l) l) (filter_above p q k ys h.1 f)

-- an entry below a reference isn't found there
found_above : (e : Ref × ℕ) (es : Holders) (y : Ref) → text_cmp e.0 y ≡ Less → get (e ∷ es) y ≡ get es y
found_above e es y h = ap (λ b. cond b (Some e.1) (get es y)) (apart_above e.0 y h)

found_here : (e : Ref × ℕ) (es : Holders) (y : Ref) → y ≡ e.0 → get (e ∷ es) y ≡ Some e.1
found_here e es y is = ap (λ k. get (e ∷ es) k) is ∙ ap (λ b. cond b (Some e.1) (get es e.0)) (same_self text_total text_antisymmetric e.0)

-- ---- what is newly held

new_over : (e : Ref × ℕ) (was is : Holders) → IsBelow e.0 (keys is) → newly_held (e ∷ was) is ≡ newly_held was is
new_over e was is h = filter_above (λ r. not (held (e ∷ was) r)) (λ r. not (held was r)) e.0 (keys is) h (λ y l. ap (λ v. not (is_some v)) (found_above e was y l))

new_here : (e : Ref × ℕ) (was is : Holders) → IsBelow e.0 (keys was) → newly_held was (e ∷ is) ≡ e.0 ∷ newly_held was is
new_here e was is h = ap (λ v. cond (not (is_some v)) (e.0 ∷ newly_held was is) (newly_held was is)) (none_below e.0 was h)

new_both : (b a : Ref × ℕ) (was is : Holders) → a.0 ≡ b.0 → IsBelow b.0 (keys is) → newly_held (b ∷ was) (a ∷ is) ≡ newly_held was is
new_both b a was is same h = ap (λ v. cond (not (is_some v)) (a.0 ∷ newly_held (b ∷ was) is) (newly_held (b ∷ was) is)) (found_here b was a.0 same) ∙ new_over b was is h

new_all : (ks : List Ref) → filter (λ r. not (held [] r)) ks ≡ ks
new_all [] = refl
new_all (k ∷ ks) = ap (λ l. k ∷ l) (new_all ks)

-- ---- what another row holds

other_over : (e : Ref × ℕ) (was is : Holders) → IsBelow e.0 (keys is) → held_by_another (e ∷ was) is ≡ held_by_another was is
other_over e was is h = filter_above (λ r. are_others (get (e ∷ was) r) (get is r)) (λ r. are_others (get was r) (get is r)) e.0 (keys is) h (λ y l. ap (λ v. are_others v (get is y)) (found_above e was y l))

other_rest : (e : Ref × ℕ) (was is : Holders) → IsBelow e.0 (keys is) → filter (λ r. are_others (get was r) (get (e ∷ is) r)) (keys is) ≡ held_by_another was is
other_rest e was is h = filter_above (λ r. are_others (get was r) (get (e ∷ is) r)) (λ r. are_others (get was r) (get is r)) e.0 (keys is) h (λ y l. ap (are_others (get was y)) (found_above e is y l))

other_new : (e : Ref × ℕ) (was is : Holders) → IsBelow e.0 (keys was) → IsBelow e.0 (keys is) → held_by_another was (e ∷ is) ≡ held_by_another was is
other_new e was is h g =
    let rest = filter (λ r. are_others (get was r) (get (e ∷ is) r)) (keys is) in
    ap (λ v. cond (are_others v (get (e ∷ is) e.0)) (e.0 ∷ rest) rest) (none_below e.0 was h) ∙ other_rest e was is g

other_both : (b a : Ref × ℕ) (was is : Holders) → a.0 ≡ b.0 → IsBelow a.0 (keys is) → IsBelow b.0 (keys is)
    → held_by_another (b ∷ was) (a ∷ is) ≡ cond (not (nat_eq b.1 a.1)) (a.0 ∷ held_by_another was is) (held_by_another was is)
other_both b a was is same h g =
    let rest = filter (λ r. are_others (get (b ∷ was) r) (get (a ∷ is) r)) (keys is) in
    let gone : rest ≡ held_by_another was is = other_rest a (b ∷ was) is h ∙ other_over b was is g in
    ap (λ v. cond (are_others v (get (a ∷ is) a.0)) (a.0 ∷ rest) rest) (found_here b was a.0 same)
    ∙ (ap (λ v. cond (are_others (Some b.1) v) (a.0 ∷ rest) rest) (found_here a is a.0 refl) ∙ ap (λ l. cond (not (nat_eq b.1 a.1)) (a.0 ∷ l) l) gone)

other_none : (ks : List Ref) → filter (λ r. are_others (get [] r) None) ks ≡ []
other_none [] = refl
other_none (k ∷ ks) = other_none ks

none_was : (is : Holders) (ks : List Ref) → filter (λ r. are_others (get [] r) (get is r)) ks ≡ []
none_was is [] = refl
none_was is (k ∷ ks) = none_was is ks

-- ---- the pass

-- the references read so far, with those still to be read, are those whose holder changes
pub record IsPassed (before after was is : Holders) (news gone others : List Ref) : Type 0 where
  pub was_in_order : T (is_sorted text_cmp was)
  pub is_in_order : T (is_sorted text_cmp is)
  pub fresh : news ++ newly_held was is ≡ newly_held before after
  pub leaving : gone ++ newly_held is was ≡ newly_held after before
  pub moved : others ++ held_by_another was is ≡ held_by_another before after

pub passed_begins : (before after : Holders) → is_sorted text_cmp before ≡ true → is_sorted text_cmp after ≡ true → IsPassed before after before after [] [] []
passed_begins before after h g = record { was_in_order = subst T (sym h) tt; is_in_order = subst T (sym g) tt; fresh = refl; leaving = refl; moved = refl }

one_more : (l : List Ref) (x : Ref) (xs ys zs : List Ref) → xs ≡ x ∷ ys → l ++ xs ≡ zs → (l ++ x ∷ []) ++ ys ≡ zs
one_more l x xs ys zs e h = append_assoc l (x ∷ []) ys ∙ (ap (λ v. l ++ v) (sym e) ∙ h)

as_many : (l xs ys zs : List Ref) → xs ≡ ys → l ++ xs ≡ zs → l ++ ys ≡ zs
as_many l xs ys zs e h = ap (λ v. l ++ v) (sym e) ∙ h

less_back : (x y : Ref) → text_cmp x y ≡ Greater → text_cmp y x ≡ Less
less_back x y h = text_total.antisymm y x ∙ ap ordering_reverse h

module _ (before after : Holders) (b a : Ref × ℕ) (was is : Holders) (news gone others : List Ref) (p : IsPassed before after (b ∷ was) (a ∷ is) news gone others) where
  passed_less : text_cmp b.0 a.0 ≡ Less → IsPassed before after was (a ∷ is) news (gone ++ b.0 ∷ []) others
  passed_less l =
      let below : IsBelow b.0 (keys (a ∷ is)) = (l, below_too b.0 a.0 (keys is) l (below_rest a is p.is_in_order)) in
      record {
        was_in_order = sorted_rest b was p.was_in_order;
        is_in_order = p.is_in_order;
        fresh = as_many news _ _ _ (new_over b was (a ∷ is) below) p.fresh;
        leaving = one_more gone b.0 _ _ _ (new_here b (a ∷ is) was below) p.leaving;
        moved = as_many others _ _ _ (other_over b was (a ∷ is) below) p.moved;
      }

  passed_greater : text_cmp b.0 a.0 ≡ Greater → IsPassed before after (b ∷ was) is (news ++ a.0 ∷ []) gone others
  passed_greater l =
      let up : text_cmp a.0 b.0 ≡ Less = less_back b.0 a.0 l in
      let below : IsBelow a.0 (keys (b ∷ was)) = (up, below_too a.0 b.0 (keys was) up (below_rest b was p.was_in_order)) in
      record {
        was_in_order = p.was_in_order;
        is_in_order = sorted_rest a is p.is_in_order;
        fresh = one_more news a.0 _ _ _ (new_here a (b ∷ was) is below) p.fresh;
        leaving = as_many gone _ _ _ (new_over a is (b ∷ was) below) p.leaving;
        moved = as_many others _ _ _ (other_new a (b ∷ was) is below (below_rest a is p.is_in_order)) p.moved;
      }

  passed_equal : text_cmp b.0 a.0 ≡ Equal → IsPassed before after was is news gone (cond (not (nat_eq b.1 a.1)) (others ++ a.0 ∷ []) others)
  passed_equal e =
      let same : b.0 ≡ a.0 = text_antisymmetric b.0 a.0 e in
      let above : IsBelow a.0 (keys is) = below_rest a is p.is_in_order in
      let above_b : IsBelow b.0 (keys is) = subst (λ k. IsBelow k (keys is)) (sym same) above in
      let above_a : IsBelow a.0 (keys was) = subst (λ k. IsBelow k (keys was)) same (below_rest b was p.was_in_order) in
      record {
        was_in_order = sorted_rest b was p.was_in_order;
        is_in_order = sorted_rest a is p.is_in_order;
        fresh = as_many news _ _ _ (new_both b a was is (sym same) above_b) p.fresh;
        leaving = as_many gone _ _ _ (new_both a b is was same above_a) p.leaving;
        moved = by_test (not (nat_eq b.1 a.1)) (other_both b a was is (sym same) above above_b);
      }
    where
      by_test : (t : Bool) → held_by_another (b ∷ was) (a ∷ is) ≡ cond t (a.0 ∷ held_by_another was is) (held_by_another was is)
          → cond t (others ++ a.0 ∷ []) others ++ held_by_another was is ≡ held_by_another before after
      by_test true e = one_more others a.0 _ _ _ e p.moved
      by_test false e = as_many others _ _ _ e p.moved

-- ---- the pass by places

module _ (before after : Holders) (i j : ℕ) (b a : Ref × ℕ) (news gone others : List Ref) (x : Ref) (p : IsPassed before after (drop i before) (drop j after) news gone others) where
  abbrev IsHere : Type 0
  IsHere = (i < length before) × (j < length after) × (b ≡ get_or before i b) × (a ≡ get_or after j a)

  here_was : IsHere → drop i before ≡ b ∷ drop (i + 1) before
  here_was h = drop_more before i b h.0 ∙ (λ k. sym h.2 k ∷ drop (i + 1) before)

  here_is : IsHere → drop j after ≡ a ∷ drop (j + 1) after
  here_is h = drop_more after j a h.1 ∙ (λ k. sym h.3 k ∷ drop (j + 1) after)

  here : IsHere → IsPassed before after (b ∷ drop (i + 1) before) (a ∷ drop (j + 1) after) news gone others
  here h = subst (λ w. IsPassed before after w (a ∷ drop (j + 1) after) news gone others) (here_was h) (subst (λ w. IsPassed before after (drop i before) w news gone others) (here_is h) p)

  -- a reference that is held before alone
  pub less_at : IsHere → Less ≡ text_cmp b.0 a.0 → x ≡ b.0 → (gone' : List Ref) → gone' ≡ gone ++ x ∷ [] → IsPassed before after (drop (i + 1) before) (drop j after) news gone' others
  less_at h l is gone' e =
      let now : IsPassed before after (drop (i + 1) before) (drop j after) news (gone ++ b.0 ∷ []) others =
      subst (λ w. IsPassed before after (drop (i + 1) before) w news (gone ++ b.0 ∷ []) others) (sym (here_is h))
      (passed_less before after b a (drop (i + 1) before) (drop (j + 1) after) news gone others (here h) (sym l)) in
      subst (λ g. IsPassed before after (drop (i + 1) before) (drop j after) news g others) (sym (e ∙ ap (λ r. gone ++ r ∷ []) is)) now

  -- a reference that is held after alone
  pub greater_at : IsHere → Greater ≡ text_cmp b.0 a.0 → x ≡ a.0 → (news' : List Ref) → news' ≡ news ++ x ∷ [] → IsPassed before after (drop i before) (drop (j + 1) after) news' gone others
  greater_at h l is news' e =
      let now : IsPassed before after (drop i before) (drop (j + 1) after) (news ++ a.0 ∷ []) gone others =
      subst (λ w. IsPassed before after w (drop (j + 1) after) (news ++ a.0 ∷ []) gone others) (sym (here_was h))
      (passed_greater before after b a (drop (i + 1) before) (drop (j + 1) after) news gone others (here h) (sym l)) in
      subst (λ n. IsPassed before after (drop i before) (drop (j + 1) after) n gone others) (sym (e ∙ ap (λ r. news ++ r ∷ []) is)) now

  -- a reference that is held before and after
  pub equal_at : IsHere → Equal ≡ text_cmp b.0 a.0 → (others' : List Ref) → others' ≡ cond (not (nat_eq b.1 a.1)) (others ++ a.0 ∷ []) others
      → IsPassed before after (drop (i + 1) before) (drop (j + 1) after) news gone others'
  equal_at h l others' e =
      subst (λ o. IsPassed before after (drop (i + 1) before) (drop (j + 1) after) news gone o) (sym e)
      (passed_equal before after b a (drop (i + 1) before) (drop (j + 1) after) news gone others (here h) (sym l))

-- ---- its end

whole : (es : Holders) (i : ℕ) → take (length es - i) (drop i es) ≡ drop i es
whole es i = take_all (length es - i) (drop i es) (omega (arith, length-drop i es))

all_new : (was is : Holders) → (was ≡ []) ⊎ (is ≡ []) → newly_held was is ≡ keys is
all_new was is (inl e) = ap (λ w. newly_held w is) e ∙ new_all (keys is)
all_new was is (inr e) = ap (newly_held was) e ∙ sym (ap keys e)

no_other : (was is : Holders) → (was ≡ []) ⊎ (is ≡ []) → held_by_another was is ≡ []
no_other was is (inl e) = ap (λ w. held_by_another w is) e ∙ none_was is (keys is)
no_other was is (inr e) = ap (held_by_another was) e

module _ (before after : Holders) (i j : ℕ) (news gone others : List Ref) (p : IsPassed before after (drop i before) (drop j after) news gone others) (end : (length before ≤ i) ⊎ (length after ≤ j)) where
  none_left : (length before ≤ i) ⊎ (length after ≤ j) → (drop i before ≡ []) ⊎ (drop j after ≡ [])
  none_left (inl h) = inl (drop_all i before h)
  none_left (inr h) = inr (drop_all j after h)

  turned : (drop i before ≡ []) ⊎ (drop j after ≡ []) → (drop j after ≡ []) ⊎ (drop i before ≡ [])
  turned (inl h) = inr h
  turned (inr h) = inl h

  pub ended_fresh : news ++ keys (take (length after - j) (drop j after)) ≡ newly_held before after
  ended_fresh = ap (λ l. news ++ l) (ap keys (whole after j) ∙ sym (all_new (drop i before) (drop j after) (none_left end))) ∙ p.fresh

  pub ended_leaving : gone ++ keys (take (length before - i) (drop i before)) ≡ newly_held after before
  ended_leaving = ap (λ l. gone ++ l) (ap keys (whole before i) ∙ sym (all_new (drop j after) (drop i before) (turned (none_left end)))) ∙ p.leaving

  pub ended_moved : others ≡ held_by_another before after
  ended_moved = sym (append-nil others) ∙ (ap (λ l. others ++ l) (sym (no_other (drop i before) (drop j after) (none_left end))) ∙ p.moved)
