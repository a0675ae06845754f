-- What waits while rows claim.
use Rattle.std.proofs.Common.{T, ◌≡◌, ℕ, zero, suc, ◌+◌, ◌-◌, ◌<◌, ◌≤◌, Bool, true, false, cond, not, ◌&&◌, ◌||◌, ◌⊎◌, inl, inr, List, [], ◌∷◌, ◌++◌, length, take, get_or, refl, sym, ap, subst, ◌∙◌, is_some, unwrap_or, arith, true≢false, nat_cmp}
use Rattle.std.specs.Prelude.{slice_get}
use Rattle.std.specs.declared.option.Option.{Option}
use Rattle.std.specs.declared.option.Option.TheVariants.{None, Some}
use Rattle.std.specs.Ordering.{eq_by_cmp}
use Rattle.std.specs.Cmp.{nat_cmp_total}
use Rattle.std.specs.FinMap.{nat_cmp-IsAntisymmetric}
use Rattle.std.proofs.lemmas.List.{take_more}
use Rattle.std.specs.FinMap.Entries.{find-put, is_some-find, is_sorted}
use Rattle.cat_collections.specs.Table.{find, get, keys, put, text_cmp, first}
use Rattle.cat_collections.specs.Rows.{without}
use Rattle.cat_collections.proofs.Tables.{text_total, text_antisymmetric, same_is, same_self, or_true, or_false_first, find-put_same, find-put_other, first_some}
use Rattle.cat_model.specs.Catalogue.{Ref, Rows, Holders, row_at, may_offer, claims, hold, claim}
use Rattle.cat_model.specs.declared.types.Row.{Row}
use Rattle.cat_model.specs.declared.types.Origin.TheVariants.{Entity}
use Rattle.cat_model.specs.Rows.{Arrivals, given}
use Rattle.cat_model.proofs.Members.{any_either, any_left, any_right}
use Rattle.cat_model.proofs.Least.{first_is_least}
use Rattle.cat_model.proofs.Mended.{wait_more}
use Rattle.cat_claims.specs.Change.{among, AreAmong}
use Rattle.cat_claims.specs.Touched.{AreKeptBut}
use Rattle.cat_claims.specs.Waiting.{AllWait, head_of, IsPopped, IsFound, HasClaimed}

same_number : (a b : ℕ) → eq_by_cmp nat_cmp a b ≡ true → a ≡ b
same_number = same_is nat_cmp_total nat_cmp-IsAntisymmetric

number_self : (a : ℕ) → eq_by_cmp nat_cmp a a ≡ true
number_self = same_self nat_cmp_total nat_cmp-IsAntisymmetric

-- ---- what is put

put_has : (k a : ℕ) (v : Unit {0}) (m : Arrivals) → (eq_by_cmp nat_cmp a k ≡ true) ⊎ (among a (keys m) ≡ true) → among a (keys (put nat_cmp k v m)) ≡ true
put_has k a v m h = sym (is_some-find nat_cmp a (put nat_cmp k v m)) ∙ (ap is_some (find-put nat_cmp nat_cmp_total a k v m) ∙ go (eq_by_cmp nat_cmp a k) h)
  where
    go : (b : Bool) → (b ≡ true) ⊎ (among a (keys m) ≡ true) → is_some (cond b (Some v) (find nat_cmp a m)) ≡ true
    go true h = refl
    go false (inl e) = absurd (true≢false (sym e))
    go false (inr e) = is_some-find nat_cmp a m ∙ e

-- one arrival more waits
pub one_waits_too : (arrivals : List ℕ) (i a : ℕ) (v : Unit {0}) (old now new : Arrivals) → i < length arrivals → new ≡ put nat_cmp (get_or arrivals i a) v now → AreAmong (take i arrivals ++ keys old) (keys now)
    → AreAmong (take (i + 1) arrivals ++ keys old) (keys new)
one_waits_too arrivals i a v old now new l e h b x =
    ap (λ m. among b (keys m)) e ∙ put_has (get_or arrivals i a) b v now
    (go (any_either (eq_by_cmp nat_cmp b) (take i arrivals ++ get_or arrivals i a ∷ []) (keys old) (subst (λ xs. among b (xs ++ keys old) ≡ true) (take_more arrivals i a l) x)))
  where
    Waits : Type 0
    Waits = (eq_by_cmp nat_cmp b (get_or arrivals i a) ≡ true) ⊎ (among b (keys now) ≡ true)

    itself : (c : Bool) → eq_by_cmp nat_cmp b (get_or arrivals i a) ≡ c → (c || false) ≡ true → Waits
    itself true is y = inl is
    itself false is y = absurd (true≢false (sym y))

    later : (among b (take i arrivals) ≡ true) ⊎ (among b (get_or arrivals i a ∷ []) ≡ true) → Waits
    later (inl y) = inr (h b (any_left (eq_by_cmp nat_cmp b) (take i arrivals) (keys old) y))
    later (inr y) = itself (eq_by_cmp nat_cmp b (get_or arrivals i a)) refl y

    go : (among b (take i arrivals ++ get_or arrivals i a ∷ []) ≡ true) ⊎ (among b (keys old) ≡ true) → Waits
    go (inl y) = later (any_either (eq_by_cmp nat_cmp b) (take i arrivals) (get_or arrivals i a ∷ []) y)
    go (inr y) = inr (h b (any_right (eq_by_cmp nat_cmp b) (take i arrivals) (keys old) y))

-- ---- what is taken off

without_other : (k a : ℕ) (m : Arrivals) → eq_by_cmp nat_cmp k a ≡ false → among a (keys m) ≡ true → among a (keys (without nat_cmp k m)) ≡ true
without_other k a [] d h = h
without_other k a (e ∷ es) d h = go (eq_by_cmp nat_cmp k e.0) refl (eq_by_cmp nat_cmp a e.0) refl h (without_other k a es d)
  where
    go : (b : Bool) → eq_by_cmp nat_cmp k e.0 ≡ b → (c : Bool) → eq_by_cmp nat_cmp a e.0 ≡ c → (c || among a (keys es)) ≡ true
        → (among a (keys es) ≡ true → among a (keys (without nat_cmp k es)) ≡ true) → among a (keys (cond (not b) (e ∷ without nat_cmp k es) (without nat_cmp k es))) ≡ true
    go true is true at h ih = absurd (true≢false (sym (ap (eq_by_cmp nat_cmp k) (same_number a e.0 at) ∙ is) ∙ d))
    go true is false at h ih = ih h
    go false is true at h ih = ap (λ c. c || among a (keys (without nat_cmp k es))) at
    go false is false at h ih = or_true (eq_by_cmp nat_cmp a e.0) _ (ih h)

first_without : (p : ℕ → Bool) (k : ℕ) (m : Arrivals) → p k ≡ false → first p (keys (without nat_cmp k m)) ≡ first p (keys m)
first_without p k [] f = refl
first_without p k (e ∷ es) f = go (eq_by_cmp nat_cmp k e.0) refl (first_without p k es f)
  where
    go : (b : Bool) → eq_by_cmp nat_cmp k e.0 ≡ b → first p (keys (without nat_cmp k es)) ≡ first p (keys es)
        → first p (keys (cond (not b) (e ∷ without nat_cmp k es) (without nat_cmp k es))) ≡ first p (keys (e ∷ es))
    go true is ih = ih ∙ sym (ap (λ b. cond b (Some e.0) (first p (keys es))) (ap p (sym (same_number k e.0 is)) ∙ f))
    go false is ih = ap (λ v. cond (p e.0) (Some e.0) v) ih

without_le : (k : ℕ) (m : Arrivals) → length (without nat_cmp k m) ≤ length m
without_le k [] = omega arith
without_le k (e ∷ es) = go (eq_by_cmp nat_cmp k e.0) (without_le k es)
  where
    go : (b : Bool) → length (without nat_cmp k es) ≤ length es → length (cond (not b) (e ∷ without nat_cmp k es) (without nat_cmp k es)) ≤ suc (length es)
    go true h = omega arith
    go false h = omega arith

-- the first arrival, as it is read
pub head_some : (m : Arrivals) (e : ℕ × Unit {0}) → Some e ≡ slice_get m 0 → head_of m ≡ Some e.0
head_some [] e h = absurd (true≢false (ap is_some h))
head_some (x ∷ xs) e h = ap Some (ap (λ (y : ℕ × Unit {0}). y.0) (ap (λ v. unwrap_or v x) (sym h)))

pub head_none : (m : Arrivals) → None ≡ slice_get m 0 → head_of m ≡ None
head_none [] h = refl
head_none (x ∷ xs) h = absurd (true≢false (sym (ap is_some h)))

-- a list with this head
headed : (m : Arrivals) (a : ℕ) → head_of m ≡ Some a → (rest : Arrivals) × (v : Unit {0}) × (m ≡ (a, v) ∷ rest)
headed [] a h = absurd (true≢false (sym (ap is_some h)))
headed (e ∷ es) a h = let k : e.0 ≡ a = ap (λ v. unwrap_or v a) h in (es, e.1, ap (λ b. (b, e.1) ∷ es) k)

empty : (m : Arrivals) → head_of m ≡ None → m ≡ []
empty [] h = refl
empty (e ∷ es) h = absurd (true≢false (ap is_some h))

pub popped_less : (old : Arrivals) (a : ℕ) (new : Arrivals) → IsPopped old (Some a) new → length new < length old
popped_less old a new x =
    let y = headed old a x.0 in
    let e : new ≡ without nat_cmp a y.0 = x.1 ∙ (ap (without nat_cmp a) y.2 ∙ ap (λ b. cond (not b) ((a, y.1) ∷ without nat_cmp a y.0) (without nat_cmp a y.0)) (number_self a)) in
    let l = without_le a y.0 in
    let n : length new ≡ length (without nat_cmp a y.0) = ap length e in
    let o : length old ≡ suc (length y.0) = ap length y.2 in
    omega arith

module _ (p : ℕ → Bool) where
  -- while none passes, first and others stay
  pub record IsSearched (before left : Arrivals) : Type 0 where
    pub first : first p (keys left) ≡ first p (keys before)
    pub others : (a : ℕ) → among a (keys before) ≡ true → p a ≡ true → among a (keys left) ≡ true

  pub not_yet : (m : Arrivals) → IsSearched m m
  not_yet m = record { first = refl; others = λ a h f. h }

  pub passed_over : (before old new : Arrivals) (a : ℕ) → IsSearched before old → IsPopped old (Some a) new → p a ≡ false → IsSearched before new
  passed_over before old new a s x f = record {
    first = ap (λ m. first p (keys m)) x.1 ∙ (first_without p a old f ∙ s.first);
    others = λ b h pb. subst (λ m. among b (keys m) ≡ true) (sym x.1) (without_other a b old (apart b pb (eq_by_cmp nat_cmp a b) refl) (s.others b h pb));
  }
    where
      apart : (b : ℕ) → p b ≡ true → (c : Bool) → eq_by_cmp nat_cmp a b ≡ c → c ≡ false
      apart b pb true is = absurd (true≢false (sym pb ∙ (ap p (sym (same_number a b is)) ∙ f)))
      apart b pb false is = refl

  pub found_one : (before old new : Arrivals) (a : ℕ) → IsSearched before old → IsPopped old (Some a) new → p a ≡ true → IsFound p (keys before) (Some a) (keys new)
  found_one before old new a s x f = record {
    first = let y = headed old a x.0 in sym (sym s.first ∙ (ap (λ m. first p (keys m)) y.2 ∙ ap (λ b. cond b (Some a) (first p (keys y.0))) f));
    others = λ b h pb. go b (eq_by_cmp nat_cmp a b) refl (s.others b h pb);
  }
    where
      go : (b : ℕ) (c : Bool) → eq_by_cmp nat_cmp a b ≡ c → among b (keys old) ≡ true → (Some a ≡ Some b) ⊎ (among b (keys new) ≡ true)
      go b true is h = inl (ap Some (same_number a b is))
      go b false is h = inr (subst (λ m. among b (keys m) ≡ true) (sym x.1) (without_other a b old is h))

  pub found_no_one : (before old new : Arrivals) → IsSearched before old → IsPopped old None new → IsFound p (keys before) None (keys new)
  found_no_one before old new s x = record {
    first = sym (sym s.first ∙ ap (λ m. first p (keys m)) (empty old x));
    others = λ a h f. absurd (true≢false (sym (subst (λ m. among a (keys m) ≡ true) (empty old x) (s.others a h f))));
  }

-- ---- claims

module _ (rows : Rows) where
  -- once the row holds and what it opens waits, all that may claim waits
  pub wait_on : (holders : Holders) (row : Row) (arrival : ℕ) (before left : List ℕ) → row_at rows arrival ≡ Some row
      → ((a : ℕ) → claims holders (row_at rows a) ≡ true → (a ≡ arrival) ⊎ (among a before ≡ true)) → AreAmong (given rows (Entity row.reference) ++ before) left
      → AllWait rows left (hold arrival (Some row) holders)
  wait_on holders row arrival before left at waits more c h =
      sorted (any_either (eq_by_cmp nat_cmp c) (given rows (Entity row.reference)) (arrival ∷ before) (wait_more rows (arrival ∷ before) holders with_it (Some row) arrival c h))
    where
      with_it : (a : ℕ) → claims holders (row_at rows a) ≡ true → among a (arrival ∷ before) ≡ true
      with_it a h = go (waits a h)
        where
          go : (a ≡ arrival) ⊎ (among a before ≡ true) → (eq_by_cmp nat_cmp a arrival || among a before) ≡ true
          go (inl e) = ap (λ b. eq_by_cmp nat_cmp a b || among a before) (sym e) ∙ ap (λ b. b || among a before) (number_self a)
          go (inr e) = or_true (eq_by_cmp nat_cmp a arrival) _ e

      itself : c ≡ arrival → among c left ≡ true
      itself is = absurd (true≢false (sym h ∙ (ap (claims (hold arrival (Some row) holders)) (ap (row_at rows) is ∙ at)
          ∙ ap (λ b. not b && may_offer (hold arrival (Some row) holders) row.origin) (ap is_some (find-put_same text_total text_antisymmetric row.reference arrival holders)))))

      sorted : (among c (given rows (Entity row.reference)) ≡ true) ⊎ (among c (arrival ∷ before) ≡ true) → among c left ≡ true
      sorted (inl i) = more c (any_left (eq_by_cmp nat_cmp c) (given rows (Entity row.reference)) before i)
      sorted (inr i) = go (eq_by_cmp nat_cmp c arrival) refl i
        where
          go : (b : Bool) → eq_by_cmp nat_cmp c arrival ≡ b → (b || among c before) ≡ true → among c left ≡ true
          go true is i = itself (same_number c arrival is)
          go false is i = more c (any_right (eq_by_cmp nat_cmp c) (given rows (Entity row.reference)) before i)

  module _ (holders : Holders) (waiting : Arrivals) (rows_rise : is_sorted nat_cmp rows ≡ true) (waiting_rise : is_sorted nat_cmp waiting ≡ true) (all : AllWait rows (keys waiting) holders) where
    abbrev may : ℕ → Bool
    may a = claims holders (row_at rows a)

    is_row : (a : ℕ) → may a ≡ true → among a (keys rows) ≡ true
    is_row a h = sym (is_some-find nat_cmp a rows) ∙ go (row_at rows a) h
      where
        go : (v : Option Row) → claims holders v ≡ true → is_some v ≡ true
        go None h = h
        go (Some row) h = refl

    -- the first of all rows that may claim is the first of those that wait
    first-is : first may (keys rows) ≡ first may (keys waiting)
    first-is = first_is_least may rows (keys waiting) (subst T (sym rows_rise) tt) is_row all ∙ sym (first_is_least may waiting (keys waiting) (subst T (sym waiting_rise) tt) all all)

    module _ (found : Option ℕ) (left : List ℕ) (is : IsFound may (keys waiting) found left) where
      next-is : first may (keys rows) ≡ found
      next-is = first-is ∙ sym is.first

      -- none may claim
      pub none_claims : found ≡ None → HasClaimed rows holders None holders
      none_claims e zero = refl
      none_claims e (suc n) = sym (ap (λ v. elim v [ None ↦ holders | Some a ↦ claim n rows (keys rows) (hold a (row_at rows a) holders) ]) (next-is ∙ e))

      pub none_wait : found ≡ None → AllWait rows left holders
      none_wait e a h = go (is.others a (all a h) h)
        where
          go : (found ≡ Some a) ⊎ (among a left ≡ true) → among a left ≡ true
          go (inl f) = absurd (true≢false (sym (ap is_some (sym e ∙ f))))
          go (inr f) = f

      -- the one that was found claims
      pub one_claims : (a : ℕ) (row : Row) (after : Holders) → found ≡ Some a → row_at rows a ≡ Some row → after ≡ hold a (Some row) holders → (r : Ref) → HasClaimed rows holders (Some r) after
      one_claims a row after f at e r zero l = absurd (omega arith)
      one_claims a row after f at e r (suc n) l =
          let k : suc n - 1 ≡ n = omega arith in
          ap (λ j. claim j rows (keys rows) after) k ∙ (ap (claim n rows (keys rows)) (e ∙ ap (λ v. hold a v holders) (sym at))
          ∙ sym (ap (λ v. elim v [ None ↦ holders | Some a ↦ claim n rows (keys rows) (hold a (row_at rows a) holders) ]) (next-is ∙ f)))

      pub one_waits : (a : ℕ) → found ≡ Some a → (b : ℕ) → may b ≡ true → (b ≡ a) ⊎ (among b left ≡ true)
      one_waits a f b h = go (is.others b (all b h) h)
        where
          go : (found ≡ Some b) ⊎ (among b left ≡ true) → (b ≡ a) ⊎ (among b left ≡ true)
          go (inl g) = inl (ap (λ v. unwrap_or v b) (sym g ∙ f))
          go (inr g) = inr g

      pub is_there : (a : ℕ) → found ≡ Some a → row_at rows a ≡ None → ⊥
      is_there a f at = true≢false (sym (sym (ap (claims holders) at) ∙ first_some nat_cmp_total nat_cmp-IsAntisymmetric may (keys rows) a (next-is ∙ f)))

-- a reference that isn't claimed is held as before
pub one_kept : (holders after : Holders) (row : Row) (arrival : ℕ) → after ≡ hold arrival (Some row) holders → AreKeptBut (row.reference ∷ []) holders after
one_kept holders after row arrival e r out =
    ap (λ m. get m r) e ∙ find-put_other text_total text_antisymmetric r row.reference arrival holders (or_false_first (eq_by_cmp text_cmp r row.reference) false out)
