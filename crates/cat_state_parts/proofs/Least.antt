-- The first of the tickets above another is that of the mark with the least ticket above it.
use Rattle.std.proofs.Common.{◌≡◌, ℕ, ◌+◌, ◌<◌, ◌≤◌, ◌⊎◌, inl, inr, arith, Bool, true, false, cond, nat_le, nat_lt, List, [], ◌∷◌, refl, sym, ap, subst, ◌∙◌, true≢false, Ordering, Less, Equal, Greater, nat_cmp, is_some, is_lt, unwrap_or}
use Rattle.std.proofs.lemmas.Bool.Decides.{nat_tests}
use Rattle.std.specs.Prelude.{slice_get, option_map}
use Rattle.std.specs.declared.option.Option.{Option}
use Rattle.std.specs.declared.option.Option.TheVariants.{None, Some}
use Rattle.std.specs.Ordering.{MatchOrdering, eq_by_cmp, is_eq, is_gt, ordering_reverse, ordering_then}
use Rattle.std.specs.Cmp.{IsTotalOrder, nat_cmp_is, nat_cmp_total, ranks, tied_itself}
use Rattle.std.specs.FinMap.{IsAntisymmetric}
use Rattle.std.specs.FinMap.Entries.{below_all, is_sorted}
use Rattle.cat_collections.specs.Places.{before, first_from}
use Rattle.cat_collections.specs.Table.{Text, find, get, text_cmp}
use Rattle.cat_collections.proofs.Places.{first_from_is}
use Rattle.cat_collections.proofs.Tables.{and_first, and_second, same_is, same_self, text_total, text_antisymmetric}
use Rattle.cat_state_parts.specs.Marks.{IsIndexed, Mark, Tickets, is_ticket, least_above, lesser_ticket, ticket_cmp}
use Rattle.cat_state_parts.proofs.Indexed.{ticket_antisymmetric, ticket_total}

pub same_some : {A : Type 0} (x y : A) → Some x ≡ Some y → x ≡ y
same_some x y e = ap (λ v. unwrap_or v x) e

pub some_none : {A B : Type 0} (x : A) → Some x ≡ None → B
some_none x e = absurd (true≢false (ap is_some e))

pub less_is : (o : Ordering) → is_lt o ≡ true → o ≡ Less
less_is Less e = refl
less_is Equal e = absurd (true≢false (sym e))
less_is Greater e = absurd (true≢false (sym e))

-- ---- the first entry from a key on, in any order

-- what is neither above nor below is the same
pub level : {K : Type 0} {R : K → K → Ordering} → IsTotalOrder R → IsAntisymmetric R → (x y : K) → is_gt (R x y) ≡ false → is_gt (R y x) ≡ false → x ≡ y
level {R = R} o s x y p q = s x y (go (R x y) p (R y x) q (o.antisymm x y))
  where
    go : (a : Ordering) → is_gt a ≡ false → (b : Ordering) → is_gt b ≡ false → a ≡ ordering_reverse b → a ≡ Equal
    go Less p Less q e = absurd (true≢false (ap is_lt e))
    go Less p Equal q e = absurd (true≢false (ap is_lt e))
    go Less p Greater q e = absurd (true≢false q)
    go Equal p b q e = refl
    go Greater p b q e = absurd (true≢false p)

module _ {K X : Type 0} {R : K → K → Ordering} (o : IsTotalOrder R) (s : IsAntisymmetric R) where
  -- a key that is found is above each that is below all
  pub below_found : (x q : K) (es : List (K × X)) → below_all R x es ≡ true → is_some (find R q es) ≡ true → R x q ≡ Less
  below_found x q [] h f = absurd (true≢false (sym f))
  below_found x q (e ∷ es) h f = go (eq_by_cmp R q e.0) refl f (below_found x q es (and_second _ _ h))
    where
      go : (c : Bool) → eq_by_cmp R q e.0 ≡ c → is_some (cond c (Some e.1) (find R q es)) ≡ true → (is_some (find R q es) ≡ true → R x q ≡ Less) → R x q ≡ Less
      go true t f ih = ap (R x) (same_is o s q e.0 t) ∙ less_is _ (and_first _ _ h)
      go false t f ih = ih f

  -- the first entry from a key on is found, and not below the key
  pub first_found : (k : K) (es : List (K × X)) (e : K × X) → first_from R k es ≡ Some e → (is_some (find R e.0 es) ≡ true) × (is_gt (R k e.0) ≡ false)
  first_found k [] e h = absurd (true≢false (sym (ap is_some h)))
  first_found k (f ∷ fs) e h = go (is_gt (R k f.0)) refl h (first_found k fs e)
    where
      more : (c : Bool) → is_some (find R e.0 fs) ≡ true → is_some (cond c (Some f.1) (find R e.0 fs)) ≡ true
      more true g = refl
      more false g = g

      go : (c : Bool) → is_gt (R k f.0) ≡ c → cond c (first_from R k fs) (Some f) ≡ Some e → (first_from R k fs ≡ Some e → (is_some (find R e.0 fs) ≡ true) × (is_gt (R k e.0) ≡ false))
          → (is_some (cond (eq_by_cmp R e.0 f.0) (Some f.1) (find R e.0 fs)) ≡ true) × (is_gt (R k e.0) ≡ false)
      go true g h ih = let rest = ih h in (more (eq_by_cmp R e.0 f.0) rest.0, rest.1)
      go false g h ih = let is : f ≡ e = same_some f e h in
          (ap (λ b. is_some (cond b (Some f.1) (find R e.0 fs))) (ap (λ (x : K × X). eq_by_cmp R e.0 x.0) is ∙ same_self o s e.0), ap (λ (x : K × X). is_gt (R k x.0)) (sym is) ∙ g)

  -- and not above any key that is found and not below the key either
  pub first_least : (k q : K) (es : List (K × X)) → is_sorted R es ≡ true → is_some (find R q es) ≡ true → is_gt (R k q) ≡ false → (e : K × X) × ((first_from R k es ≡ Some e) × (is_gt (R e.0 q) ≡ false))
  first_least k q [] h f g = absurd (true≢false (sym f))
  first_least k q (e ∷ es) h f g = go (eq_by_cmp R q e.0) refl f (is_gt (R k e.0)) refl (first_least k q es (and_second _ _ h))
    where
      go : (c : Bool) → eq_by_cmp R q e.0 ≡ c → is_some (cond c (Some e.1) (find R q es)) ≡ true → (d : Bool) → is_gt (R k e.0) ≡ d
          → (is_some (find R q es) ≡ true → is_gt (R k q) ≡ false → (x : K × X) × ((first_from R k es ≡ Some x) × (is_gt (R x.0 q) ≡ false)))
          → (x : K × X) × ((cond d (first_from R k es) (Some e) ≡ Some x) × (is_gt (R x.0 q) ≡ false))
      go true t f true d ih = absurd (true≢false (sym d ∙ (ap (λ x. is_gt (R k x)) (sym (same_is o s q e.0 t)) ∙ g)))
      go true t f false d ih = (e, (refl, ap (λ x. is_gt (R x q)) (sym (same_is o s q e.0 t)) ∙ ap is_gt (tied_itself o q)))
      go false t f true d ih = ih f g
      go false t f false d ih = (e, (refl, ap is_gt (below_found e.0 q es (and_first _ _ h) f)))

-- ---- the order of tickets

-- one of the three
pub two_numbers : (x y : ℕ) → (x < y) ⊎ ((x ≡ y) ⊎ (y < x))
two_numbers x y = go (nat_cmp x y) (ranks x y)
  where
    go : (r : Ordering) → MatchOrdering r (x < y) (x ≡ y) (y < x) → (x < y) ⊎ ((x ≡ y) ⊎ (y < x))
    go Less h = inl h
    go Equal h = inr (inl h)
    go Greater h = inr (inr h)

pub lower : (t u : ℕ) (r q : Text) → t < u → is_gt (ticket_cmp (t, r) (u, q)) ≡ false
lower t u r q h = ap (λ c. is_gt (ordering_then c (text_cmp r q))) (sym (nat_cmp_is t u Less h))

pub equally_low : (t u : ℕ) (r q : Text) → t ≡ u → is_gt (text_cmp r q) ≡ false → is_gt (ticket_cmp (t, r) (u, q)) ≡ false
equally_low t u r q e h = ap (λ c. is_gt (ordering_then c (text_cmp r q))) (sym (nat_cmp_is t u Equal e)) ∙ h

pub not_higher : (t u : ℕ) (r q : Text) → is_gt (ticket_cmp (t, r) (u, q)) ≡ false → t ≤ u
not_higher t u r q h = go (two_numbers t u)
  where
    go : (t < u) ⊎ ((t ≡ u) ⊎ (u < t)) → t ≤ u
    go (inl l) = omega arith
    go (inr (inl e)) = omega arith
    go (inr (inr g)) = absurd (true≢false (ap (λ c. is_gt (ordering_then c (text_cmp r q))) (nat_cmp_is t u Greater g) ∙ h))

pub lt_true : (x y : ℕ) → x < y → nat_lt x y ≡ true
lt_true x y h = grind (arith, nat_tests)

pub lt_from : (x y : ℕ) → nat_lt x y ≡ true → x < y
lt_from x y h = grind (arith, nat_tests)

pub le_from : (x y : ℕ) → nat_le x y ≡ true → x ≤ y
le_from x y h = grind (arith, nat_tests)

pub le_not : (x y : ℕ) → nat_le x y ≡ false → y < x
le_not x y h = grind (arith, nat_tests)

-- ---- the mark with the least ticket above another

module _ (after : ℕ) where
  -- it is a mark, and its ticket is above
  abbrev Above : List Mark → Mark → Type 0
  Above es e = (get es e.0 ≡ Some e.1) × (after < e.1)

  above_here : (x : Mark) (es : List Mark) → after < x.1 → Above (x ∷ es) x
  above_here x es h = (ap (λ b. cond b (Some x.1) (get es x.0)) (same_self text_total text_antisymmetric x.0), h)

  above_there : (x e : Mark) (es : List Mark) → below_all text_cmp x.0 es ≡ true → Above es e → Above (x ∷ es) e
  above_there x e es h a = (go (eq_by_cmp text_cmp e.0 x.0) refl, a.1)
    where
      go : (b : Bool) → eq_by_cmp text_cmp e.0 x.0 ≡ b → cond b (Some x.1) (get es e.0) ≡ Some e.1
      go true t =
          let less : text_cmp x.0 e.0 ≡ Less = below_found text_total text_antisymmetric x.0 e.0 es h (ap is_some a.0) in
          absurd (true≢false (sym (same_self text_total text_antisymmetric x.0) ∙ (ap (λ (q : Text). eq_by_cmp text_cmp x.0 q) (sym (same_is text_total text_antisymmetric e.0 x.0 t)) ∙ ap is_eq less)))
      go false t = a.0

  pub least_is : (es : List Mark) (e : Mark) → is_sorted text_cmp es ≡ true → least_above after es ≡ Some e → Above es e
  least_is [] e h l = absurd (true≢false (sym (ap is_some l)))
  least_is (x ∷ es) e h l = go (nat_lt after x.1) refl (least_above after es) refl l (least_is es)
    where
      pick : (b : Mark) (c : Bool) → after < x.1 → Above es b → cond c (Some x) (Some b) ≡ Some e → Above (x ∷ es) e
      pick b true n a l = subst (Above (x ∷ es)) (same_some x e l) (above_here x es n)
      pick b false n a l = subst (Above (x ∷ es)) (same_some b e l) (above_there x b es (and_first _ _ h) a)

      go : (c : Bool) → nat_lt after x.1 ≡ c → (v : Option Mark) → least_above after es ≡ v → cond c (lesser_ticket x v) v ≡ Some e
          → ((b : Mark) → is_sorted text_cmp es ≡ true → least_above after es ≡ Some b → Above es b) → Above (x ∷ es) e
      go true n None is l ih = subst (Above (x ∷ es)) (same_some x e l) (above_here x es (lt_from after x.1 n))
      go true n (Some b) is l ih = pick b (nat_le x.1 b.1) (lt_from after x.1 n) (ih b (and_second _ _ h) is) l
      go false n v is l ih = above_there x e es (and_first _ _ h) (ih e (and_second _ _ h) (is ∙ l))

  -- and no mark with a ticket above has a lower ticket, or the same one and a lower reference
  abbrev Least : Option Mark → ℕ → Text → Type 0
  Least v u q = (e : Mark) × ((v ≡ Some e) × (is_gt (ticket_cmp (e.1, e.0) (u, q)) ≡ false))

  pub least_first : (es : List Mark) (q : Text) (u : ℕ) → is_sorted text_cmp es ≡ true → get es q ≡ Some u → after < u → Least (least_above after es) u q
  least_first [] q u h f a = absurd (true≢false (sym (ap is_some f)))
  least_first (x ∷ es) q u h f a = go (eq_by_cmp text_cmp q x.0) refl f (λ g. least_first es q u (and_second _ _ h) g a)
    where
      here : x.0 ≡ q → x.1 ≡ u → is_gt (ticket_cmp (x.1, x.0) (u, q)) ≡ false
      here e f = equally_low x.1 u x.0 q f (ap (λ r. is_gt (text_cmp r q)) e ∙ ap is_gt (tied_itself text_total q))

      -- where the mark at hand is the one asked of
      first : x.0 ≡ q → x.1 ≡ u → (v : Option Mark) → Least (lesser_ticket x v) u q
      first e f None = (x, (refl, here e f))
      first e f (Some b) = choose (nat_le x.1 b.1) refl
        where
          choose : (c : Bool) → nat_le x.1 b.1 ≡ c → Least (cond c (Some x) (Some b)) u q
          choose true l = (x, (refl, here e f))
          choose false l = let n : b.1 < x.1 = le_not x.1 b.1 l in (b, (refl, lower b.1 u b.0 q (subst (λ (k : ℕ). b.1 < k) f n)))

      -- where it is another
      later : get es q ≡ Some u → (v : Option Mark) → Least v u q → Least (lesser_ticket x v) u q
      later g v d = subst (λ w. Least (lesser_ticket x w) u q) (sym d.1.0) (choose (nat_le x.1 d.0.1) refl)
        where
          below : is_gt (text_cmp x.0 q) ≡ false
          below = ap is_gt (below_found text_total text_antisymmetric x.0 q es (and_first _ _ h) (ap is_some g))

          most : d.0.1 ≤ u
          most = not_higher d.0.1 u d.0.0 q d.1.1

          near : (x.1 < u) ⊎ ((x.1 ≡ u) ⊎ (u < x.1)) → x.1 ≤ d.0.1 → is_gt (ticket_cmp (x.1, x.0) (u, q)) ≡ false
          near (inl k) l = lower x.1 u x.0 q k
          near (inr (inl k)) l = equally_low x.1 u x.0 q k below
          near (inr (inr k)) l = let m = most in absurd (omega arith)

          choose : (c : Bool) → nat_le x.1 d.0.1 ≡ c → Least (cond c (Some x) (Some d.0)) u q
          choose true l = (x, (refl, near (two_numbers x.1 u) (le_from x.1 d.0.1 l)))
          choose false l = (d.0, (refl, d.1.1))

      pass : (c : Bool) → (v : Option Mark) → get es q ≡ Some u → Least v u q → Least (cond c (lesser_ticket x v) v) u q
      pass true v g d = later g v d
      pass false v g d = d

      go : (c : Bool) → eq_by_cmp text_cmp q x.0 ≡ c → cond c (Some x.1) (get es q) ≡ Some u → (get es q ≡ Some u → Least (least_above after es) u q)
          → Least (cond (nat_lt after x.1) (lesser_ticket x (least_above after es)) (least_above after es)) u q
      go true t f ih =
          let is : x.1 ≡ u = same_some x.1 u f in
          subst (λ (c : Bool). Least (cond c (lesser_ticket x (least_above after es)) (least_above after es)) u q) (sym (lt_true after x.1 (subst (λ (k : ℕ). after < k) (sym is) a)))
          (first (sym (same_is text_total text_antisymmetric q x.0 t)) is (least_above after es))
      go false t f ih = pass (nat_lt after x.1) (least_above after es) f (ih f)

-- ---- both are one

-- the mark that a ticket is of
abbrev pub mark_of : (ℕ × Text) × Unit {0} → Mark
mark_of f = (f.0.1, f.0.0)

module _ (after : ℕ) (marks : List Mark) (tickets : Tickets) (rise : is_sorted text_cmp marks ≡ true) (up : is_sorted ticket_cmp tickets ≡ true) (i : IsIndexed marks tickets) where
  abbrev start : ℕ × Text
  start = (after + 1, [])

  -- what is not below the start has a ticket above
  above_start : (t : ℕ) (r : Text) → is_gt (ticket_cmp start (t, r)) ≡ false → after < t
  above_start t r h = let l : after + 1 ≤ t = not_higher (after + 1) t [] r h in omega arith

  from_start : (t : ℕ) (r : Text) → after < t → is_gt (ticket_cmp start (t, r)) ≡ false
  from_start t r h = go (two_numbers (after + 1) t)
    where
      empty_first : (r : Text) → is_gt (text_cmp [] r) ≡ false
      empty_first [] = refl
      empty_first (b ∷ bs) = refl

      go : (after + 1 < t) ⊎ ((after + 1 ≡ t) ⊎ (t < after + 1)) → is_gt (ticket_cmp start (t, r)) ≡ false
      go (inl k) = lower (after + 1) t [] r k
      go (inr (inl e)) = equally_low (after + 1) t [] r e (empty_first r)
      go (inr (inr k)) = absurd (omega arith)

  -- a ticket that stands among them is of a mark
  marked : (t : ℕ) (r : Text) → is_some (find ticket_cmp (t, r) tickets) ≡ true → get marks r ≡ Some t
  marked t r h = go (get marks r) (sym (i.same t r) ∙ h)
    where
      go : (v : Option ℕ) → is_ticket t v ≡ true → v ≡ Some t
      go None e = absurd (true≢false (sym e))
      go (Some u) e = ap Some (sym (same_number t u e))
        where
          same_number : (t u : ℕ) → eq_by_cmp nat_cmp t u ≡ true → t ≡ u
          same_number t u e = turn (nat_cmp t u) (ranks t u) e
            where
              turn : (r : Ordering) → MatchOrdering r (t < u) (t ≡ u) (u < t) → is_eq r ≡ true → t ≡ u
              turn Less h e = absurd (true≢false (sym e))
              turn Equal h e = h
              turn Greater h e = absurd (true≢false (sym e))

  ticketed : (t : ℕ) (r : Text) → get marks r ≡ Some t → is_some (find ticket_cmp (t, r) tickets) ≡ true
  ticketed t r h = i.same t r ∙ (ap (is_ticket t) h ∙ ap is_eq (tied_itself nat_cmp_total t))

  pub next_is : option_map mark_of (slice_get tickets (before ticket_cmp start tickets)) ≡ least_above after marks
  next_is = ap (option_map mark_of) (sym (first_from_is ticket_cmp start tickets)) ∙ go (first_from ticket_cmp start tickets) refl (least_above after marks) refl
    where
      -- where one of the two is there, so is the other, and not above it
      least_of : (f : (ℕ × Text) × Unit {0}) → first_from ticket_cmp start tickets ≡ Some f → Least after (least_above after marks) f.0.0 f.0.1
      least_of f p =
          let there = first_found ticket_total ticket_antisymmetric start tickets f p in
          least_first after marks f.0.1 f.0.0 rise (marked f.0.0 f.0.1 there.0) (above_start f.0.0 f.0.1 there.1)

      first_of : (e : Mark) → least_above after marks ≡ Some e → (f : (ℕ × Text) × Unit {0}) × ((first_from ticket_cmp start tickets ≡ Some f) × (is_gt (ticket_cmp f.0 (e.1, e.0)) ≡ false))
      first_of e p =
          let there = least_is after marks e rise p in
          first_least ticket_total ticket_antisymmetric start (e.1, e.0) tickets up (ticketed e.1 e.0 there.0) (from_start e.1 e.0 there.1)

      go : (v : Option ((ℕ × Text) × Unit {0})) → first_from ticket_cmp start tickets ≡ v → (w : Option Mark) → least_above after marks ≡ w → option_map mark_of v ≡ w
      go None p None q = refl
      go None p (Some e) q = let f = first_of e q in some_none f.0 (sym f.1.0 ∙ p)
      go (Some f) p None q = let e = least_of f p in some_none e.0 (sym e.1.0 ∙ q)
      go (Some f) p (Some e) q =
          let low = least_of f p in
          let high = first_of e q in
          let one : low.0 ≡ e = same_some low.0 e (sym low.1.0 ∙ q) in
          let two : high.0 ≡ f = same_some high.0 f (sym high.1.0 ∙ p) in
          let is : f.0 ≡ (e.1, e.0) = level ticket_total ticket_antisymmetric f.0 (e.1, e.0)
          (subst (λ (g : (ℕ × Text) × Unit {0}). is_gt (ticket_cmp g.0 (e.1, e.0)) ≡ false) two high.1.1)
          (subst (λ (d : Mark). is_gt (ticket_cmp (d.1, d.0) f.0) ≡ false) one low.1.1) in
          ap (λ (x : ℕ × Text). Some (x.1, x.0)) is
