-- The first of the moments whose record may be taken is that of the entry which is soonest.
use Rattle.std.proofs.Common.{◌≡◌, ℕ, ◌<◌, ◌≤◌, ◌⊎◌, inl, inr, arith, Bool, true, false, cond, ◌&&◌, nat_le, nat_lt, [], ◌∷◌, refl, sym, ap, subst, ◌∙◌, true≢false, Less, is_some}
use Rattle.std.proofs.lemmas.Bool.Decides.{nat_tests}
use Rattle.std.specs.Prelude.{option_map}
use Rattle.std.specs.declared.option.Option.{Option}
use Rattle.std.specs.declared.option.Option.TheVariants.{None, Some}
use Rattle.std.specs.Ordering.{eq_by_cmp, is_eq, is_gt}
use Rattle.std.specs.Cmp.{nat_cmp_total, tied_itself}
use Rattle.std.specs.FinMap.{nat_cmp-IsAntisymmetric}
use Rattle.std.specs.FinMap.Entries.{below_all, is_sorted}
use Rattle.cat_collections.specs.Table.{Map, Text, find, get, text_cmp}
use Rattle.cat_collections.proofs.Tables.{and_first, and_second, same_is, same_self, text_total, text_antisymmetric}
use Rattle.cat_state_parts.proofs.Indexed.{ticket_antisymmetric, ticket_total}
use Rattle.cat_state_parts.proofs.Least.{below_found, equally_low, le_from, le_not, level, lower, not_higher, same_some, some_none, two_numbers}
use Rattle.cat_model.specs.Dues.{AreMoments, Moments, due_of, first_taken, is_at, is_free, may_take, moment_cmp, sooner, soonest}
use Rattle.cat_model.proofs.Dues.{listed}
use Rattle.cat_model.specs.declared.types.Record.{Record}

lt_not : (x y : ℕ) → x < y → nat_le y x ≡ false
lt_not x y h = grind (arith, nat_tests)

pub lt_yes : (x y : ℕ) → nat_lt x y ≡ true → x < y
lt_yes x y h = grind (arith, nat_tests)

-- what is due after the present moment can't be taken
later : (now : ℕ) (x : Record) → now < x.due → may_take now (Some x) ≡ false
later now x h = ap (λ b. b && is_free now x.lease) (lt_not now x.due h)

module _ (now : ℕ) where
  -- ---- the entry that is soonest

  -- it is an entry, and its record may be taken
  abbrev Taken : Map Record → Text × Record → Type 0
  Taken es e = (get es e.0 ≡ Some e.1) × (may_take now (Some e.1) ≡ true)

  taken_here : (x : Text × Record) (es : Map Record) → may_take now (Some x.1) ≡ true → Taken (x ∷ es) x
  taken_here x es h = (ap (λ b. cond b (Some x.1) (get es x.0)) (same_self text_total text_antisymmetric x.0), h)

  taken_there : (x e : Text × Record) (es : Map Record) → below_all text_cmp x.0 es ≡ true → Taken es e → Taken (x ∷ es) e
  taken_there x e es h a = (go (eq_by_cmp text_cmp e.0 x.0) refl, a.1)
    where
      go : (b : Bool) → eq_by_cmp text_cmp e.0 x.0 ≡ b → cond b (Some x.1) (get es e.0) ≡ Some e.1
      go true t =
          let less : text_cmp x.0 e.0 ≡ Less = below_found text_total text_antisymmetric x.0 e.0 es h (ap is_some a.0) in
          absurd (true≢false (sym (same_self text_total text_antisymmetric x.0) ∙ (ap (λ (q : Text). eq_by_cmp text_cmp x.0 q) (sym (same_is text_total text_antisymmetric e.0 x.0 t)) ∙ ap is_eq less)))
      go false t = a.0

  pub soonest_is : (es : Map Record) (e : Text × Record) → is_sorted text_cmp es ≡ true → soonest now es ≡ Some e → Taken es e
  soonest_is [] e h l = absurd (true≢false (sym (ap is_some l)))
  soonest_is (x ∷ es) e h l = go (may_take now (Some x.1)) refl (soonest now es) refl l (soonest_is es)
    where
      pick : (b : Text × Record) (c : Bool) → may_take now (Some x.1) ≡ true → Taken es b → cond c (Some x) (Some b) ≡ Some e → Taken (x ∷ es) e
      pick b true n a l = subst (Taken (x ∷ es)) (same_some x e l) (taken_here x es n)
      pick b false n a l = subst (Taken (x ∷ es)) (same_some b e l) (taken_there x b es (and_first _ _ h) a)

      go : (c : Bool) → may_take now (Some x.1) ≡ c → (v : Option (Text × Record)) → soonest now es ≡ v → cond c (sooner x v) v ≡ Some e
          → ((b : Text × Record) → is_sorted text_cmp es ≡ true → soonest now es ≡ Some b → Taken es b) → Taken (x ∷ es) e
      go true n None is l ih = subst (Taken (x ∷ es)) (same_some x e l) (taken_here x es n)
      go true n (Some b) is l ih = pick b (nat_le x.1.due b.1.due) n (ih b (and_second _ _ h) is) l
      go false n v is l ih = taken_there x e es (and_first _ _ h) (ih e (and_second _ _ h) (is ∙ l))

  -- and no record that may be taken is due before, or at once with it under a lower reference
  abbrev Soonest : Option (Text × Record) → ℕ → Text → Type 0
  Soonest v u q = (e : Text × Record) × ((v ≡ Some e) × (is_gt (moment_cmp (e.1.due, e.0) (u, q)) ≡ false))

  pub soonest_first : (es : Map Record) (q : Text) (y : Record) → is_sorted text_cmp es ≡ true → get es q ≡ Some y → may_take now (Some y) ≡ true → Soonest (soonest now es) y.due q
  soonest_first [] q y h f a = absurd (true≢false (sym (ap is_some f)))
  soonest_first (x ∷ es) q y h f a = go (eq_by_cmp text_cmp q x.0) refl f (λ g. soonest_first es q y (and_second _ _ h) g a)
    where
      here : x.0 ≡ q → x.1 ≡ y → is_gt (moment_cmp (x.1.due, x.0) (y.due, q)) ≡ false
      here e f = equally_low x.1.due y.due x.0 q (ap (λ (r : Record). r.due) f) (ap (λ r. is_gt (text_cmp r q)) e ∙ ap is_gt (tied_itself text_total q))

      -- where the entry at hand is the one asked of
      first : x.0 ≡ q → x.1 ≡ y → (v : Option (Text × Record)) → Soonest (sooner x v) y.due q
      first e f None = (x, (refl, here e f))
      first e f (Some b) = choose (nat_le x.1.due b.1.due) refl
        where
          choose : (c : Bool) → nat_le x.1.due b.1.due ≡ c → Soonest (cond c (Some x) (Some b)) y.due q
          choose true l = (x, (refl, here e f))
          choose false l = let n : b.1.due < x.1.due = le_not x.1.due b.1.due l in (b, (refl, lower b.1.due y.due b.0 q (subst (λ (r : Record). b.1.due < r.due) f n)))

      -- where it is another
      another : get es q ≡ Some y → (v : Option (Text × Record)) → Soonest v y.due q → Soonest (sooner x v) y.due q
      another g v d = subst (λ w. Soonest (sooner x w) y.due q) (sym d.1.0) (choose (nat_le x.1.due d.0.1.due) refl)
        where
          below : is_gt (text_cmp x.0 q) ≡ false
          below = ap is_gt (below_found text_total text_antisymmetric x.0 q es (and_first _ _ h) (ap is_some g))

          most : d.0.1.due ≤ y.due
          most = not_higher d.0.1.due y.due d.0.0 q d.1.1

          near : (x.1.due < y.due) ⊎ ((x.1.due ≡ y.due) ⊎ (y.due < x.1.due)) → x.1.due ≤ d.0.1.due → is_gt (moment_cmp (x.1.due, x.0) (y.due, q)) ≡ false
          near (inl k) l = lower x.1.due y.due x.0 q k
          near (inr (inl k)) l = equally_low x.1.due y.due x.0 q k below
          near (inr (inr k)) l = let m = most in absurd (omega arith)

          choose : (c : Bool) → nat_le x.1.due d.0.1.due ≡ c → Soonest (cond c (Some x) (Some d.0)) y.due q
          choose true l = (x, (refl, near (two_numbers x.1.due y.due) (le_from x.1.due d.0.1.due l)))
          choose false l = (d.0, (refl, d.1.1))

      pass : (c : Bool) → (v : Option (Text × Record)) → get es q ≡ Some y → Soonest v y.due q → Soonest (cond c (sooner x v) v) y.due q
      pass true v g d = another g v d
      pass false v g d = d

      go : (c : Bool) → eq_by_cmp text_cmp q x.0 ≡ c → cond c (Some x.1) (get es q) ≡ Some y → (get es q ≡ Some y → Soonest (soonest now es) y.due q)
          → Soonest (cond (may_take now (Some x.1)) (sooner x (soonest now es)) (soonest now es)) y.due q
      go true t f ih =
          let is : x.1 ≡ y = same_some x.1 y f in
          subst (λ (c : Bool). Soonest (cond c (sooner x (soonest now es)) (soonest now es)) y.due q) (sym (ap (λ (r : Record). may_take now (Some r)) is ∙ a))
          (first (sym (same_is text_total text_antisymmetric q x.0 t)) is (soonest now es))
      go false t f ih = pass (may_take now (Some x.1)) (soonest now es) f (ih f)

  -- ---- the first of the moments whose record may be taken

  module _ (es : Map Record) where
    -- each moment is that of a record
    abbrev AreOf : Moments → Type 0
    AreOf ds = (t : ℕ) (r : Text) → is_some (find moment_cmp (t, r) ds) ≡ true → (x : Record) × ((get es r ≡ Some x) × (x.due ≡ t))

    pub also : (d : (ℕ × Text) × Unit {0}) (ds : Moments) (t : ℕ) (r : Text) → is_some (find moment_cmp (t, r) ds) ≡ true → is_some (find moment_cmp (t, r) (d ∷ ds)) ≡ true
    also d ds t r h = go (eq_by_cmp moment_cmp (t, r) d.0)
      where
        go : (c : Bool) → is_some (cond c (Some d.1) (find moment_cmp (t, r) ds)) ≡ true
        go true = refl
        go false = h

    pub at_hand : (d : (ℕ × Text) × Unit {0}) (ds : Moments) → is_some (find moment_cmp (d.0.0, d.0.1) (d ∷ ds)) ≡ true
    at_hand d ds = ap (λ b. is_some (cond b (Some d.1) (find moment_cmp (d.0.0, d.0.1) ds))) (same_self ticket_total ticket_antisymmetric d.0)

    -- a moment is the one at hand, or above it
    pub above : (d : (ℕ × Text) × Unit {0}) (ds : Moments) (u : ℕ) (q : Text) → is_sorted moment_cmp (d ∷ ds) ≡ true → is_some (find moment_cmp (u, q) (d ∷ ds)) ≡ true
        → (((u, q) ≡ d.0) ⊎ (is_some (find moment_cmp (u, q) ds) ≡ true)) × (is_gt (moment_cmp d.0 (u, q)) ≡ false)
    above d ds u q h f = go (eq_by_cmp moment_cmp (u, q) d.0) refl f
      where
        go : (c : Bool) → eq_by_cmp moment_cmp (u, q) d.0 ≡ c → is_some (cond c (Some d.1) (find moment_cmp (u, q) ds)) ≡ true
            → (((u, q) ≡ d.0) ⊎ (is_some (find moment_cmp (u, q) ds) ≡ true)) × (is_gt (moment_cmp d.0 (u, q)) ≡ false)
        go true t f = let is : (u, q) ≡ d.0 = same_is ticket_total ticket_antisymmetric (u, q) d.0 t in (inl is, ap (λ x. is_gt (moment_cmp d.0 x)) is ∙ ap is_gt (tied_itself ticket_total d.0))
        go false t f = (inr f, ap is_gt (below_found ticket_total ticket_antisymmetric d.0 (u, q) ds (and_first _ _ h) f))

    -- the one that is found may be taken, and none below it
    abbrev IsFirst : Moments → Text → Type 0
    IsFirst ds r = (x : Record) × ((get es r ≡ Some x) × ((may_take now (Some x) ≡ true)
        × ((u : ℕ) (q : Text) → is_some (find moment_cmp (u, q) ds) ≡ true → may_take now (get es q) ≡ true → is_gt (moment_cmp (x.due, r) (u, q)) ≡ false)))

    pub first_found : (ds : Moments) (r : Text) → is_sorted moment_cmp ds ≡ true → AreOf ds → first_taken now es ds ≡ Some r → IsFirst ds r
    first_found [] r h a e = absurd (true≢false (sym (ap is_some e)))
    first_found (d ∷ ds) r h a e = go (nat_lt now d.0.0) (may_take now (get es d.0.1)) refl e (first_found ds r (and_second _ _ h) (λ t q f. a t q (also d ds t q f)))
      where
        go : (b c : Bool) → may_take now (get es d.0.1) ≡ c → cond b None (cond c (Some d.0.1) (first_taken now es ds)) ≡ Some r → (first_taken now es ds ≡ Some r → IsFirst ds r) → IsFirst (d ∷ ds) r
        go true c m e ih = absurd (true≢false (sym (ap is_some e)))
        go false true m e ih =
            let is : d.0.1 ≡ r = same_some d.0.1 r e in
            let of = a d.0.0 d.0.1 (at_hand d ds) in
            subst (IsFirst (d ∷ ds)) is
            (of.0, (of.1.0, (ap (may_take now) (sym of.1.0) ∙ m, λ u q f t. ap (λ w. is_gt (moment_cmp (w, d.0.1) (u, q))) of.1.1 ∙ (above d ds u q h f).1)))
        go false false m e ih =
            let rest = ih e in
            (rest.0, (rest.1.0, (rest.1.1.0, λ u q f t. pick u q t (above d ds u q h f).0 (rest.1.1.1 u q))))
          where
            pick : {P : Type 0} (u : ℕ) (q : Text) → may_take now (get es q) ≡ true → ((u, q) ≡ d.0) ⊎ (is_some (find moment_cmp (u, q) ds) ≡ true) → (is_some (find moment_cmp (u, q) ds) ≡ true → may_take now (get es q) ≡ true → P) → P
            pick u q t (inl is) f = absurd (true≢false (sym t ∙ (ap (λ (w : ℕ × Text). may_take now (get es w.1)) is ∙ m)))
            pick u q t (inr g) f = f g t

    pub none_found : (ds : Moments) → is_sorted moment_cmp ds ≡ true → AreOf ds → first_taken now es ds ≡ None → (u : ℕ) (q : Text) → is_some (find moment_cmp (u, q) ds) ≡ true → may_take now (get es q) ≡ false
    none_found [] h a e u q f = absurd (true≢false (sym f))
    none_found (d ∷ ds) h a e u q f = go (nat_lt now d.0.0) refl (may_take now (get es d.0.1)) refl e (λ g. none_found ds (and_second _ _ h) (λ t q f. a t q (also d ds t q f)) g u q)
      where
        pick : ((u, q) ≡ d.0) ⊎ (is_some (find moment_cmp (u, q) ds) ≡ true) → may_take now (get es d.0.1) ≡ false → (is_some (find moment_cmp (u, q) ds) ≡ true → may_take now (get es q) ≡ false) → may_take now (get es q) ≡ false
        pick (inl is) m g = ap (λ (w : ℕ × Text). may_take now (get es w.1)) is ∙ m
        pick (inr f) m g = g f

        go : (b : Bool) → nat_lt now d.0.0 ≡ b → (c : Bool) → may_take now (get es d.0.1) ≡ c → cond b None (cond c (Some d.0.1) (first_taken now es ds)) ≡ None
            → (first_taken now es ds ≡ None → is_some (find moment_cmp (u, q) ds) ≡ true → may_take now (get es q) ≡ false) → may_take now (get es q) ≡ false
        go true n c m e ih =
            let of = a u q f in
            let low : d.0.0 ≤ u = not_higher d.0.0 u d.0.1 q (above d ds u q h f).1 in
            let n' : now < d.0.0 = lt_yes now d.0.0 n in
            let due : of.0.due ≡ u = of.1.1 in
            ap (may_take now) of.1.0 ∙ later now of.0 (omega arith)
        go false n true m e ih = some_none d.0.1 e
        go false n false m e ih = pick (above d ds u q h f).0 m (ih e)

-- ---- both are one

-- the reference of an entry
abbrev pub key : Option (Text × Record) → Option Text
key = option_map (λ (e : Text × Record). e.0)

module _ (now : ℕ) (es : Map Record) (ds : Moments) (rise : is_sorted text_cmp es ≡ true) (up : is_sorted moment_cmp ds ≡ true) (i : AreMoments due_of es ds) where
  are_of : AreOf now es ds
  are_of t r h = go (get es r) refl (sym (i.same t r) ∙ h)
    where
      go : (v : Option Record) → get es r ≡ v → is_at due_of t v ≡ true → (x : Record) × ((get es r ≡ Some x) × (x.due ≡ t))
      go None g e = absurd (true≢false (sym e))
      go (Some x) g e = (x, (g, sym (same_is nat_cmp_total nat_cmp-IsAntisymmetric t x.due e)))

  pub first_is : first_taken now es ds ≡ key (soonest now es)
  first_is = go (first_taken now es ds) refl (soonest now es) refl
    where
      go : (v : Option Text) → first_taken now es ds ≡ v → (w : Option (Text × Record)) → soonest now es ≡ w → v ≡ key w
      go None p None q = refl
      go None p (Some e) q =
          let is = soonest_is now es e rise q in
          absurd (true≢false (sym is.1 ∙ (ap (may_take now) (sym is.0) ∙ none_found now es ds up are_of p e.1.due e.0 (listed due_of es ds rise up i e.0 e.1 is.0))))
      go (Some r) p None q =
          let f = first_found now es ds r up are_of p in
          let s = soonest_first now es r f.0 rise f.1.0 f.1.1.0 in
          some_none s.0 (sym s.1.0 ∙ q)
      go (Some r) p (Some e) q =
          let f = first_found now es ds r up are_of p in
          let s = soonest_first now es r f.0 rise f.1.0 f.1.1.0 in
          let one : s.0 ≡ e = same_some s.0 e (sym s.1.0 ∙ q) in
          let is = soonest_is now es e rise q in
          let both : (f.0.due, r) ≡ (e.1.due, e.0) = level ticket_total ticket_antisymmetric (f.0.due, r) (e.1.due, e.0)
          (f.1.1.1 e.1.due e.0 (listed due_of es ds rise up i e.0 e.1 is.0) (ap (may_take now) is.0 ∙ is.1))
          (subst (λ (g : Text × Record). is_gt (moment_cmp (g.1.due, g.0) (f.0.due, r)) ≡ false) one s.1.1) in
          ap (λ (x : ℕ × Text). Some x.1) both
