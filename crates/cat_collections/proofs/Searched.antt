-- Where a key stands among entries in order, by how it stands to one of them.
use Rattle.std.proofs.Common.{◌≡◌, ℕ, zero, suc, ◌+◌, ◌<◌, ◌≤◌, ◌⊎◌, inl, inr, arith, Bool, true, false, cond, ◌&&◌, List, [], ◌∷◌, ◌++◌, length, get_or, refl, sym, ap, subst, ◌∙◌, Ordering, Less, Equal, Greater, length-append}
use Rattle.std.specs.declared.option.Option.TheVariants.{None, Some}
use Rattle.std.specs.Ordering.{eq_by_cmp, is_eq, is_lt, ordering_reverse}
use Rattle.std.specs.Cmp.{IsTotalOrder}
use Rattle.std.specs.FinMap.{IsAntisymmetric}
use Rattle.std.specs.Prelude.{if◌then◌else◌, is_some}
use Rattle.std.specs.FinMap.Entries.{below_all, by_order, is_sorted}
use Rattle.std.proofs.Math.ListN.{get_or-append, set}
use Rattle.std.proofs.Math.Seq.{get_or-append_seam}
use Rattle.std.proofs.lemmas.List.{get_or-append-add}
use Rattle.cat_collections.specs.Table.{find, put}
use Rattle.cat_collections.proofs.Placed.{put_at}
use Rattle.std.proofs.SliceLists.{any-default}
use Rattle.cat_collections.specs.Rows.{IsAt, IsBetween}
use Rattle.std.specs.Arc.{arc_value}
use Rattle.std.specs.declared.alloc.Global.{Global}
use Rattle.std.specs.declared.sync.Arc.{Arc}
use Rattle.cat_collections.specs.declared.tree.Fork.{Fork}
use Rattle.cat_collections.specs.declared.tree.Node.{Node}
use Rattle.cat_collections.specs.declared.tree.Node.TheVariants.{Fork as Node-Fork}
use Rattle.cat_collections.specs.Tree.{items}

first_true : (a b : Bool) → (a && b) ≡ true → a ≡ true
first_true true b e = refl
first_true false b e = e

second_true : (a b : Bool) → (a && b) ≡ true → b ≡ true
second_true true b e = e
second_true false b e = absurd (cc)

both_true : (a b : Bool) → a ≡ true → b ≡ true → (a && b) ≡ true
both_true true b p q = q
both_true false b p q = p

is_less : (o : Ordering) → is_lt o ≡ true → o ≡ Less
is_less Less e = refl
is_less Equal e = absurd (cc)
is_less Greater e = absurd (cc)

-- a place is before another, or so far after it
past : (j n : ℕ) → (j < n) ⊎ ((m : ℕ) × (j ≡ n + m))
past j zero = inr (j, omega arith)
past zero (suc n) = inl (omega arith)
past (suc j) (suc n) = more (past j n)
  where
    more : (j < n) ⊎ ((m : ℕ) × (j ≡ n + m)) → (suc j < suc n) ⊎ ((m : ℕ) × (suc j ≡ suc n + m))
    more (inl q) = inl (omega arith)
    more (inr q) = let e : j ≡ n + q.0 = q.1 in inr (q.0, omega arith)

module _ {K : Type 0} {R : K → K → Ordering} (o : IsTotalOrder R) where
  flipped : (a b : K) → R a b ≡ Less → R b a ≡ Greater
  flipped a b h = o.antisymm b a ∙ ap ordering_reverse h

  flipped_back : (a b : K) → R a b ≡ Greater → R b a ≡ Less
  flipped_back a b h = o.antisymm b a ∙ ap ordering_reverse h

-- the entries with another value at a key that is there
abbrev pub swapped : {K X : Type 0} → (K → K → Ordering) → K → X → List (K × X) → List (K × X)
swapped R k v m = if is_some (find R k m) then put R k v m else m

module _ {K X : Type 0} {R : K → K → Ordering} (o : IsTotalOrder R) (s : IsAntisymmetric R) where
  -- ---- the sides are in order

  below_front : (x : K) (l m : List (K × X)) → below_all R x (l ++ m) ≡ true → below_all R x l ≡ true
  below_front x [] m h = refl
  below_front x (e ∷ l) m h = both_true _ _ (first_true _ _ h) (below_front x l m (second_true _ _ h))

  pub sorted_left : (l : List (K × X)) (e : K × X) (r : List (K × X)) → is_sorted R (l ++ e ∷ r) ≡ true → is_sorted R l ≡ true
  sorted_left [] e r h = refl
  sorted_left (x ∷ l) e r h = both_true _ _ (below_front x.0 l (e ∷ r) (first_true _ _ h)) (sorted_left l e r (second_true _ _ h))

  pub sorted_right : (l : List (K × X)) (e : K × X) (r : List (K × X)) → is_sorted R (l ++ e ∷ r) ≡ true → is_sorted R r ≡ true
  sorted_right [] e r h = second_true _ _ h
  sorted_right (x ∷ l) e r h = sorted_right l e r (second_true _ _ h)

  below_middle : (x : K) (l : List (K × X)) (e : K × X) (r : List (K × X)) → below_all R x (l ++ e ∷ r) ≡ true → R x e.0 ≡ Less
  below_middle x [] e r h = is_less _ (first_true _ _ h)
  below_middle x (y ∷ l) e r h = below_middle x l e r (second_true _ _ h)

  -- ---- what is found

  find_below : (k x : K) (es : List (K × X)) → R k x ≡ Less → below_all R x es ≡ true → find R k es ≡ None
  find_below k x [] p h = refl
  find_below k x (e ∷ es) p h =
      ap (λ q. cond (is_eq q) (Some e.1) (find R k es)) (o.trans k x e.0 p (is_less _ (first_true _ _ h))) ∙ find_below k x es p (second_true _ _ h)

  -- a key that is not below e is above all before e
  above_left : (k : K) (x e : K × X) → R x.0 e.0 ≡ Less → R k e.0 ≡ Greater → R k x.0 ≡ Greater
  above_left k x e p q = flipped o x.0 k (o.trans x.0 e.0 k p (flipped_back o k e.0 q))

  tied_left : (k : K) (x e : K × X) → R x.0 e.0 ≡ Less → R k e.0 ≡ Equal → R k x.0 ≡ Greater
  tied_left k x e p q = flipped o x.0 k (ap (R x.0) (s k e.0 q) ∙ p)

  pub find_left : (k : K) (l : List (K × X)) (e : K × X) (r : List (K × X)) → is_sorted R (l ++ e ∷ r) ≡ true → R k e.0 ≡ Less → find R k (l ++ e ∷ r) ≡ find R k l
  find_left k [] e r h p = ap (λ q. cond (is_eq q) (Some e.1) (find R k r)) p ∙ find_below k e.0 r p (first_true _ _ h)
  find_left k (x ∷ l) e r h p = ap (cond (eq_by_cmp R k x.0) (Some x.1)) (find_left k l e r (second_true _ _ h) p)

  pub find_here : (k : K) (l : List (K × X)) (e : K × X) (r : List (K × X)) → is_sorted R (l ++ e ∷ r) ≡ true → R k e.0 ≡ Equal → find R k (l ++ e ∷ r) ≡ Some e.1
  find_here k [] e r h p = ap (λ q. cond (is_eq q) (Some e.1) (find R k r)) p
  find_here k (x ∷ l) e r h p =
      ap (λ q. cond (is_eq q) (Some x.1) (find R k (l ++ e ∷ r))) (tied_left k x e (below_middle x.0 l e r (first_true _ _ h)) p) ∙ find_here k l e r (second_true _ _ h) p

  pub find_right : (k : K) (l : List (K × X)) (e : K × X) (r : List (K × X)) → is_sorted R (l ++ e ∷ r) ≡ true → R k e.0 ≡ Greater → find R k (l ++ e ∷ r) ≡ find R k r
  find_right k [] e r h p = ap (λ q. cond (is_eq q) (Some e.1) (find R k r)) p
  find_right k (x ∷ l) e r h p =
      ap (λ q. cond (is_eq q) (Some x.1) (find R k (l ++ e ∷ r))) (above_left k x e (below_middle x.0 l e r (first_true _ _ h)) p) ∙ find_right k l e r (second_true _ _ h) p

  -- ---- what is put

  pub put_left : (k : K) (v : X) (l : List (K × X)) (e : K × X) (r : List (K × X)) → R k e.0 ≡ Less → put R k v (l ++ e ∷ r) ≡ put R k v l ++ e ∷ r
  put_left k v [] e r p = ap (λ q. by_order q ((k, v) ∷ e ∷ r) ((e.0, v) ∷ r) (e ∷ put R k v r)) p
  put_left k v (x ∷ l) e r p = go (R k x.0) (put_left k v l e r p)
    where
      go : (q : Ordering) → put R k v (l ++ e ∷ r) ≡ put R k v l ++ e ∷ r
          → by_order q ((k, v) ∷ x ∷ (l ++ e ∷ r)) ((x.0, v) ∷ (l ++ e ∷ r)) (x ∷ put R k v (l ++ e ∷ r)) ≡ by_order q ((k, v) ∷ x ∷ l) ((x.0, v) ∷ l) (x ∷ put R k v l) ++ e ∷ r
      go Less ih = refl
      go Equal ih = refl
      go Greater ih = ap (λ m. x ∷ m) ih

  pub put_middle : (k : K) (v : X) (l : List (K × X)) (e : K × X) (r : List (K × X)) → is_sorted R (l ++ e ∷ r) ≡ true → R k e.0 ≡ Equal → put R k v (l ++ e ∷ r) ≡ l ++ (e.0, v) ∷ r
  put_middle k v [] e r h p = ap (λ q. by_order q ((k, v) ∷ e ∷ r) ((e.0, v) ∷ r) (e ∷ put R k v r)) p
  put_middle k v (x ∷ l) e r h p =
      ap (λ q. by_order q ((k, v) ∷ x ∷ (l ++ e ∷ r)) ((x.0, v) ∷ (l ++ e ∷ r)) (x ∷ put R k v (l ++ e ∷ r))) (tied_left k x e (below_middle x.0 l e r (first_true _ _ h)) p)
      ∙ ap (λ m. x ∷ m) (put_middle k v l e r (second_true _ _ h) p)

  pub put_right : (k : K) (v : X) (l : List (K × X)) (e : K × X) (r : List (K × X)) → is_sorted R (l ++ e ∷ r) ≡ true → R k e.0 ≡ Greater → put R k v (l ++ e ∷ r) ≡ l ++ e ∷ put R k v r
  put_right k v [] e r h p = ap (λ q. by_order q ((k, v) ∷ e ∷ r) ((e.0, v) ∷ r) (e ∷ put R k v r)) p
  put_right k v (x ∷ l) e r h p =
      ap (λ q. by_order q ((k, v) ∷ x ∷ (l ++ e ∷ r)) ((x.0, v) ∷ (l ++ e ∷ r)) (x ∷ put R k v (l ++ e ∷ r))) (above_left k x e (below_middle x.0 l e r (first_true _ _ h)) p)
      ∙ ap (λ m. x ∷ m) (put_right k v l e r (second_true _ _ h) p)

  -- ---- a value in place of the one that is there

  pub swapped_left : (k : K) (v : X) (l : List (K × X)) (e : K × X) (r : List (K × X)) → is_sorted R (l ++ e ∷ r) ≡ true → R k e.0 ≡ Less → swapped R k v (l ++ e ∷ r) ≡ swapped R k v l ++ e ∷ r
  swapped_left k v l e r h p = ap (λ o. if is_some o then put R k v (l ++ e ∷ r) else (l ++ e ∷ r)) (find_left k l e r h p) ∙ go (is_some (find R k l))
    where
      go : (b : Bool) → (if b then put R k v (l ++ e ∷ r) else (l ++ e ∷ r)) ≡ (if b then put R k v l else l) ++ e ∷ r
      go true = put_left k v l e r p
      go false = refl

  pub swapped_here : (k : K) (v : X) (l : List (K × X)) (e : K × X) (r : List (K × X)) → is_sorted R (l ++ e ∷ r) ≡ true → R k e.0 ≡ Equal → swapped R k v (l ++ e ∷ r) ≡ l ++ (e.0, v) ∷ r
  swapped_here k v l e r h p = ap (λ o. if is_some o then put R k v (l ++ e ∷ r) else (l ++ e ∷ r)) (find_here k l e r h p) ∙ put_middle k v l e r h p

  pub swapped_right : (k : K) (v : X) (l : List (K × X)) (e : K × X) (r : List (K × X)) → is_sorted R (l ++ e ∷ r) ≡ true → R k e.0 ≡ Greater → swapped R k v (l ++ e ∷ r) ≡ l ++ e ∷ swapped R k v r
  swapped_right k v l e r h p = ap (λ o. if is_some o then put R k v (l ++ e ∷ r) else (l ++ e ∷ r)) (find_right k l e r h p) ∙ go (is_some (find R k r))
    where
      go : (b : Bool) → (if b then put R k v (l ++ e ∷ r) else (l ++ e ∷ r)) ≡ l ++ e ∷ (if b then put R k v r else r)
      go true = put_right k v l e r h p
      go false = refl

  -- ---- where a key stands

  -- all before e are below a key that is not below e
  before : (k : K) (l : List (K × X)) (e : K × X) (r : List (K × X)) → is_sorted R (l ++ e ∷ r) ≡ true → ((x : K × X) → R x.0 e.0 ≡ Less → R k x.0 ≡ Greater) → (i : ℕ) (d : K × X) → i < length l → R k (get_or (l ++ e ∷ r) i d).0 ≡ Greater
  before k [] e r h f i d q = absurd (omega arith)
  before k (x ∷ l) e r h f zero d q = f x (below_middle x.0 l e r (first_true _ _ h))
  before k (x ∷ l) e r h f (suc i) d q = before k l e r (second_true _ _ h) f i d (omega arith)

  all_above : (k x : K) (es : List (K × X)) → R k x ≡ Less → below_all R x es ≡ true → (i : ℕ) (d : K × X) → i < length es → R k (get_or es i d).0 ≡ Less
  all_above k x [] p h i d q = absurd (omega arith)
  all_above k x (e ∷ es) p h zero d q = o.trans k x e.0 p (is_less _ (first_true _ _ h))
  all_above k x (e ∷ es) p h (suc i) d q = all_above k x es p (second_true _ _ h) i d (omega arith)

  -- e and all after it are above a key below e
  after : (k : K) (l : List (K × X)) (e : K × X) (r : List (K × X)) → is_sorted R (l ++ e ∷ r) ≡ true → R k e.0 ≡ Less → (i : ℕ) (d : K × X) → length l ≤ i → i < length (l ++ e ∷ r) → R k (get_or (l ++ e ∷ r) i d).0 ≡ Less
  after k [] e r h p zero d q u = p
  after k [] e r h p (suc i) d q u = all_above k e.0 r p (first_true _ _ h) i d (omega arith)
  after k (x ∷ l) e r h p zero d q u = absurd (omega arith)
  after k (x ∷ l) e r h p (suc i) d q u = after k l e r (second_true _ _ h) p i d (omega arith) (omega arith)

  module _ (k : K) (l : List (K × X)) (e : K × X) (r : List (K × X)) where
    long : length (l ++ e ∷ r) ≡ length l + suc (length r)
    long = length-append l (e ∷ r)

    in_left : (i : ℕ) (d : K × X) → i < length l → R k (get_or (l ++ e ∷ r) i d).0 ≡ R k (get_or l i d).0
    in_left i d h = ap (λ (x : K × X). R k x.0) (get_or-append l (e ∷ r) d i h)

    in_right : (i : ℕ) (d : K × X) → R k (get_or (l ++ e ∷ r) (length l + suc i) d).0 ≡ R k (get_or r i d).0
    in_right i d = ap (λ (x : K × X). R k x.0) (get_or-append-add l (e ∷ r) (suc i) d)

    pub at_left : (i : ℕ) → IsAt R k l i → IsAt R k (l ++ e ∷ r) i
    at_left i a =
        let w = a.within in
        record {
          within = omega (arith, long);
          below = λ j d h. in_left j d (omega arith) ∙ a.below j d h;
          tied = λ d. in_left i d w ∙ a.tied d;
        }

    pub at_here : is_sorted R (l ++ e ∷ r) ≡ true → R k e.0 ≡ Equal → IsAt R k (l ++ e ∷ r) (length l)
    at_here h p = record {
      within = omega (arith, long);
      below = before k l e r h (λ x q. tied_left k x e q p);
      tied = λ d. ap (λ (x : K × X). R k x.0) (get_or-append_seam l e r d) ∙ p;
    }

    pub between_left : (i : ℕ) → is_sorted R (l ++ e ∷ r) ≡ true → R k e.0 ≡ Less → IsBetween R k l i → IsBetween R k (l ++ e ∷ r) i
    between_left i h p b =
        let w = b.within in
        record {
          within = omega (arith, long);
          below = λ j d q. in_left j d (omega arith) ∙ b.below j d q;
          above = λ j d q u. go j d q u (past j (length l));
        }
      where
        go : (j : ℕ) (d : K × X) → i ≤ j → j < length (l ++ e ∷ r) → (j < length l) ⊎ ((m : ℕ) × (j ≡ length l + m)) → R k (get_or (l ++ e ∷ r) j d).0 ≡ Less
        go j d q u (inl v) = in_left j d v ∙ b.above j d q v
        go j d q u (inr v) = let m : j ≡ length l + v.0 = v.1 in after k l e r h p j d (omega arith) u

    -- with e at the front, what holds before a place on the right holds before its place in the whole
    below_right : (i : ℕ) → is_sorted R (l ++ e ∷ r) ≡ true → R k e.0 ≡ Greater → ((j : ℕ) (d : K × X) → j < i → R k (get_or r j d).0 ≡ Greater) → (j : ℕ) (d : K × X) → j < length l + 1 + i → R k (get_or (l ++ e ∷ r) j d).0 ≡ Greater
    below_right i h p f j d q = go (past j (length l))
      where
        on : (m : ℕ) → m < suc i → R k (get_or (l ++ e ∷ r) (length l + m) d).0 ≡ Greater
        on zero u = ap (λ (x : K × X). R k x.0) (get_or-append-add l (e ∷ r) 0 d) ∙ p
        on (suc m) u = in_right m d ∙ f m d (omega arith)

        go : (j < length l) ⊎ ((m : ℕ) × (j ≡ length l + m)) → R k (get_or (l ++ e ∷ r) j d).0 ≡ Greater
        go (inl v) = before k l e r h (λ x q. above_left k x e q p) j d v
        go (inr v) = let m : j ≡ length l + v.0 = v.1 in subst (λ t. R k (get_or (l ++ e ∷ r) t d).0 ≡ Greater) (sym m) (on v.0 (omega arith))

    pub at_right : (i : ℕ) → is_sorted R (l ++ e ∷ r) ≡ true → R k e.0 ≡ Greater → IsAt R k r i → IsAt R k (l ++ e ∷ r) (length l + 1 + i)
    at_right i h p a =
        let w = a.within in
        let n : length l + suc i ≡ length l + 1 + i = omega arith in
        record {
          within = omega (arith, long);
          below = below_right i h p a.below;
          tied = λ d. subst (λ t. R k (get_or (l ++ e ∷ r) t d).0 ≡ Equal) n (in_right i d ∙ a.tied d);
        }

    pub between_right : (i : ℕ) → is_sorted R (l ++ e ∷ r) ≡ true → R k e.0 ≡ Greater → IsBetween R k r i → IsBetween R k (l ++ e ∷ r) (length l + 1 + i)
    between_right i h p b =
        let w = b.within in
        record {
          within = omega (arith, long);
          below = below_right i h p b.below;
          above = λ j d q u. go j d q u (past j (length l));
        }
      where
        on : (m : ℕ) (d : K × X) → suc i ≤ m → length l + m < length (l ++ e ∷ r) → R k (get_or (l ++ e ∷ r) (length l + m) d).0 ≡ Less
        on zero d u v = absurd (omega arith)
        on (suc m) d u v = in_right m d ∙ b.above m d (omega arith) (omega (arith, long))

        go : (j : ℕ) (d : K × X) → length l + 1 + i ≤ j → j < length (l ++ e ∷ r) → (j < length l) ⊎ ((m : ℕ) × (j ≡ length l + m)) → R k (get_or (l ++ e ∷ r) j d).0 ≡ Less
        go j d q u (inl v) = absurd (omega arith)
        go j d q u (inr v) = let m : j ≡ length l + v.0 = v.1 in subst (λ t. R k (get_or (l ++ e ∷ r) t d).0 ≡ Less) (sym m) (on v.0 d (omega arith) (omega arith))

-- ---- a fork that is opened

-- entries in order, seen as those before one of them, that one, and those after it
pub record AtFork {K X : Type 0} (R : K → K → Ordering) (all l : List (K × X)) (e : K × X) (r : List (K × X)) : Type 0 where
  pub is : all ≡ l ++ e ∷ r
  pub sorted : is_sorted R (l ++ e ∷ r) ≡ true
  pub shorter : (length l < length all) × (length r < length all)

pub at_fork : {K X : Type 0} {R : K → K → Ordering} {n : Node (K × X)} {all : List (K × X)} {f : Arc (Fork (K × X)) Global} {d : Fork (K × X)} {e : K × X}
    → items n ≡ all → n ≡ Node-Fork f → d ≡ arc_value f → e ≡ arc_value d.item → is_sorted R all ≡ true → AtFork R all d.left e d.right
at_fork {K} {X} {R} {n} {all} {f} {d} {e} view is fork_is item_is h =
    let p : all ≡ d.left ++ e ∷ d.right =
    sym view ∙ (ap items is ∙ (ap (λ (x : Fork (K × X)). x.left ++ arc_value x.item ∷ x.right) (sym fork_is) ∙ ap (λ (x : K × X). d.left ++ x ∷ d.right) (sym item_is))) in
    record { is = p; sorted = subst (λ l. is_sorted R l ≡ true) p h; shorter = rw p (omega (arith, length-append d.left (e ∷ d.right))) }

-- a value put at a key that is there
pub put_here : {K X : Type 0} {R : K → K → Ordering} (o : IsTotalOrder R) (s : IsAntisymmetric R) (k : K) (v : X) (rows : List (K × X)) (i : ℕ) → IsAt R k rows i → set rows i (k, v) ≡ put R k v rows
put_here {K} {X} {R} o s k v rows i a =
    let y = get_or rows i (k, v) in
    let is : y ≡ get_or rows i y = any-default rows i (k, v) y a.within in
    ap (λ x. set rows i (x, v)) (s k y.0 (ap (λ (e : K × X). R k e.0) is ∙ a.tied y)) ∙ put_at o s k v rows i y a is
