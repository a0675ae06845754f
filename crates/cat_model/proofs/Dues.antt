-- The moments of records of which one is put or taken away.
use Rattle.std.proofs.Common.{T, ◌≡◌, ℕ, ◌+◌, ◌≤◌, arith, Bool, true, false, cond, not, ◌&&◌, List, [], length, refl, sym, ap, subst, ◌∙◌, true≢false, Ordering, nat_cmp, is_some, option_map, unwrap_or}
use Rattle.std.specs.declared.option.Option.{Option}
use Rattle.std.specs.declared.option.Option.TheVariants.{None, Some}
use Rattle.std.specs.Ordering.{eq_by_cmp}
use Rattle.std.specs.Cmp.{IsTotalOrder, nat_cmp_total, eq_by_cmp_equiv}
use Rattle.std.specs.FinMap.{IsAntisymmetric, nat_cmp-IsAntisymmetric}
use Rattle.std.specs.FinMap.Entries.{find-put, is_sorted, is_sorted-put, is_sorted-where_key, length-put, length_without, same_entries}
use Rattle.cat_collections.specs.Rows.{without}
use Rattle.cat_collections.specs.Table.{Map, Text, find, get, put, same_text, text_cmp}
use Rattle.cat_collections.proofs.Tables.{same_is, same_self, text_antisymmetric, text_total}
use Rattle.cat_state_parts.proofs.Indexed.{find-without, same_ticket, ticket_antisymmetric, ticket_total, turned_number}
use Rattle.cat_model.specs.Dues.{AreMoments, Moments, is_at, moment_cmp, rerecorded_at}
use Rattle.cat_model.specs.declared.types.Lease.{Lease}
use Rattle.cat_model.specs.declared.types.Record.{Record}

to_T : (b : Bool) → b ≡ true → T b
to_T true h = tt
to_T false h = absurd (true≢false (sym h))

from_T : (b : Bool) → T b → b ≡ true
from_T true h = refl
from_T false h = absurd h

pub turned : {K : Type 0} {R : K → K → Ordering} → IsTotalOrder R → (k q : K) → eq_by_cmp R k q ≡ eq_by_cmp R q k
turned o k q = let e = eq_by_cmp_equiv o in e.symm k q

module _ {K X : Type 0} {R : K → K → Ordering} (o : IsTotalOrder R) (s : IsAntisymmetric R) where
  pub put_sorted : (k : K) (v : X) (m : List (K × X)) → is_sorted R m ≡ true → is_sorted R (put R k v m) ≡ true
  put_sorted k v m h = from_T _ (is_sorted-put R o k v m (to_T _ h))

  pub without_sorted : (k : K) (m : List (K × X)) → is_sorted R m ≡ true → is_sorted R (without R k m) ≡ true
  without_sorted k m h = from_T _ (is_sorted-where_key R (λ x. not (eq_by_cmp R k x)) m (to_T _ h))

  -- what is taken out and put again is as what is put
  pub put_again : (k : K) (v : X) (m : List (K × X)) → is_sorted R m ≡ true → put R k v (without R k m) ≡ put R k v m
  put_again k v m h =
      same_entries R o s (put R k v (without R k m)) (put R k v m) (to_T _ (put_sorted k v (without R k m) (without_sorted k m h))) (to_T _ (put_sorted k v m h))
      (λ q. find-put R o q k v (without R k m) ∙ (go q (eq_by_cmp R q k) refl ∙ sym (find-put R o q k v m)))
    where
      go : (q : K) (b : Bool) → eq_by_cmp R q k ≡ b → cond b (Some v) (find R q (without R k m)) ≡ cond b (Some v) (find R q m)
      go q true e = refl
      go q false e = find-without s k q m ∙ ap (λ b. cond (not b) (find R q m) None) (turned o k q ∙ e)

  -- what isn't there can't be taken out
  pub none_without : (k : K) (m : List (K × X)) → is_sorted R m ≡ true → find R k m ≡ None → without R k m ≡ m
  none_without k m h none =
      same_entries R o s (without R k m) m (to_T _ (without_sorted k m h)) (to_T _ h) (λ q. find-without s k q m ∙ go q (eq_by_cmp R k q) refl)
    where
      go : (q : K) (b : Bool) → eq_by_cmp R k q ≡ b → cond (not b) (find R q m) None ≡ find R q m
      go q true e = sym (ap (λ x. find R x m) (sym (same_is o s k q e)) ∙ none)
      go q false e = refl

  -- how many there are without one, and with one more
  pub count_without : (k : K) (x : X) (m : List (K × X)) → is_sorted R m ≡ true → find R k m ≡ Some x → 1 + length (without R k m) ≡ length m
  count_without k x m h e = ap (λ v. cond (is_some v) 1 0 + length (without R k m)) (sym e) ∙ length_without R o k m (to_T _ h)

  pub count_least : (k : K) (m : List (K × X)) → is_sorted R m ≡ true → length (without R k m) ≤ length m
  count_least k m h = go (is_some (find R k m)) (length_without R o k m (to_T _ h))
    where
      go : (b : Bool) → cond b 1 0 + length (without R k m) ≡ length m → length (without R k m) ≤ length m
      go true e = omega arith
      go false e = omega arith

  pub count_put : (k : K) (v : X) (m : List (K × X)) → is_sorted R m ≡ true → find R k m ≡ None → length (put R k v m) ≡ length m + 1
  count_put k v m h e = length-put R o k v m (to_T _ h) ∙ ap (λ w. cond (is_some w) (length m) (length m + 1)) e

  pub count_most : (k : K) (v : X) (m : List (K × X)) → is_sorted R m ≡ true → length (put R k v m) ≤ length m + 1
  count_most k v m h = go (is_some (find R k m)) (length-put R o k v m (to_T _ h))
    where
      go : (b : Bool) → length (put R k v m) ≡ cond b (length m) (length m + 1) → length (put R k v m) ≤ length m + 1
      go true e = omega arith
      go false e = omega arith

-- a key that is found has no value where it hasn't
none_of : {X : Type 0} (v : Option X) → is_some v ≡ false → v ≡ None
none_of None h = refl
none_of (Some x) h = absurd (true≢false h)

some_of : {X : Type 0} (v : Option X) → is_some v ≡ true → (x : X) × (v ≡ Some x)
some_of None h = absurd (true≢false (sym h))
some_of (Some x) h = (x, refl)

none_mapped : {A B : Type 0} (f : A → B) (v : Option A) → option_map f v ≡ None → v ≡ None
none_mapped f None e = refl
none_mapped f (Some a) e = absurd (true≢false (ap is_some e))

some_mapped : {A B : Type 0} (f : A → B) (v : Option A) (b : B) → option_map f v ≡ Some b → (a : A) × ((v ≡ Some a) × (f a ≡ b))
some_mapped f None b e = absurd (true≢false (sym (ap is_some e)))
some_mapped f (Some a) b e = (a, (refl, ap (λ v. unwrap_or v b) e))

-- an entry under its key
abbrev pub under : Text → Record → Text × Record
under k y = (k, y)

-- a moment of each record
module _ (f : Record → ℕ) where
  module _ (m : Map Record) (d : Moments) (rise : is_sorted text_cmp m ≡ true) (up : is_sorted moment_cmp d ≡ true) (i : AreMoments f m d) where
    -- the moment of a record stands with its reference
    pub listed : (k : Text) (x : Record) → get m k ≡ Some x → is_some (find moment_cmp (f x, k) d) ≡ true
    listed k x e = i.same (f x) k ∙ (ap (is_at f (f x)) e ∙ same_self nat_cmp_total nat_cmp-IsAntisymmetric (f x))

    -- without a record, and without its moment
    pub less : (k : Text) (x : Record) → get m k ≡ Some x → AreMoments f (without text_cmp k m) (without moment_cmp (f x, k) d)
    less k x e = record {
      same = λ t r. ap is_some (find-without ticket_antisymmetric (f x, k) (t, r) d)
          ∙ (ap (λ b. is_some (cond (not b) (find moment_cmp (t, r) d) None)) (same_ticket (f x) t k r)
          ∙ (go t r (eq_by_cmp nat_cmp (f x) t) refl (same_text k r) refl ∙ sym (ap (is_at f t) (find-without text_antisymmetric k r m))));
      count =
          let there = some_of (find moment_cmp (f x, k) d) (listed k x e) in
          omega (arith, i.count, count_without ticket_total ticket_antisymmetric (f x, k) there.0 d up there.1, count_without text_total text_antisymmetric k x m rise e);
    }
      where
        go : (t : ℕ) (r : Text) (b : Bool) → eq_by_cmp nat_cmp (f x) t ≡ b → (c : Bool) → same_text k r ≡ c
            → is_some (cond (not (b && c)) (find moment_cmp (t, r) d) None) ≡ is_at f t (cond (not c) (get m r) None)
        go t r true n true s = refl
        go t r true n false s = i.same t r
        go t r false n false s = i.same t r
        go t r false n true s = i.same t r ∙ (ap (is_at f t) (ap (get m) (sym (same_is text_total text_antisymmetric k r s)) ∙ e) ∙ (turned_number t (f x) ∙ n))

    -- with a record that wasn't there, and with its moment
    pub more : (k : Text) (x : Record) → get m k ≡ None → AreMoments f (put text_cmp k x m) (put moment_cmp (f x, k) (tt {0}) d)
    more k x e = record {
      same = λ t r. ap is_some (find-put moment_cmp ticket_total (t, r) (f x, k) (tt {0}) d)
          ∙ (ap (λ b. is_some (cond b (Some (tt {0})) (find moment_cmp (t, r) d))) (same_ticket t (f x) r k)
          ∙ (go t r (eq_by_cmp nat_cmp t (f x)) refl (same_text r k) refl ∙ sym (ap (is_at f t) (find-put text_cmp text_total r k x m))));
      count = omega (arith, i.count, count_put ticket_total ticket_antisymmetric (f x, k) (tt {0}) d up (none_of _ (i.same (f x) k ∙ ap (is_at f (f x)) e)), count_put text_total text_antisymmetric k x m rise e);
    }
      where
        go : (t : ℕ) (r : Text) (b : Bool) → eq_by_cmp nat_cmp t (f x) ≡ b → (c : Bool) → same_text r k ≡ c
            → is_some (cond (b && c) (Some (tt {0})) (find moment_cmp (t, r) d)) ≡ is_at f t (cond c (Some x) (get m r))
        go t r true n true s = sym n
        go t r true n false s = i.same t r
        go t r false n false s = i.same t r
        go t r false n true s = i.same t r ∙ (ap (is_at f t) (ap (get m) (same_is text_total text_antisymmetric r k s) ∙ e) ∙ sym n)

  -- with another record in place of one
  pub other : (m : Map Record) (d : Moments) → is_sorted text_cmp m ≡ true → is_sorted moment_cmp d ≡ true → AreMoments f m d → (k : Text) (x y : Record) → get m k ≡ Some x
      → AreMoments f (put text_cmp k y m) (put moment_cmp (f y, k) (tt {0}) (without moment_cmp (f x, k) d))
  other m d rise up i k x y e =
      subst (λ (n : Map Record). AreMoments f n (put moment_cmp (f y, k) (tt {0}) (without moment_cmp (f x, k) d))) (put_again text_total text_antisymmetric k y m rise)
      (more (without text_cmp k m) (without moment_cmp (f x, k) d) (without_sorted text_total text_antisymmetric k m rise) (without_sorted ticket_total ticket_antisymmetric (f x, k) d up) (less m d rise up i k x e) k y
      (find-without text_antisymmetric k k m ∙ ap (λ b. cond (not b) (get m k) None) (same_self text_total text_antisymmetric k)))

  -- no records have no moments
  pub no_moments : AreMoments f [] []
  no_moments = record { same = λ t r. refl; count = refl }

  pub same_moments : (m m' : Map Record) (d d' : Moments) → m' ≡ m → d' ≡ d → AreMoments f m d → AreMoments f m' d'
  same_moments m m' d d' e h i = subst (λ x. AreMoments f x d') (sym e) (subst (λ x. AreMoments f m x) (sym h) i)

  -- ---- what the calls make

  module _ (m : Map Record) (d : Moments) (rise : is_sorted text_cmp m ≡ true) (up : is_sorted moment_cmp d ≡ true) (i : AreMoments f m d) (k : Text) (v : Option (Text × Record)) (is : v ≡ option_map (under k) (get m k)) where
    -- where there is none
    pub absent : v ≡ None → get m k ≡ None
    absent e = none_mapped (under k) (get m k) (sym is ∙ e)

    -- where there is one
    present : (was : Text × Record) → v ≡ Some was → (a : Record) × ((get m k ≡ Some a) × ((k, a) ≡ was))
    present was e = some_mapped (under k) (get m k) was (sym is ∙ e)

    pub put_new : v ≡ None → (x : Record) (m' : Map Record) (d' : Moments) → m' ≡ put text_cmp k x m → d' ≡ put moment_cmp (f x, k) (tt {0}) d → AreMoments f m' d'
    put_new e x m' d' p q = same_moments (put text_cmp k x m) m' (put moment_cmp (f x, k) (tt {0}) d) d' p q (more m d rise up i k x (absent e))

    pub put_over : (was : Text × Record) → v ≡ Some was → (x : Record) (m' : Map Record) (d1 d' : Moments) → m' ≡ put text_cmp k x m → d1 ≡ without moment_cmp (f was.1, was.0) d → d' ≡ put moment_cmp (f x, k) (tt {0}) d1 → AreMoments f m' d'
    put_over was e x m' d1 d' p q r =
        let a = present was e in
        same_moments (put text_cmp k x m) m' (put moment_cmp (f x, k) (tt {0}) (without moment_cmp (f a.0, k) d)) d' p
        (r ∙ ap (put moment_cmp (f x, k) (tt {0})) (q ∙ ap (λ (g : Text × Record). without moment_cmp (f g.1, g.0) d) (sym a.1.1)))
        (other m d rise up i k a.0 x a.1.0)

    pub taken_out : (was : Text × Record) → v ≡ Some was → (m' : Map Record) (d' : Moments) → m' ≡ without text_cmp k m → d' ≡ without moment_cmp (f was.1, k) d → AreMoments f m' d'
    taken_out was e m' d' p q =
        let a = present was e in
        same_moments (without text_cmp k m) m' (without moment_cmp (f a.0, k) d) d' p (q ∙ ap (λ (g : Text × Record). without moment_cmp (f g.1, k) d) (sym a.1.1)) (less m d rise up i k a.0 a.1.0)

    pub none_taken : v ≡ None → (m' : Map Record) → m' ≡ without text_cmp k m → m' ≡ m
    none_taken e m' p = p ∙ none_without text_total text_antisymmetric k m rise (absent e)

    pub none_out : v ≡ None → (m' : Map Record) → m' ≡ without text_cmp k m → AreMoments f m' d
    none_out e m' p = subst (λ (x : Map Record). AreMoments f x d) (sym (none_taken e m' p)) i

    -- taken out, and put back as another
    pub put_back : (was : Text × Record) → v ≡ Some was → (y : Record) (m1 m' : Map Record) → m1 ≡ without text_cmp k m → m' ≡ put text_cmp was.0 y m1 → m' ≡ put text_cmp k y m
    put_back was e y m1 m' p q =
        let a = present was e in
        q ∙ (ap (λ (g : Text × Record). put text_cmp g.0 y m1) (sym a.1.1) ∙ (ap (put text_cmp k y) p ∙ put_again text_total text_antisymmetric k y m rise))

    pub renewed : (was : Text × Record) → v ≡ Some was → (y : Record) (m1 m' : Map Record) (d' : Moments) → m1 ≡ without text_cmp k m → m' ≡ put text_cmp was.0 y m1
        → d' ≡ put moment_cmp (f y, was.0) (tt {0}) (without moment_cmp (f was.1, was.0) d) → AreMoments f m' d'
    renewed was e y m1 m' d' p q r =
        let a = present was e in
        same_moments (put text_cmp k y m) m' (put moment_cmp (f y, k) (tt {0}) (without moment_cmp (f a.0, k) d)) d' (put_back was e y m1 m' p q)
        (r ∙ ap (λ (g : Text × Record). put moment_cmp (f y, g.0) (tt {0}) (without moment_cmp (f g.1, g.0) d)) (sym a.1.1))
        (other m d rise up i k a.0 y a.1.0)

    pub renewed_is : (was : Text × Record) → v ≡ Some was → (due : Option ℕ) (lease : Option Lease) (y : Record) → y ≡ record was.1 { due = unwrap_or due was.1.due; lease = lease } → (m1 m' : Map Record)
        → m1 ≡ without text_cmp k m → m' ≡ put text_cmp was.0 y m1 → m' ≡ rerecorded_at k due lease (get m k) m
    renewed_is was e due lease y w m1 m' p q =
        let a = present was e in
        put_back was e y m1 m' p q
        ∙ (ap (λ z. put text_cmp k z m) (w ∙ ap (λ (g : Text × Record). record g.1 { due = unwrap_or due g.1.due; lease = lease }) (sym a.1.1))
        ∙ ap (λ o. rerecorded_at k due lease o m) (sym a.1.0))

    pub none_renewed : v ≡ None → (due : Option ℕ) (lease : Option Lease) (m' : Map Record) → m' ≡ without text_cmp k m → m' ≡ rerecorded_at k due lease (get m k) m
    none_renewed e due lease m' p = none_taken e m' p ∙ ap (λ o. rerecorded_at k due lease o m) (sym (absent e))
