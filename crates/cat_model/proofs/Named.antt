-- The index of rows by the shelf names that they may read, where one is put, replaced or removed.
use Rattle.std.proofs.Common.{◌≡◌, ℕ, Bool, true, false, cond, not, ◌&&◌, ◌||◌, List, [], ◌∷◌, refl, sym, ap, subst, ◌∙◌, true≢false, nat_cmp, is_some, unwrap_or}
use Rattle.std.specs.declared.option.Option.{Option}
use Rattle.std.specs.declared.option.Option.TheVariants.{None, Some}
use Rattle.std.specs.List.{list_any}
use Rattle.std.specs.Ordering.{eq_by_cmp}
use Rattle.std.specs.Cmp.{nat_cmp_total, eq_by_cmp_equiv}
use Rattle.std.specs.FinMap.{nat_cmp-IsAntisymmetric}
use Rattle.std.specs.FinMap.Entries.{find-put, is_some-find, is_sorted}
use Rattle.cat_collections.specs.Rows.{without}
use Rattle.cat_collections.specs.Table.{Map, Text, find, get, keys, put, same_text, text_cmp}
use Rattle.cat_collections.proofs.Orders.{has-filter}
use Rattle.cat_collections.proofs.Tables.{find-put_other, find-put_same, same_is, same_self, text_antisymmetric, text_total}
use Rattle.cat_model.specs.Rows.{AreRead, Arrivals, Rows, has_arrival, may_read, names_of, reading, row_at, set_with, set_without, with_arrival, with_names, with_read, with_set, without_arrival, without_names}
use Rattle.cat_model.specs.declared.types.Row.{Row}
use Rattle.cat_model.proofs.Indexed.{find-without, indexed, with_set_there}

turned : (a b : ℕ) → eq_by_cmp nat_cmp a b ≡ eq_by_cmp nat_cmp b a
turned a b = let e = eq_by_cmp_equiv nat_cmp_total in e.symm a b

-- ---- one name

-- the key has what is left of its set
set_here : (k : Text) (set : Arrivals) (index : Map Arrivals) → unwrap_or (get (with_set text_cmp k set index) k) [] ≡ set
set_here k [] index = ap (λ (v : Option Arrivals). unwrap_or v []) (find-without text_antisymmetric k k index ∙ ap (λ b. cond (not b) (get index k) None) (same_self text_total text_antisymmetric k))
set_here k (e ∷ es) index = ap (λ (v : Option Arrivals). unwrap_or v []) (find-put_same text_total text_antisymmetric k (e ∷ es) index)

is_some_cond : (c : Bool) (v : Option (Unit {0})) → is_some (cond c (Some tt) v) ≡ (c || is_some v)
is_some_cond true v = refl
is_some_cond false v = refl

is_some_left : (c : Bool) (v : Option (Unit {0})) → is_some (cond (not c) v None) ≡ (not c && is_some v)
is_some_left true v = refl
is_some_left false v = refl

-- what stands under a name where one arrival comes under one
one_more : (t k : Text) (a b : ℕ) (index : Map Arrivals) → has_arrival t b (with_arrival text_cmp k a index) ≡ ((same_text t k && eq_by_cmp nat_cmp b a) || has_arrival t b index)
one_more t k a b index = go (same_text t k) refl
  where
    go : (c : Bool) → same_text t k ≡ c → has_arrival t b (with_arrival text_cmp k a index) ≡ ((c && eq_by_cmp nat_cmp b a) || has_arrival t b index)
    go true s =
        let same = same_is text_total text_antisymmetric t k s in
        ap (λ (q : Text). has_arrival q b (with_arrival text_cmp k a index)) same
        ∙ (ap (λ (v : Option Arrivals). is_some (find nat_cmp b (unwrap_or v []))) (find-put_same text_total text_antisymmetric k (set_with text_cmp k a index) index)
        ∙ (ap is_some (find-put nat_cmp nat_cmp_total b a tt (unwrap_or (get index k) []))
        ∙ (is_some_cond (eq_by_cmp nat_cmp b a) (find nat_cmp b (unwrap_or (get index k) []))
        ∙ ap (λ (q : Text). eq_by_cmp nat_cmp b a || has_arrival q b index) (sym same))))
    go false s = ap (λ (v : Option Arrivals). is_some (find nat_cmp b (unwrap_or v []))) (find-put_other text_total text_antisymmetric t k (set_with text_cmp k a index) index s)

-- and where one goes from under one
one_less : (t k : Text) (a b : ℕ) (index : Map Arrivals) → has_arrival t b (without_arrival text_cmp k a index) ≡ (not (same_text t k && eq_by_cmp nat_cmp b a) && has_arrival t b index)
one_less t k a b index = go (same_text t k) refl
  where
    go : (c : Bool) → same_text t k ≡ c → has_arrival t b (without_arrival text_cmp k a index) ≡ (not (c && eq_by_cmp nat_cmp b a) && has_arrival t b index)
    go true s =
        let same = same_is text_total text_antisymmetric t k s in
        let set : Arrivals = unwrap_or (get index k) [] in
        ap (λ (q : Text). has_arrival q b (without_arrival text_cmp k a index)) same
        ∙ (ap (λ (l : Arrivals). is_some (find nat_cmp b l)) (set_here k (set_without text_cmp k a index) index)
        ∙ (ap is_some (find-without nat_cmp-IsAntisymmetric a b set)
        ∙ (is_some_left (eq_by_cmp nat_cmp a b) (find nat_cmp b set)
        ∙ (ap (λ c. not c && is_some (find nat_cmp b set)) (turned a b)
        ∙ ap (λ (q : Text). not (eq_by_cmp nat_cmp b a) && has_arrival q b index) (sym same)))))
    go false s = ap (λ (v : Option Arrivals). is_some (find nat_cmp b (unwrap_or v []))) (with_set_there t k (set_without text_cmp k a index) index s)

-- ---- all names

more_joined : (x y z h : Bool) → ((y && z) || ((x && z) || h)) ≡ (((x || y) && z) || h)
more_joined true true true h = refl
more_joined true true false h = refl
more_joined true false true h = refl
more_joined true false false h = refl
more_joined false true true h = refl
more_joined false true false h = refl
more_joined false false true h = refl
more_joined false false false h = refl

less_joined : (x y z h : Bool) → (not (y && z) && (not (x && z) && h)) ≡ (not ((x || y) && z) && h)
less_joined true true true h = refl
less_joined true true false h = refl
less_joined true false true h = refl
less_joined true false false h = refl
less_joined false true true h = refl
less_joined false true false h = refl
less_joined false false true h = refl
less_joined false false false h = refl

all_more : (t : Text) (ks : List Text) (a b : ℕ) (index : Map Arrivals) → has_arrival t b (with_names ks a index) ≡ ((list_any (same_text t) ks && eq_by_cmp nat_cmp b a) || has_arrival t b index)
all_more t [] a b index = refl
all_more t (k ∷ ks) a b index =
    all_more t ks a b (with_arrival text_cmp k a index)
    ∙ (ap (λ h. (list_any (same_text t) ks && eq_by_cmp nat_cmp b a) || h) (one_more t k a b index)
    ∙ more_joined (same_text t k) (list_any (same_text t) ks) (eq_by_cmp nat_cmp b a) (has_arrival t b index))

all_less : (t : Text) (ks : List Text) (a b : ℕ) (index : Map Arrivals) → has_arrival t b (without_names ks a index) ≡ (not (list_any (same_text t) ks && eq_by_cmp nat_cmp b a) && has_arrival t b index)
all_less t [] a b index = refl
all_less t (k ∷ ks) a b index =
    all_less t ks a b (without_arrival text_cmp k a index)
    ∙ (ap (λ h. not (list_any (same_text t) ks && eq_by_cmp nat_cmp b a) && h) (one_less t k a b index)
    ∙ less_joined (same_text t k) (list_any (same_text t) ks) (eq_by_cmp nat_cmp b a) (has_arrival t b index))

-- ---- rows

module _ (rows : Rows) (index : Map Arrivals) (i : AreRead rows index) (a : ℕ) where
  -- the row that an arrival has no longer stands under any name
  gone : (t : Text) → has_arrival t a (without_names (names_of (row_at rows a)) a index) ≡ false
  gone t =
      all_less t (names_of (row_at rows a)) a a index
      ∙ (ap (λ c. not (may_read t (row_at rows a) && c) && has_arrival t a index) (same_self nat_cmp_total nat_cmp-IsAntisymmetric a)
      ∙ (ap (λ h. not (may_read t (row_at rows a) && true) && h) (i.read t a) ∙ none (may_read t (row_at rows a))))
    where
      none : (b : Bool) → (not (b && true) && b) ≡ false
      none true = refl
      none false = refl

  -- and each other stands where it stood
  stays : (t : Text) (b : ℕ) → eq_by_cmp nat_cmp b a ≡ false → has_arrival t b (without_names (names_of (row_at rows a)) a index) ≡ may_read t (row_at rows b)
  stays t b n =
      all_less t (names_of (row_at rows a)) a b index
      ∙ (ap (λ c. not (may_read t (row_at rows a) && c) && has_arrival t b index) n ∙ (same (may_read t (row_at rows a)) (has_arrival t b index) ∙ i.read t b))
    where
      same : (c h : Bool) → (not (c && false) && h) ≡ h
      same true h = refl
      same false h = refl

  -- the index with a row in place of the one that its arrival had, if it had one
  pub put_read : (row : Row) → AreRead (put nat_cmp a row rows) (with_read rows a row index)
  put_read row = record { read = λ t b. go t b (eq_by_cmp nat_cmp b a) refl }
    where
      go : (t : Text) (b : ℕ) (c : Bool) → eq_by_cmp nat_cmp b a ≡ c → has_arrival t b (with_read rows a row index) ≡ may_read t (row_at (put nat_cmp a row rows) b)
      go t b true e =
          let same = same_is nat_cmp_total nat_cmp-IsAntisymmetric b a e in
          ap (λ (x : ℕ). has_arrival t x (with_read rows a row index)) same
          ∙ (all_more t (names_of (Some row)) a a (without_names (names_of (row_at rows a)) a index)
          ∙ (ap (λ c. (may_read t (Some row) && c) || has_arrival t a (without_names (names_of (row_at rows a)) a index)) (same_self nat_cmp_total nat_cmp-IsAntisymmetric a)
          ∙ (ap (λ h. (may_read t (Some row) && true) || h) (gone t)
          ∙ (whole (may_read t (Some row))
          ∙ (sym (ap (may_read t) (find-put_same nat_cmp_total nat_cmp-IsAntisymmetric a row rows))
          ∙ ap (λ (x : ℕ). may_read t (row_at (put nat_cmp a row rows) x)) (sym same))))))
        where
          whole : (b : Bool) → ((b && true) || false) ≡ b
          whole true = refl
          whole false = refl
      go t b false e =
          all_more t (names_of (Some row)) a b (without_names (names_of (row_at rows a)) a index)
          ∙ (ap (λ c. (may_read t (Some row) && c) || has_arrival t b (without_names (names_of (row_at rows a)) a index)) e
          ∙ (rest (may_read t (Some row)) (has_arrival t b (without_names (names_of (row_at rows a)) a index))
          ∙ (stays t b e ∙ sym (ap (may_read t) (find-put_other nat_cmp_total nat_cmp-IsAntisymmetric b a row rows e)))))
        where
          rest : (c h : Bool) → ((c && false) || h) ≡ h
          rest true h = refl
          rest false h = refl

  -- and without it
  pub less_read : AreRead (without nat_cmp a rows) (without_names (names_of (row_at rows a)) a index)
  less_read = record { read = λ t b. go t b (eq_by_cmp nat_cmp b a) refl }
    where
      left : (t : Text) (b : ℕ) (c : Bool) → eq_by_cmp nat_cmp b a ≡ c → row_at (without nat_cmp a rows) b ≡ cond (not c) (row_at rows b) None
      left t b c e = find-without nat_cmp-IsAntisymmetric a b rows ∙ ap (λ c. cond (not c) (row_at rows b) None) (turned a b ∙ e)

      go : (t : Text) (b : ℕ) (c : Bool) → eq_by_cmp nat_cmp b a ≡ c → has_arrival t b (without_names (names_of (row_at rows a)) a index) ≡ may_read t (row_at (without nat_cmp a rows) b)
      go t b true e =
          ap (λ (x : ℕ). has_arrival t x (without_names (names_of (row_at rows a)) a index)) (same_is nat_cmp_total nat_cmp-IsAntisymmetric b a e)
          ∙ (gone t ∙ sym (ap (may_read t) (left t b true e)))
      go t b false e = stays t b e ∙ sym (ap (may_read t) (left t b false e))

-- ---- what a name finds

-- the arrivals under a name are those of the rows that may read it
pub read_are : (rows : Rows) (index : Map Arrivals) → AreRead rows index → (t : Text) → is_sorted nat_cmp rows ≡ true → is_sorted nat_cmp (unwrap_or (get index t) []) ≡ true
    → keys (unwrap_or (get index t) []) ≡ reading rows t
read_are rows index i t rise set_rise =
    indexed (may_read t) refl rows (unwrap_or (get index t) []) rise set_rise
    (λ a. sym (is_some-find nat_cmp a (unwrap_or (get index t) [])) ∙ i.read t a)

-- a row that may read a name is among those that do
pub reading_has : (rows : Rows) (t : Text) (a : ℕ) → may_read t (row_at rows a) ≡ true → list_any (eq_by_cmp nat_cmp a) (reading rows t) ≡ true
reading_has rows t a reads =
    has-filter nat_cmp_total nat_cmp-IsAntisymmetric (λ b. may_read t (row_at rows b)) a (keys rows)
    ∙ (ap (λ b. b && list_any (eq_by_cmp nat_cmp a) (keys rows)) reads ∙ (sym (is_some-find nat_cmp a rows) ∙ there (row_at rows a) refl))
  where
    there : (v : Option Row) → row_at rows a ≡ v → is_some (row_at rows a) ≡ true
    there None e = absurd (true≢false (sym (sym (ap (may_read t) e) ∙ reads)))
    there (Some row) e = ap is_some e

-- ---- where memory may be wanted

pub same_read : (rows rows' : Rows) (a a' : Map Arrivals) → rows' ≡ rows → a' ≡ a → AreRead rows a → AreRead rows' a'
same_read rows rows' a a' e f h = subst (λ x. AreRead x a') (sym e) (subst (AreRead rows) (sym f) h)
