-- The indices of rows of which one is put, replaced or removed.
use Rattle.std.proofs.Common.{not, T, ◌≡◌, ◌==◌, length, ℕ, Bool, true, false, cond, ◌&&◌, List, [], ◌∷◌, refl, sym, ap, subst, ◌∙◌, true≢false, Ordering, nat_cmp, is_some, is_lt, unwrap_or}
use Rattle.std.specs.declared.option.Option.{Option}
use Rattle.std.specs.declared.option.Option.TheVariants.{None, Some}
use Rattle.std.specs.List.{filter, list_any}
use Rattle.std.specs.Ordering.{eq_by_cmp}
use Rattle.std.specs.Cmp.{nat_cmp_total}
use Rattle.std.specs.FinMap.{IsAntisymmetric, nat_cmp-IsAntisymmetric}
use Rattle.std.specs.FinMap.Entries.{is_sorted, below_all, where_key, is_sorted-where_key, is_sorted-put, is_some-find, find-put, find-where_key, same_entries}
use Rattle.cat_collections.specs.Rows.{without}
use Rattle.cat_collections.specs.Table.{Map, Text, find, get, keys, put, text_cmp, same_text}
use Rattle.cat_collections.proofs.Tables.{text_total, text_antisymmetric, same_is, same_self, find-put_same, find-put_other, found_key}
use Rattle.cat_collections.proofs.Orders.{has-filter}
use Rattle.cat_model.specs.declared.types.Row.{Row}
use Rattle.cat_model.specs.declared.types.Origin.TheVariants.{Provider, Entity}
use Rattle.cat_model.specs.declared.types.Origin.{Origin}
use Rattle.cat_model.specs.Rows.{Rows, Arrivals, row_at, same_origin, is_from, given, is_named, named, arrivals_of, IsIndexed, IsRowAt, set_with, with_arrival, Rises, with_given, GivenRises, set_without, with_set, without_arrival, RisesLess, without_given, GivenRisesLess}

-- whether an arrival is among these
abbrev among : ℕ → List ℕ → Bool
among a arrivals = list_any (eq_by_cmp nat_cmp a) arrivals

-- the arrivals of rows, as a set
bare : Rows → Arrivals
bare [] = []
bare (e ∷ es) = (e.0, tt) ∷ bare es

below_bare : (k : ℕ) (es : Rows) → below_all nat_cmp k (bare es) ≡ below_all nat_cmp k es
unfolding bare
below_bare k [] = refl
below_bare k (e ∷ es) = ap (λ b. is_lt (nat_cmp k e.0) && b) (below_bare k es)

sorted_bare : (es : Rows) → is_sorted nat_cmp (bare es) ≡ is_sorted nat_cmp es
unfolding bare
sorted_bare [] = refl
sorted_bare (e ∷ es) = (λ i. below_bare e.0 es i && sorted_bare es i)

keys_where : (p : ℕ → Bool) (es : Rows) → keys (where_key nat_cmp p (bare es)) ≡ filter p (keys es)
unfolding bare
keys_where p [] = refl
keys_where p (e ∷ es) = go (p e.0) (keys_where p es)
  where
    go : (b : Bool) → keys (where_key nat_cmp p (bare es)) ≡ filter p (keys es) → keys (cond b ((e.0, tt) ∷ where_key nat_cmp p (bare es)) (where_key nat_cmp p (bare es))) ≡ cond b (e.0 ∷ filter p (keys es)) (filter p (keys es))
    go true h = ap (λ t. e.0 ∷ t) h
    go false h = h

same_units : (u v : Option (Unit {0})) → is_some u ≡ is_some v → u ≡ v
same_units None None e = refl
same_units None (Some x) e = absurd (true≢false (sym e))
same_units (Some x) None e = absurd (true≢false e)
same_units (Some x) (Some y) e = refl

-- a set that has just the arrivals of the rows that pass is the list of them
pub indexed : (q : Option Row → Bool) → q None ≡ false → (rows : Rows) (set : Arrivals) → is_sorted nat_cmp rows ≡ true → is_sorted nat_cmp set ≡ true
    → ((a : ℕ) → among a (keys set) ≡ q (row_at rows a)) → keys set ≡ filter (λ a. q (row_at rows a)) (keys rows)
indexed q none rows set rows_rise set_rise same =
    ap keys (same_entries nat_cmp nat_cmp_total nat_cmp-IsAntisymmetric set (where_key nat_cmp p (bare rows)) (subst T (sym set_rise) tt)
    (is_sorted-where_key nat_cmp p (bare rows) (subst T (sym (sorted_bare rows ∙ rows_rise)) tt))
    (λ a. same_units (find nat_cmp a set) (find nat_cmp a (where_key nat_cmp p (bare rows)))
    (is_some-find nat_cmp a set ∙ (same a ∙ sym (is_some-find nat_cmp a (where_key nat_cmp p (bare rows)) ∙ (ap (among a) (keys_where p rows) ∙ (has-filter nat_cmp_total nat_cmp-IsAntisymmetric p a (keys rows) ∙ there a (row_at rows a) refl)))))))
    ∙ keys_where p rows
  where
    p : ℕ → Bool
    p a = q (row_at rows a)

    there : (a : ℕ) (v : Option Row) → row_at rows a ≡ v → (p a && among a (keys rows)) ≡ q (row_at rows a)
    there a None e = ap (λ b. b && among a (keys rows)) (ap q e ∙ none) ∙ sym (ap q e ∙ none)
    there a (Some row) e = ap (λ b. p a && b) (found_key nat_cmp_total nat_cmp-IsAntisymmetric a rows row e) ∙ last (p a)
      where
        last : (b : Bool) → (b && true) ≡ b
        last true = refl
        last false = refl

-- the arrivals of the rows that pass for a key
module _ (q : Text → Option Row → Bool) (none : (r : Text) → q r None ≡ false) where
  abbrev passing : Rows → Text → List ℕ
  passing rows r = filter (λ b. q r (row_at rows b)) (keys rows)

  among_passing : (rows : Rows) (r : Text) (b : ℕ) → among b (passing rows r) ≡ q r (row_at rows b)
  among_passing rows r b = has-filter nat_cmp_total nat_cmp-IsAntisymmetric (λ b. q r (row_at rows b)) b (keys rows) ∙ go (row_at rows b) refl
    where
      go : (v : Option Row) → row_at rows b ≡ v → (q r (row_at rows b) && among b (keys rows)) ≡ q r (row_at rows b)
      go None e = ap (λ c. c && among b (keys rows)) (ap (q r) e ∙ none r) ∙ sym (ap (q r) e ∙ none r)
      go (Some row) e = ap (λ c. q r (row_at rows b) && c) (found_key nat_cmp_total nat_cmp-IsAntisymmetric b rows row e) ∙ last (q r (row_at rows b))
        where
          last : (c : Bool) → (c && true) ≡ c
          last true = refl
          last false = refl

  module _ (rows : Rows) (rise : is_sorted nat_cmp rows ≡ true) (a : ℕ) (row : Row) where
    abbrev more : Rows
    more = put nat_cmp a row rows

    more_rise : is_sorted nat_cmp more ≡ true
    more_rise = is_true (is_sorted nat_cmp more) (is_sorted-put nat_cmp nat_cmp_total a row rows (subst T (sym rise) tt))
      where
        is_true : (b : Bool) → T b → b ≡ true
        is_true true h = refl
        is_true false h = absurd h

    -- the list of those that pass, as a set
    set_of : Text → Arrivals
    set_of r = where_key nat_cmp (λ b. q r (row_at rows b)) (bare rows)

    set_rises : (r : Text) → is_sorted nat_cmp (set_of r) ≡ true
    unfolding set_of
    set_rises r = is_true (is_sorted nat_cmp (set_of r)) (is_sorted-where_key nat_cmp (λ b. q r (row_at rows b)) (bare rows) (subst T (sym (sorted_bare rows ∙ rise)) tt))
      where
        is_true : (b : Bool) → T b → b ≡ true
        is_true true h = refl
        is_true false h = absurd h

    -- the row passes where the one that it comes for does
    unchanged : (r : Text) → q r (row_at rows a) ≡ q r (Some row) → passing rows r ≡ passing more r
    unfolding set_of
    unchanged r f = sym (keys_where (λ b. q r (row_at rows b)) rows) ∙ indexed (q r) (none r) more (set_of r) more_rise (set_rises r)
        (λ b. ap (among b) (keys_where (λ b. q r (row_at rows b)) rows) ∙ (among_passing rows r b ∙ go b (eq_by_cmp nat_cmp b a) refl))
      where
        go : (b : ℕ) (c : Bool) → eq_by_cmp nat_cmp b a ≡ c → q r (row_at rows b) ≡ q r (row_at more b)
        go b true e = let s = same_is nat_cmp_total nat_cmp-IsAntisymmetric b a e in
            ap (λ x. q r (row_at rows x)) s ∙ (f ∙ sym (ap (λ x. q r (row_at more x)) s ∙ ap (q r) (find-put_same nat_cmp_total nat_cmp-IsAntisymmetric a row rows)))
        go b false e = ap (q r) (sym (find-put_other nat_cmp_total nat_cmp-IsAntisymmetric b a row rows e))

    -- a row that is new and doesn't pass
    not_new : (r : Text) → row_at rows a ≡ None → q r (Some row) ≡ false → q r (row_at rows a) ≡ q r (Some row)
    not_new r fresh f = ap (q r) fresh ∙ (none r ∙ sym f)

    changed : (r : Text) → q r (Some row) ≡ true → (old : Arrivals) → keys old ≡ passing rows r → is_sorted nat_cmp (put nat_cmp a tt old) ≡ true → keys (put nat_cmp a tt old) ≡ passing more r
    changed r t old is rises = indexed (q r) (none r) more (put nat_cmp a tt old) more_rise rises
        (λ b. sym (is_some-find nat_cmp b (put nat_cmp a tt old)) ∙ (ap is_some (find-put nat_cmp nat_cmp_total b a tt old) ∙ go b (eq_by_cmp nat_cmp b a) refl))
      where
        go : (b : ℕ) (c : Bool) → eq_by_cmp nat_cmp b a ≡ c → is_some (cond c (Some tt) (find nat_cmp b old)) ≡ q r (row_at more b)
        go b true e = let s = same_is nat_cmp_total nat_cmp-IsAntisymmetric b a e in
            sym (ap (λ x. q r (row_at more x)) s ∙ (ap (q r) (find-put_same nat_cmp_total nat_cmp-IsAntisymmetric a row rows) ∙ t))
        go b false e = is_some-find nat_cmp b old ∙ (ap (among b) is ∙ (among_passing rows r b ∙ ap (q r) (sym (find-put_other nat_cmp_total nat_cmp-IsAntisymmetric b a row rows e))))

    -- the index of the rows with one more, of the key k
    one_put : row_at rows a ≡ None → (index : Map Arrivals) (k : Text) (old : Option Arrivals) (set : Arrivals) → get index k ≡ old → ((r : Text) → arrivals_of (get index r) ≡ passing rows r)
        → q k (Some row) ≡ true → ((r : Text) → same_text r k ≡ false → q r (Some row) ≡ false) → set ≡ put nat_cmp a tt (unwrap_or old []) → is_sorted nat_cmp set ≡ true
        → (r : Text) → arrivals_of (get (put text_cmp k set index) r) ≡ passing more r
    one_put fresh index k old set o is t f e rises r = go (same_text r k) refl
      where
        keys_of : (v : Option Arrivals) → keys (unwrap_or v []) ≡ arrivals_of v
        keys_of None = refl
        keys_of (Some s) = refl

        here : keys set ≡ passing more k
        here = ap keys e ∙ changed k t (unwrap_or old []) (keys_of old ∙ (sym (ap arrivals_of o) ∙ is k)) (ap (is_sorted nat_cmp) (sym e) ∙ rises)

        go : (c : Bool) → same_text r k ≡ c → arrivals_of (get (put text_cmp k set index) r) ≡ passing more r
        go true s = let same = same_is text_total text_antisymmetric r k s in
            ap (λ x. arrivals_of (get (put text_cmp k set index) x)) same ∙ (ap arrivals_of (find-put_same text_total text_antisymmetric k set index) ∙ (here ∙ ap (passing more) (sym same)))
        go false s = ap arrivals_of (find-put_other text_total text_antisymmetric r k set index s) ∙ (is r ∙ unchanged r (not_new r fresh (f r s)))

    -- and an index of which the row is not
    none_put : row_at rows a ≡ None → (index : Map Arrivals) → ((r : Text) → arrivals_of (get index r) ≡ passing rows r) → ((r : Text) → q r (Some row) ≡ false) → (r : Text) → arrivals_of (get index r) ≡ passing more r
    none_put fresh index is f r = is r ∙ unchanged r (not_new r fresh (f r))

-- both indices of the rows with one more
pub put_indexed : (rows : Rows) (by_entity by_reference : Map Arrivals) → is_sorted nat_cmp rows ≡ true → IsIndexed rows by_entity by_reference → (a : ℕ) (row : Row) → row_at rows a ≡ None
    → GivenRises row.origin a by_entity → Rises text_cmp row.reference a by_reference → IsIndexed (put nat_cmp a row rows) (with_given row.origin a by_entity) (with_arrival text_cmp row.reference a by_reference)
put_indexed rows by_entity by_reference rise i a row fresh rises_given rises = record {
  entities = by_origin row.origin refl rises_given;
  references = one_put is_named (λ r. refl) rows rise a row fresh by_reference row.reference (get by_reference row.reference) (set_with text_cmp row.reference a by_reference) refl i.references
      (same_self text_total text_antisymmetric row.reference) (λ r d. d) refl rises;
}
  where
    by_origin : (o : Origin) → row.origin ≡ o → GivenRises o a by_entity → (e : Text) → arrivals_of (get (with_given o a by_entity) e) ≡ given (put nat_cmp a row rows) (Entity e)
    by_origin (Provider p) is u = none_put (λ e. is_from (Entity e)) (λ e. refl) rows rise a row fresh by_entity i.entities (λ e. ap (same_origin (Entity e)) is)
    by_origin (Entity k) is u = one_put (λ e. is_from (Entity e)) (λ e. refl) rows rise a row fresh by_entity k (get by_entity k) (set_with text_cmp k a by_entity) refl i.entities
        (ap (same_origin (Entity k)) is ∙ same_self text_total text_antisymmetric k) (λ e d. ap (same_origin (Entity e)) is ∙ d) refl u

-- both indices of the rows with a row in place of one of the same origin and reference
module _ (rows : Rows) (rise : is_sorted nat_cmp rows ≡ true) (a : ℕ) (row : Row) (x : IsRowAt rows a row.origin row.reference) where
  same_from : (o : Origin) → is_from o (row_at rows a) ≡ is_from o (Some row)
  same_from o = ap (is_from o) x.at ∙ ap (same_origin o) x.from

  same_named : (r : Text) → is_named r (row_at rows a) ≡ is_named r (Some row)
  same_named r = ap (is_named r) x.at ∙ ap (same_text r) x.names

  -- each origin has given the same rows
  pub given_kept : (o : Origin) → given rows o ≡ given (put nat_cmp a row rows) o
  given_kept o = unchanged (λ e. is_from o) (λ e. refl) rows rise a row [] (same_from o)

  -- each reference has the same rows
  pub named_kept : (r : Text) → named rows r ≡ named (put nat_cmp a row rows) r
  named_kept r = unchanged is_named (λ r. refl) rows rise a row r (same_named r)

  pub replaced_indexed : (by_entity by_reference : Map Arrivals) → IsIndexed rows by_entity by_reference → IsIndexed (put nat_cmp a row rows) by_entity by_reference
  replaced_indexed by_entity by_reference i = record {
    entities = λ e. i.entities e ∙ given_kept (Entity e);
    references = λ r. i.references r ∙ named_kept r;
  }

-- ---- what a key finds after a change

pub find-without : {K X : Type 0} {R : K → K → Ordering} (s : IsAntisymmetric R) (k q : K) (m : List (K × X)) → find R q (without R k m) ≡ cond (not (eq_by_cmp R k q)) (find R q m) None
find-without {R = R} s k q m = find-where_key R (λ x. not (eq_by_cmp R k x)) q (λ x tie. ap (λ y. not (eq_by_cmp R k y)) (sym (s q x tie))) m

-- an index with a set that isn't empty has it
pub filled : {K : Type 0} (R : K → K → Ordering) (k : K) (set : Arrivals) (index : List (K × Arrivals)) → (length set == 0) ≡ false → put R k set index ≡ with_set R k set index
filled R k [] index e = absurd (true≢false e)
filled R k (x ∷ set) index e = refl

-- the key has what is left of its set
with_set_here : (k : Text) (set : Arrivals) (index : Map Arrivals) → arrivals_of (get (with_set text_cmp k set index) k) ≡ keys set
with_set_here k [] index = ap arrivals_of (find-without text_antisymmetric k k index ∙ ap (λ b. cond (not b) (get index k) None) (same_self text_total text_antisymmetric k))
with_set_here k (e ∷ es) index = ap arrivals_of (find-put_same text_total text_antisymmetric k (e ∷ es) index)

-- and each other key what it had
pub with_set_there : (r k : Text) (set : Arrivals) (index : Map Arrivals) → same_text r k ≡ false → get (with_set text_cmp k set index) r ≡ get index r
with_set_there r k [] index d = find-without text_antisymmetric k r index ∙ go (same_text k r) refl
  where
    go : (b : Bool) → same_text k r ≡ b → cond (not b) (get index r) None ≡ get index r
    go true e = absurd (true≢false (sym (ap (same_text r) (same_is text_total text_antisymmetric k r e) ∙ same_self text_total text_antisymmetric r) ∙ d))
    go false e = refl
with_set_there r k (e ∷ es) index d = find-put_other text_total text_antisymmetric r k (e ∷ es) index d

-- the same, for one row less
module _ (q : Text → Option Row → Bool) (none : (r : Text) → q r None ≡ false) (rows : Rows) (rise : is_sorted nat_cmp rows ≡ true) (a : ℕ) (row : Row) (at : row_at rows a ≡ Some row) where
  abbrev less : Rows
  less = without nat_cmp a rows

  is_true : (b : Bool) → T b → b ≡ true
  is_true true h = refl
  is_true false h = absurd h

  less_rise : is_sorted nat_cmp less ≡ true
  less_rise = is_true (is_sorted nat_cmp less) (is_sorted-where_key nat_cmp (λ x. not (eq_by_cmp nat_cmp a x)) rows (subst T (sym rise) tt))

  unchanged_less : (r : Text) → q r (Some row) ≡ false → passing q none rows r ≡ passing q none less r
  unfolding set_of
  unchanged_less r f = sym (keys_where (λ b. q r (row_at rows b)) rows)
      ∙ indexed (q r) (none r) less (where_key nat_cmp (λ b. q r (row_at rows b)) (bare rows)) less_rise
      (is_true _ (is_sorted-where_key nat_cmp (λ b. q r (row_at rows b)) (bare rows) (subst T (sym (sorted_bare rows ∙ rise)) tt)))
      (λ b. ap (among b) (keys_where (λ b. q r (row_at rows b)) rows) ∙ (among_passing q none rows r b ∙ (go b (eq_by_cmp nat_cmp a b) refl ∙ ap (q r) (sym (find-without nat_cmp-IsAntisymmetric a b rows)))))
    where
      go : (b : ℕ) (c : Bool) → eq_by_cmp nat_cmp a b ≡ c → q r (row_at rows b) ≡ q r (cond (not c) (row_at rows b) None)
      go b true e = ap (λ x. q r (row_at rows x)) (sym (same_is nat_cmp_total nat_cmp-IsAntisymmetric a b e)) ∙ (ap (q r) at ∙ (f ∙ sym (none r)))
      go b false e = refl

  changed_less : (r : Text) → (old : Arrivals) → keys old ≡ passing q none rows r → is_sorted nat_cmp (without nat_cmp a old) ≡ true → keys (without nat_cmp a old) ≡ passing q none less r
  changed_less r old is rises = indexed (q r) (none r) less (without nat_cmp a old) less_rise rises
      (λ b. sym (is_some-find nat_cmp b (without nat_cmp a old)) ∙ (ap is_some (find-without nat_cmp-IsAntisymmetric a b old) ∙ (go b (eq_by_cmp nat_cmp a b) ∙ ap (q r) (sym (find-without nat_cmp-IsAntisymmetric a b rows)))))
    where
      go : (b : ℕ) (c : Bool) → is_some (cond (not c) (find nat_cmp b old) None) ≡ q r (cond (not c) (row_at rows b) None)
      go b true = sym (none r)
      go b false = is_some-find nat_cmp b old ∙ (ap (among b) is ∙ among_passing q none rows r b)

  one_less : (index : Map Arrivals) (k : Text) → ((r : Text) → arrivals_of (get index r) ≡ passing q none rows r)
      → ((r : Text) → same_text r k ≡ false → q r (Some row) ≡ false) → RisesLess text_cmp k a index
      → (r : Text) → arrivals_of (get (without_arrival text_cmp k a index) r) ≡ passing q none less r
  one_less index k is f rises r = go (same_text r k) refl
    where
      keys_of : (v : Option Arrivals) → keys (unwrap_or v []) ≡ arrivals_of v
      keys_of None = refl
      keys_of (Some s) = refl

      here : keys (set_without text_cmp k a index) ≡ passing q none less k
      here = changed_less k (unwrap_or (get index k) []) (keys_of (get index k) ∙ is k) rises

      go : (c : Bool) → same_text r k ≡ c → arrivals_of (get (without_arrival text_cmp k a index) r) ≡ passing q none less r
      go true s = let same = same_is text_total text_antisymmetric r k s in
          ap (λ x. arrivals_of (get (without_arrival text_cmp k a index) x)) same ∙ (with_set_here k (set_without text_cmp k a index) index ∙ (here ∙ ap (passing q none less) (sym same)))
      go false s = ap arrivals_of (with_set_there r k (set_without text_cmp k a index) index s) ∙ (is r ∙ unchanged_less r (f r s))

-- both indices of the rows with one less
less_indexed_row : (rows : Rows) (by_entity by_reference : Map Arrivals) → is_sorted nat_cmp rows ≡ true → IsIndexed rows by_entity by_reference → (a : ℕ) (row : Row) → row_at rows a ≡ Some row
    → GivenRisesLess row.origin a by_entity → RisesLess text_cmp row.reference a by_reference → IsIndexed (without nat_cmp a rows) (without_given row.origin a by_entity) (without_arrival text_cmp row.reference a by_reference)
less_indexed_row rows by_entity by_reference rise i a row at rises_given rises = record {
  entities = by_origin row.origin refl rises_given;
  references = one_less is_named (λ r. refl) rows rise a row at by_reference row.reference i.references (λ r d. d) rises;
}
  where
    by_origin : (o : Origin) → row.origin ≡ o → GivenRisesLess o a by_entity → (e : Text) → arrivals_of (get (without_given o a by_entity) e) ≡ given (without nat_cmp a rows) (Entity e)
    by_origin (Provider p) is u = λ e. i.entities e ∙ unchanged_less (λ e. is_from (Entity e)) (λ e. refl) rows rise a row at e (ap (same_origin (Entity e)) is)
    by_origin (Entity k) is u = one_less (λ e. is_from (Entity e)) (λ e. refl) rows rise a row at by_entity k i.entities (λ e d. ap (same_origin (Entity e)) is ∙ d) u

pub less_indexed : (rows : Rows) (by_entity by_reference : Map Arrivals) → is_sorted nat_cmp rows ≡ true → IsIndexed rows by_entity by_reference → (a : ℕ) (o : Origin) (r : Text) → IsRowAt rows a o r
    → GivenRisesLess o a by_entity → RisesLess text_cmp r a by_reference → IsIndexed (without nat_cmp a rows) (without_given o a by_entity) (without_arrival text_cmp r a by_reference)
less_indexed rows by_entity by_reference rise i a o r x rises_given rises =
    subst (λ q. IsIndexed (without nat_cmp a rows) (without_given q a by_entity) (without_arrival text_cmp r a by_reference)) x.from
    (subst (λ q. IsIndexed (without nat_cmp a rows) (without_given x.row.origin a by_entity) (without_arrival text_cmp q a by_reference)) x.names
    (less_indexed_row rows by_entity by_reference rise i a x.row x.at (subst (λ q. GivenRisesLess q a by_entity) (sym x.from) rises_given) (subst (λ q. RisesLess text_cmp q a by_reference) (sym x.names) rises)))

pub same_indexed : (rows rows' : Rows) (a a' b b' : Map Arrivals) → rows' ≡ rows → a' ≡ a → b' ≡ b → IsIndexed rows a b → IsIndexed rows' a' b'
same_indexed rows rows' a a' b b' e f g h = subst (λ x. IsIndexed x a' b') (sym e) (subst (λ x. IsIndexed rows x b') (sym f) (subst (λ x. IsIndexed rows a x) (sym g) h))
