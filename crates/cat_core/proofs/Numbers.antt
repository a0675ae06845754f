-- A number is of one record or orphan at most, which is found among the entries.
use Rattle.std.proofs.Common.{◌≡◌, ℕ, Bool, true, false, cond, ◌⊎◌, inl, inr, List, [], ◌∷◌, ◌++◌, nat_eq, refl, sym, ap, subst, ◌∙◌, Ordering, is_some, unwrap_or, true≢false, arith}
use Rattle.std.proofs.lemmas.Bool.Decides.{nat_tests}
use Rattle.std.specs.declared.option.Option.{Option}
use Rattle.std.specs.declared.option.Option.TheVariants.{None, Some}
use Rattle.std.specs.Option.{option_or}
use Rattle.std.specs.Ordering.{eq_by_cmp}
use Rattle.std.specs.List.{list_any}
use Rattle.cat_collections.specs.Table.{Text, find, get, keys, tabulate, text_cmp}
use Rattle.cat_collections.proofs.Tables.{find-tabulate, first_none, first_some, found_key, list_any-append, text_antisymmetric, text_total}
use Rattle.cat_model.specs.Catalogue.{Rules, known_refs}
use Rattle.cat_model.specs.Sound.{number_in}
use Rattle.cat_model.specs.Step.{has_number, ref_at}
use Rattle.cat_model.specs.declared.types.Orphan.{Orphan}
use Rattle.cat_model.specs.declared.types.Record.{Record}
use Rattle.cat_model.specs.declared.types.State.{State}
use Rattle.cat_links.specs.Links.{Emitted}
use Rattle.cat_events.specs.Coming.{IsSteady}
use Rattle.cat_settle.proofs.Held.{AreHeld, are_held}
use Rattle.cat_core.proofs.Firsts.{holds}
use Rattle.cat_core.specs.Numbered.{AreApart, key_where}

none_not : {A X : Type 0} {x : X} → None ≡ Some x → A
none_not e = absurd (true≢false (sym (ap is_some e)))

module _ {K X : Type 0} (R : K → K → Ordering) (f : X → Bool) where
  -- a value that passes is found under the key
  abbrev Passes : List (K × X) → K → Type 0
  Passes m k = (x : X) × (find R k m ≡ Some x) × (f x ≡ true)

  -- under the key that is found among the entries
  passes_where : (m es : List (K × X)) → AreHeld R m es → (k : K) → key_where f es ≡ Some k → Passes m k
  passes_where m [] h k q = none_not q
  passes_where m (e ∷ es) h k q = go (f e.1) refl q (passes_where m es h.1 k)
    where
      go : (b : Bool) → f e.1 ≡ b → cond b (Some e.0) (key_where f es) ≡ Some k → (key_where f es ≡ Some k → Passes m k) → Passes m k
      go true t q ih = subst (Passes m) (ap (λ v. unwrap_or v k) q) (e.1, h.0, t)
      go false t q ih = ih q

  -- where none is found, no value passes
  fails_where : (m : List (K × X)) → key_where f m ≡ None → (k : K) (x : X) → find R k m ≡ Some x → f x ≡ false
  fails_where [] q k x h = none_not h
  fails_where (e ∷ es) q k x h = go (f e.1) refl q (eq_by_cmp R k e.0) h (λ q. fails_where es q k x)
    where
      go : (b : Bool) → f e.1 ≡ b → cond b (Some e.0) (key_where f es) ≡ None → (c : Bool) → cond c (Some e.1) (find R k es) ≡ Some x
          → (key_where f es ≡ None → find R k es ≡ Some x → f x ≡ false) → f x ≡ false
      go true t q c h ih = none_not (sym q)
      go false t q true h ih = subst (λ y. f y ≡ false) (ap (λ v. unwrap_or v x) h) t
      go false t q false h ih = ih q h

same_number : (a b : ℕ) → nat_eq a b ≡ true → b ≡ a
same_number a b h = grind (arith, nat_tests)

has_is : (n : ℕ) (x : Option Record) (o : Option Orphan) → has_number n x o ≡ true → number_in x o ≡ Some n
has_is n None None h = absurd (true≢false (sym h))
has_is n None (Some o) h = ap Some (same_number n o.number h)
has_is n (Some x) o h = ap Some (same_number n x.number h)

module _ (m : State) (a : AreApart m) (n : ℕ) where
  abbrev has : Text → Bool
  has r = has_number n (get m.records r) (get m.orphans r)

  in_known : (r : Text) → has r ≡ true → list_any (eq_by_cmp text_cmp r) (known_refs m) ≡ true
  in_known r h =
      found_key text_total text_antisymmetric r (tabulate text_cmp (keys m.records ++ keys m.orphans) (λ r. Some (tt {0}))) tt
      (find-tabulate text_total text_antisymmetric r (keys m.records ++ keys m.orphans) (λ r. Some (tt {0})) ∙ ap (λ b. cond b (Some (tt {0})) None) (list_any-append (eq_by_cmp text_cmp r) (keys m.records) (keys m.orphans) (go (get m.records r) refl (get m.orphans r) refl h)))
    where
      go : (x : Option Record) → get m.records r ≡ x → (o : Option Orphan) → get m.orphans r ≡ o → has_number n x o ≡ true
          → (list_any (eq_by_cmp text_cmp r) (keys m.records) ≡ true) ⊎ (list_any (eq_by_cmp text_cmp r) (keys m.orphans) ≡ true)
      go None p None q h = absurd (true≢false (sym h))
      go None p (Some o) q h = inr (found_key text_total text_antisymmetric r m.orphans o q)
      go (Some x) p o q h = inl (found_key text_total text_antisymmetric r m.records x p)

  -- what has the number is found by it
  the_one : (r : Text) → has r ≡ true → Some r ≡ ref_at m n
  the_one r h = go (ref_at m n) refl
    where
      go : (v : Option Text) → ref_at m n ≡ v → Some r ≡ v
      go None e = absurd (true≢false (sym h ∙ first_none text_total text_antisymmetric has (known_refs m) e r (in_known r h)))
      go (Some j) e = ap Some (a.numbers.differ r j n (has_is n _ _ h) (has_is n _ _ (first_some text_total text_antisymmetric has (known_refs m) j e)))

  -- where nothing has it, nothing is found
  no_one : ((r : Text) → has r ≡ false) → None ≡ ref_at m n
  no_one h = go (ref_at m n) refl
    where
      go : (v : Option Text) → ref_at m n ≡ v → None ≡ v
      go None e = refl
      go (Some j) e = absurd (true≢false (sym (first_some text_total text_antisymmetric has (known_refs m) j e) ∙ h j))

  -- the first record with the number, or else the first orphan with it, is what has it
  pub numbered_is : (v w : Option Text) → v ≡ key_where (λ x. nat_eq n x.number) m.records → w ≡ key_where (λ x. nat_eq n x.number) m.orphans → option_or v w ≡ ref_at m n
  numbered_is (Some r) w p q =
      let x = passes_where text_cmp (λ x. nat_eq n x.number) m.records m.records (are_held text_total text_antisymmetric m.records (holds _ a.records)) r (sym p) in
      the_one r (ap (λ v. has_number n v (get m.orphans r)) x.1 ∙ x.2)
  numbered_is None (Some r) p q =
      let x = passes_where text_cmp (λ x. nat_eq n x.number) m.orphans m.orphans (are_held text_total text_antisymmetric m.orphans (holds _ a.orphans)) r (sym q) in
      the_one r (go x.0 x.1 x.2 (get m.records r) refl)
    where
      go : (o : Orphan) → get m.orphans r ≡ Some o → nat_eq n o.number ≡ true → (v : Option Record) → get m.records r ≡ v → has_number n v (get m.orphans r) ≡ true
      go o h t None e = ap (has_number n None) h ∙ t
      go o h t (Some x) e = none_not (sym (a.apart r (ap is_some e)) ∙ h)
  numbered_is None None p q = no_one λ r. go r (get m.records r) refl (get m.orphans r) refl
    where
      go : (r : Text) → (x : Option Record) → get m.records r ≡ x → (o : Option Orphan) → get m.orphans r ≡ o → has_number n x o ≡ false
      go r None e None f = refl
      go r None e (Some o) f = fails_where text_cmp (λ x. nat_eq n x.number) m.orphans (sym q) r o f
      go r (Some x) e o f = fails_where text_cmp (λ x. nat_eq n x.number) m.records (sym p) r x e

-- what holds between two events keeps records and orphans apart
pub apart_of : (rules : Rules) (links : Emitted) (m : State) → IsSteady rules links m → AreApart m
apart_of rules links m h = record {
  records = h.sound.in_order;
  orphans = h.ordered.orphans;
  apart = λ r is. h.sound.orphans r (sym (h.sound.records r) ∙ is);
  numbers = h.sound.numbers;
}
