-- What is found in a table from which some go and into which some are put.
use Rattle.std.proofs.Common.{T, ◌≡◌, ℕ, suc, ◌+◌, Bool, true, false, cond, not, ◌&&◌, ◌||◌, List, [], ◌∷◌, length, refl, sym, ap, subst, ◌∙◌, arith, true≢false, unwrap_or, Less}
use Rattle.std.specs.declared.option.Option.{Option}
use Rattle.std.specs.declared.option.Option.TheVariants.{None, Some}
use Rattle.std.specs.List.{AllByRecursion, filter, list_any}
use Rattle.std.specs.List.Sorted.{IsStrictlySortedBy}
use Rattle.std.specs.Ordering.{is_eq, is_lt}
use Rattle.std.specs.FinMap.Entries.{below_all, find-where_key, is_sorted, is_sorted-put, is_sorted-where_key, same_entries}
use Rattle.cat_collections.specs.Rows.{without}
use Rattle.cat_collections.specs.Table.{Map, Text, get, place, put, puts, same_text, text_cmp}
use Rattle.cat_collections.proofs.Tables.{text_total, text_antisymmetric, find-put_other, find-put_same, or_false_first, or_false_second, same_is, same_self}
use Rattle.cat_collections.proofs.Orders.{has-filter}
use Rattle.cat_model.specs.Catalogue.{tickets}
use Rattle.cat_plan.specs.Amended.{amended, entries_of, entry_before, without_all}

-- the value of the first, or else the other
abbrev pub or_else : {X : Type 0} → Option X → Option X → Option X
or_else None other = other
or_else (Some x) other = Some x

-- the value after a change: what is put, none where it goes, or else the one before
abbrev pub value_after : {X : Type 0} → Option X → Bool → Option X → Option X
value_after put goes before = or_else put (cond goes None before)

pub same_sym : (q r : Text) → same_text q r ≡ same_text r q
same_sym q r = go (same_text q r) refl (same_text r q) refl
  where
    go : (b : Bool) → same_text q r ≡ b → (c : Bool) → same_text r q ≡ c → b ≡ c
    go true e true f = refl
    go false e false f = refl
    go true e false f = sym (same_self text_total text_antisymmetric q) ∙ (ap (λ t. same_text t q) (same_is text_total text_antisymmetric q r e) ∙ f)
    go false e true f = sym e ∙ (ap (λ t. same_text q t) (same_is text_total text_antisymmetric r q f) ∙ same_self text_total text_antisymmetric q)

module _ {X : Type 0} where
  pub get-without : (r q : Text) (m : Map X) → get (without text_cmp r m) q ≡ cond (same_text q r) None (get m q)
  get-without r q m =
      find-where_key text_cmp (λ k. not (same_text r k)) q (λ x e. ap (λ k. not (same_text r k)) (sym (text_antisymmetric q x e))) m
      ∙ (go (same_text r q) ∙ ap (λ b. cond b None (get m q)) (same_sym r q))
    where
      go : (b : Bool) → cond (not b) (get m q) None ≡ cond b None (get m q)
      go true = refl
      go false = refl

  sorted-without : (r : Text) (m : Map X) → T (is_sorted text_cmp m) → T (is_sorted text_cmp (without text_cmp r m))
  sorted-without r m h = is_sorted-where_key text_cmp (λ q. not (same_text r q)) m h

  get-without_all : (rs : List Text) (q : Text) (m : Map X) → get (without_all rs m) q ≡ cond (list_any (same_text q) rs) None (get m q)
  get-without_all [] q m = refl
  get-without_all (r ∷ rs) q m = get-without_all rs q (without text_cmp r m) ∙ (ap (cond (list_any (same_text q) rs) None) (get-without r q m) ∙ go (same_text q r) (list_any (same_text q) rs))
    where
      go : (b c : Bool) → cond c None (cond b None (get m q)) ≡ cond (b || c) None (get m q)
      go true true = refl
      go true false = refl
      go false c = refl

  sorted-without_all : (rs : List Text) (m : Map X) → T (is_sorted text_cmp m) → T (is_sorted text_cmp (without_all rs m))
  sorted-without_all [] m h = h
  sorted-without_all (r ∷ rs) m h = sorted-without_all rs (without text_cmp r m) (sorted-without r m h)

  sorted-puts : (es m : Map X) → T (is_sorted text_cmp m) → T (is_sorted text_cmp (puts text_cmp es m))
  sorted-puts [] m h = h
  sorted-puts (e ∷ es) m h = sorted-puts es (put text_cmp e.0 e.1 m) (is_sorted-put text_cmp text_total e.0 e.1 m h)

  -- these entries, put in, are found where the function has a value
  abbrev pub ArePut : (Text → Option X) → Map X → Type 0
  ArePut f es = (m : Map X) (q : Text) → get (puts text_cmp es m) q ≡ or_else (f q) (get m q)

  pub get-entries_of : (f : Text → Option X) (rs : List Text) (m : Map X) (q : Text)
      → get (puts text_cmp (entries_of f rs) m) q ≡ or_else (cond (list_any (same_text q) rs) (f q) None) (get m q)
  get-entries_of f [] m q = refl
  get-entries_of f (r ∷ rs) m q = go (f r) refl (same_text q r) refl (λ t. get-entries_of f rs t q)
    where
      both : (c : Bool) (x : X) (v : Option X) → or_else (cond c (Some x) None) (Some x) ≡ Some x
      both true x v = refl
      both false x v = refl

      neither : (c : Bool) (v : Option X) → or_else (cond {A = Option X} c None None) v ≡ v
      neither true v = refl
      neither false v = refl

      go : (v : Option X) → f r ≡ v → (b : Bool) → same_text q r ≡ b → ((t : Map X) → get (puts text_cmp (entries_of f rs) t) q ≡ or_else (cond (list_any (same_text q) rs) (f q) None) (get t q))
          → get (puts text_cmp (entry_before r v (entries_of f rs)) m) q ≡ or_else (cond (b || list_any (same_text q) rs) (f q) None) (get m q)
      go None e true is ih =
          let fq : f q ≡ None = ap f (same_is text_total text_antisymmetric q r is) ∙ e in
          ih m ∙ (ap (λ v. or_else (cond (list_any (same_text q) rs) v None) (get m q)) fq ∙ (neither (list_any (same_text q) rs) (get m q) ∙ ap (λ v. or_else v (get m q)) (sym fq)))
      go None e false is ih = ih m
      go (Some x) e true is ih =
          let same : q ≡ r = same_is text_total text_antisymmetric q r is in
          let fq : f q ≡ Some x = ap f same ∙ e in
          let found : get (put text_cmp r x m) q ≡ Some x = ap (get (put text_cmp r x m)) same ∙ find-put_same text_total text_antisymmetric r x m in
          ih (put text_cmp r x m) ∙ ((λ i. or_else (cond (list_any (same_text q) rs) (fq i) None) (found i)) ∙ (both (list_any (same_text q) rs) x None ∙ ap (λ v. or_else v (get m q)) (sym fq)))
      go (Some x) e false is ih =
          ih (put text_cmp r x m) ∙ ap (or_else (cond (list_any (same_text q) rs) (f q) None)) (find-put_other text_total text_antisymmetric q r x m is)

  -- where a function has a value only at these references, its entries there are all
  pub entries_are_put : (f : Text → Option X) (rs : List Text) → ((q : Text) → list_any (same_text q) rs ≡ false → f q ≡ None) → ArePut f (entries_of f rs)
  entries_are_put f rs outside m q = get-entries_of f rs m q ∙ ap (λ v. or_else v (get m q)) (go (list_any (same_text q) rs) refl)
    where
      go : (b : Bool) → list_any (same_text q) rs ≡ b → cond b (f q) None ≡ f q
      go true e = refl
      go false e = sym (outside q e)

  -- a table is the one after a change where each of its values is
  pub amended_is : (f : Text → Option X) (goes : Text → Bool) (es : Map X) (rs : List Text) (m t : Map X) → T (is_sorted text_cmp m) → T (is_sorted text_cmp t)
      → ArePut f es → ((q : Text) → list_any (same_text q) rs ≡ false → goes q ≡ false)
      → ((q : Text) → value_after (f q) (goes q) (get m q) ≡ get t q) → amended es (filter goes rs) m ≡ t
  amended_is f goes es rs m t sm st are_put outside values =
      same_entries text_cmp text_total text_antisymmetric (amended es (filter goes rs) m) t
      (sorted-puts es (without_all (filter goes rs) m) (sorted-without_all (filter goes rs) m sm)) st
      (λ q. are_put (without_all (filter goes rs) m) q ∙ (ap (or_else (f q)) (get-without_all (filter goes rs) q m ∙ ap (λ b. cond b None (get m q)) (gone q)) ∙ values q))
    where
      gone : (q : Text) → list_any (same_text q) (filter goes rs) ≡ goes q
      gone q = has-filter text_total text_antisymmetric goes q rs ∙ go (list_any (same_text q) rs) refl (goes q) refl
        where
          go : (b : Bool) → list_any (same_text q) rs ≡ b → (c : Bool) → goes q ≡ c → (c && b) ≡ c
          go true e true g = refl
          go true e false g = refl
          go false e true g = absurd (true≢false (sym g ∙ outside q e))
          go false e false g = refl

-- ---- numbers that are drawn

-- the number that a reference drew
pub get-drawn : (t : ℕ) (rs : List Text) (q : Text) → get (tickets t rs) q ≡ cond (list_any (same_text q) rs) (Some (t + place text_cmp q rs)) None
get-drawn t [] q = refl
get-drawn t (r ∷ rs) q = go (same_text q r) (get-drawn (t + 1) rs q)
  where
    more : (c : Bool) (k : ℕ) → cond c (Some (t + 1 + k)) None ≡ cond c (Some (t + suc k)) None
    more true k = let e : t + 1 + k ≡ t + suc k = omega arith in ap Some e
    more false k = refl

    go : (b : Bool) → get (tickets (t + 1) rs) q ≡ cond (list_any (same_text q) rs) (Some (t + 1 + place text_cmp q rs)) None
        → cond b (Some t) (get (tickets (t + 1) rs) q) ≡ cond (b || list_any (same_text q) rs) (Some (t + cond b 0 (suc (place text_cmp q rs)))) None
    go true ih = let e : t ≡ t + 0 = omega arith in ap Some e
    go false ih = ih ∙ more (list_any (same_text q) rs) (place text_cmp q rs)

-- what isn't among references would stand behind them
place_absent : (rs : List Text) (q : Text) → list_any (same_text q) rs ≡ false → place text_cmp q rs ≡ length rs
place_absent [] q h = refl
place_absent (r ∷ rs) q h =
    ap (λ b. cond b 0 (suc (place text_cmp q rs))) (or_false_first (same_text q r) _ h) ∙ ap suc (place_absent rs q (or_false_second (same_text q r) _ h))

-- the number that is found is the one drawn, and what drew none would draw the next
pub number_drawn : (t : ℕ) (rs : List Text) (q : Text) (v : Option ℕ) → v ≡ get (tickets t rs) q → unwrap_or v (t + length rs) ≡ t + place text_cmp q rs
number_drawn t rs q v e = go (list_any (same_text q) rs) refl (e ∙ get-drawn t rs q)
  where
    go : (b : Bool) → list_any (same_text q) rs ≡ b → v ≡ cond b (Some (t + place text_cmp q rs)) None → unwrap_or v (t + length rs) ≡ t + place text_cmp q rs
    go true h e = ap (λ u. unwrap_or u (t + length rs)) e
    go false h e = ap (λ u. unwrap_or u (t + length rs)) e ∙ ap (λ k. t + k) (sym (place_absent rs q h))

-- the ticket that is found is the one drawn
pub mark_drawn : (t : ℕ) (rs : List Text) (q : Text) (v mark : Option ℕ) → v ≡ get (tickets t rs) q → or_else v mark ≡ cond (list_any (same_text q) rs) (Some (t + place text_cmp q rs)) mark
mark_drawn t rs q v mark e = ap (λ u. or_else u mark) (e ∙ get-drawn t rs q) ∙ go (list_any (same_text q) rs)
  where
    go : (b : Bool) → or_else (cond b (Some (t + place text_cmp q rs)) None) mark ≡ cond b (Some (t + place text_cmp q rs)) mark
    go true = refl
    go false = refl

-- a reference below all of these isn't among them
none_above : (r : Text) (rs : List Text) → AllByRecursion (λ y. text_cmp r y ≡ Less) rs → list_any (same_text r) rs ≡ false
none_above r [] h = refl
none_above r (s ∷ ss) h = ap (λ o. is_eq o || list_any (same_text r) ss) h.0 ∙ none_above r ss h.1

-- numbers drawn by references in order are put at just these
pub drawn_are_put : (t : ℕ) (rs : List Text) → IsStrictlySortedBy text_cmp rs → ArePut (λ q. cond (list_any (same_text q) rs) (Some (t + place text_cmp q rs)) None) (tickets t rs)
unfolding IsStrictlySortedBy
drawn_are_put t [] h m q = refl
drawn_are_put t (r ∷ rs) h m q = drawn_are_put (t + 1) rs h.1 (put text_cmp r t m) q ∙ go (same_text q r) refl
  where
    more : (c : Bool) (k : ℕ) → cond c (Some (t + 1 + k)) None ≡ cond c (Some (t + suc k)) None
    more true k = let e : t + 1 + k ≡ t + suc k = omega arith in ap Some e
    more false k = refl

    go : (b : Bool) → same_text q r ≡ b
        → or_else (cond (list_any (same_text q) rs) (Some (t + 1 + place text_cmp q rs)) None) (get (put text_cmp r t m) q)
        ≡ or_else (cond (b || list_any (same_text q) rs) (Some (t + cond b 0 (suc (place text_cmp q rs)))) None) (get m q)
    go true is =
        let same : q ≡ r = same_is text_total text_antisymmetric q r is in
        let out : list_any (same_text q) rs ≡ false = ap (λ k. list_any (same_text k) rs) same ∙ none_above r rs h.0 in
        let at : get (put text_cmp r t m) q ≡ Some t = ap (get (put text_cmp r t m)) same ∙ find-put_same text_total text_antisymmetric r t m in
        let sum : t ≡ t + 0 = omega arith in
        (λ i. or_else (cond (out i) (Some (t + 1 + place text_cmp q rs)) None) (at i)) ∙ ap Some sum
    go false is =
        (λ i. or_else (more (list_any (same_text q) rs) (place text_cmp q rs) i) (find-put_other text_total text_antisymmetric q r t m is i))

both : (a b : Bool) → T a → T b → T (a && b)
both true b p q = q
both false b p q = p

below_drawn : (r : Text) (t : ℕ) (rs : List Text) → AllByRecursion (λ y. text_cmp r y ≡ Less) rs → T (below_all text_cmp r (tickets t rs))
below_drawn r t [] h = tt
below_drawn r t (s ∷ ss) h = both _ _ (subst (λ o. T (is_lt o)) (sym h.0) tt) (below_drawn r (t + 1) ss h.1)

-- numbers drawn by references in order stand in order
pub drawn_in_order : (t : ℕ) (rs : List Text) → IsStrictlySortedBy text_cmp rs → T (is_sorted text_cmp (tickets t rs))
unfolding IsStrictlySortedBy
drawn_in_order t [] h = tt
drawn_in_order t (r ∷ rs) h = both _ _ (below_drawn r (t + 1) rs h.0) (drawn_in_order (t + 1) rs h.1)
