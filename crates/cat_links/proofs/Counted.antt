-- Counts of emitters after a change of one emitter, and the relations that they have.
use Rattle.std.proofs.Common.{T, ◌≡◌, ℕ, ◌+◌, ◌-◌, ◌<◌, ◌≤◌, arith, Bool, true, false, cond, not, ◌&&◌, ◌||◌, List, [], ◌∷◌, length, refl, sym, ap, subst, ◌∙◌, true≢false, is_some, unwrap_or, Ordering, Less, Equal, Greater, nat_lt}
use Rattle.std.specs.declared.option.Option.{Option}
use Rattle.std.specs.declared.option.Option.TheVariants.{None, Some}
use Rattle.std.specs.Ordering.{eq_by_cmp, is_eq, is_lt}
use Rattle.std.specs.List.{AllByRecursion, filter}
use Rattle.std.specs.List.Sorted.{IsStrictlySortedBy}
use Rattle.std.specs.FinMap.Entries.{below_all, by_order, find-put, find-where_key, is_some-find, is_sorted, is_sorted-put, is_sorted-where_key}
use Rattle.std.proofs.lemmas.Bool.Decides.{nat_tests}
use Rattle.std.proofs.lemmas.List.Folds.{list_any-append}
use Rattle.std.proofs.lemmas.List.Kept.{IsStrictlySortedBy-filter}
use Rattle.cat_types.specs.declared.relation.Relation.{Relation}
use Rattle.cat_types.specs.Relation.{relation_cmp}
use Rattle.cat_collections.specs.Table.{Map, Text, find, keys, put, same_text, text_cmp}
use Rattle.cat_collections.proofs.Tables.{text_total, text_antisymmetric, same_is, same_self}
use Rattle.cat_collections.specs.Order.{in_order}
use Rattle.cat_links.specs.Links.{Emitted, all_emitted, emitted_by, has, only_in, relations_of}
use Rattle.cat_links.specs.Changes.{with_emitter}
use Rattle.cat_links.specs.Counts.{AreCounts, AreOfSource, Counts, SourceCounts, count_at, count_in, counts_from, emitters_of, gained, lost, one_if, one_less, one_less_in, one_more, one_more_in, with_counts}
use Rattle.cat_collections.specs.Rows.{without}
use Rattle.cat_collections.proofs.Orders.{has-filter, has-in_order, in_order-rises, in_order_is}
use Rattle.cat_collections.proofs.Placed.{from_T, rises, to_T}
use Rattle.cat_types.specs.Relations.{relation_total, relation_antisymmetric}

abbrev same : Relation → Relation → Bool
same = eq_by_cmp relation_cmp

is : (x y : Relation) → same x y ≡ true → x ≡ y
is = same_is relation_total relation_antisymmetric

-- ---- the counts of a source

find-without : {X : Type 0} (x q : Relation) (own : List (Relation × X)) → find relation_cmp q (without relation_cmp x own) ≡ cond (not (same x q)) (find relation_cmp q own) None
find-without x q own = find-where_key relation_cmp (λ k. not (same x k)) q (λ y e. ap (λ k. not (same x k)) (sym (relation_antisymmetric q y e))) own

find_text-without : {X : Type 0} (s t : Text) (m : Map X) → find text_cmp t (without text_cmp s m) ≡ cond (not (same_text s t)) (find text_cmp t m) None
find_text-without s t m = find-where_key text_cmp (λ k. not (same_text s k)) t (λ y e. ap (λ k. not (same_text s k)) (sym (text_antisymmetric t y e))) m

count-one_more_in : (x q : Relation) (own : SourceCounts) → count_in (one_more_in x own) q ≡ one_if (same q x) + count_in own q
count-one_more_in x q own = ap (λ v. unwrap_or v 0) (find-put relation_cmp relation_total q x (count_in own x + 1) own) ∙ go (same q x) refl
  where
    go : (b : Bool) → same q x ≡ b → unwrap_or (cond b (Some (count_in own x + 1)) (find relation_cmp q own)) 0 ≡ one_if b + count_in own q
    go true e = let k : count_in own q ≡ count_in own x = ap (count_in own) (is q x e) in omega arith
    go false e = omega arith

pub one_if-le : (b : Bool) → one_if b ≤ 1
one_if-le true = omega arith
one_if-le false = omega arith

count-one_less_in : (x q : Relation) (own : SourceCounts) → count_in (one_less_in x own) q ≡ count_in own q - one_if (same q x)
count-one_less_in x q own = go (nat_lt 1 (count_in own x)) refl
  where
    put_case : (b : Bool) → same q x ≡ b → unwrap_or (cond b (Some (count_in own x - 1)) (find relation_cmp q own)) 0 ≡ count_in own q - one_if b
    put_case true e = let k : count_in own q ≡ count_in own x = ap (count_in own) (is q x e) in omega arith
    put_case false e = omega arith

    gone_case : nat_lt 1 (count_in own x) ≡ false → (a : Bool) → same x q ≡ a → (b : Bool) → same q x ≡ b → unwrap_or (cond (not a) (find relation_cmp q own) None) 0 ≡ count_in own q - one_if b
    gone_case n true e true f = let k : count_in own q ≡ count_in own x = ap (count_in own) (is q x f) in grind (arith, nat_tests)
    gone_case n true e false f = absurd (true≢false (sym (same_self relation_total relation_antisymmetric x) ∙ (ap (λ y. same y x) (is x q e) ∙ f)))
    gone_case n false e true f = absurd (true≢false (sym (same_self relation_total relation_antisymmetric q) ∙ (ap (λ y. same y q) (is q x f) ∙ e)))
    gone_case n false e false f = omega arith

    go : (b : Bool) → nat_lt 1 (count_in own x) ≡ b → count_in (cond b (put relation_cmp x (count_in own x - 1) own) (without relation_cmp x own)) q ≡ count_in own q - one_if (same q x)
    go true n = ap (λ v. unwrap_or v 0) (find-put relation_cmp relation_total q x (count_in own x - 1) own) ∙ put_case (same q x) refl
    go false n = ap (λ v. unwrap_or v 0) (find-without x q own) ∙ gone_case n (same x q) refl (same q x) refl

some_is : (m n : ℕ) → Some m ≡ Some n → m ≡ n
some_is m n e = ap (λ v. unwrap_or v 0) e

of_source-put : (s : Text) (x : Relation) (v : ℕ) (own : SourceCounts) → x.source ≡ s → 0 < v → AreOfSource s own → AreOfSource s (put relation_cmp x v own)
of_source-put s x v own is_from l h = record {
  order = from_T _ (is_sorted-put relation_cmp relation_total x v own (to_T _ h.order));
  from = λ q n e. sources_of q n (same q x) refl (sym (find-put relation_cmp relation_total q x v own) ∙ e);
  positive = λ q n e. positives q n (same q x) (sym (find-put relation_cmp relation_total q x v own) ∙ e);
}
  where
    sources_of : (q : Relation) (n : ℕ) (b : Bool) → same q x ≡ b → cond b (Some v) (find relation_cmp q own) ≡ Some n → q.source ≡ s
    sources_of q n true t e = ap (λ (y : Relation). y.source) (is q x t) ∙ is_from
    sources_of q n false t e = h.from q n e

    positives : (q : Relation) (n : ℕ) (b : Bool) → cond b (Some v) (find relation_cmp q own) ≡ Some n → 0 < n
    positives q n true e = let k : v ≡ n = some_is v n e in omega arith
    positives q n false e = h.positive q n e

of_source-without : (s : Text) (x : Relation) (own : SourceCounts) → AreOfSource s own → AreOfSource s (without relation_cmp x own)
of_source-without s x own h = record {
  order = from_T _ (is_sorted-where_key relation_cmp (λ k. not (same x k)) own (to_T _ h.order));
  from = λ q n e. h.from q n (kept q n (not (same x q)) (sym (find-without x q own) ∙ e));
  positive = λ q n e. h.positive q n (kept q n (not (same x q)) (sym (find-without x q own) ∙ e));
}
  where
    kept : (q : Relation) (n : ℕ) (b : Bool) → cond b (find relation_cmp q own) None ≡ Some n → find relation_cmp q own ≡ Some n
    kept q n true e = e
    kept q n false e = absurd (true≢false (sym (ap is_some e)))

of_source-one_more : (x : Relation) (own : SourceCounts) → AreOfSource x.source own → AreOfSource x.source (one_more_in x own)
of_source-one_more x own h = of_source-put x.source x (count_in own x + 1) own refl (omega arith) h

of_source-one_less : (x : Relation) (own : SourceCounts) → AreOfSource x.source own → AreOfSource x.source (one_less_in x own)
of_source-one_less x own h = go (nat_lt 1 (count_in own x)) refl
  where
    go : (b : Bool) → nat_lt 1 (count_in own x) ≡ b → AreOfSource x.source (cond b (put relation_cmp x (count_in own x - 1) own) (without relation_cmp x own))
    go true n = let l : 0 < count_in own x - 1 = grind (arith, nat_tests) in of_source-put x.source x (count_in own x - 1) own refl l h
    go false n = of_source-without x.source x own h

-- ---- one source's counts take the place of others

from-with_counts : (s t : Text) (own : SourceCounts) (counts : Counts) → counts_from (with_counts s own counts) t ≡ cond (same_text t s) own (counts_from counts t)
from-with_counts s t [] counts = ap (λ v. unwrap_or v []) (find_text-without s t counts) ∙ go (same_text s t) refl (same_text t s) refl
  where
    go : (a : Bool) → same_text s t ≡ a → (b : Bool) → same_text t s ≡ b → unwrap_or (cond (not a) (find text_cmp t counts) None) [] ≡ cond b [] (counts_from counts t)
    go true e true f = refl
    go true e false f = absurd (true≢false (sym (same_self text_total text_antisymmetric s) ∙ (ap (λ y. same_text y s) (same_is text_total text_antisymmetric s t e) ∙ f)))
    go false e true f = absurd (true≢false (sym (same_self text_total text_antisymmetric t) ∙ (ap (λ y. same_text y t) (same_is text_total text_antisymmetric t s f) ∙ e)))
    go false e false f = refl
from-with_counts s t (c ∷ cs) counts = ap (λ v. unwrap_or v []) (find-put text_cmp text_total t s (c ∷ cs) counts) ∙ go (same_text t s)
  where
    go : (b : Bool) → unwrap_or (cond b (Some (c ∷ cs)) (find text_cmp t counts)) [] ≡ cond b (c ∷ cs) (counts_from counts t)
    go true = refl
    go false = refl

count-with_counts : (s : Text) (own : SourceCounts) (counts : Counts) (q : Relation) → count_at (with_counts s own counts) q ≡ cond (same_text q.source s) (count_in own q) (count_at counts q)
count-with_counts s own counts q = ap (λ l. count_in l q) (from-with_counts s q.source own counts) ∙ go (same_text q.source s)
  where
    go : (b : Bool) → count_in (cond b own (counts_from counts q.source)) q ≡ cond b (count_in own q) (count_at counts q)
    go true = refl
    go false = refl

abbrev AreOwn : Counts → Type 0
AreOwn counts = (s : Text) → AreOfSource s (counts_from counts s)

own-with_counts : (s : Text) (own : SourceCounts) (counts : Counts) → AreOfSource s own → AreOwn counts → AreOwn (with_counts s own counts)
own-with_counts s own counts h all t = subst (AreOfSource t) (sym (from-with_counts s t own counts)) (go (same_text t s) refl)
  where
    go : (b : Bool) → same_text t s ≡ b → AreOfSource t (cond b own (counts_from counts t))
    go true e = subst (λ r. AreOfSource r own) (sym (same_is text_total text_antisymmetric t s e)) h
    go false e = all t

-- relations that tie have one source
other_source : (q x : Relation) → same_text q.source x.source ≡ false → same q x ≡ false
other_source q x h = go (same q x) refl
  where
    go : (b : Bool) → same q x ≡ b → b ≡ false
    go true e = absurd (true≢false (sym (same_self text_total text_antisymmetric x.source) ∙ (ap (λ (y : Relation). same_text y.source x.source) (sym (is q x e)) ∙ h)))
    go false e = refl

pub count-one_more : (x q : Relation) (counts : Counts) → count_at (one_more x counts) q ≡ one_if (same q x) + count_at counts q
count-one_more x q counts = count-with_counts x.source (one_more_in x (counts_from counts x.source)) counts q ∙ go (same_text q.source x.source) refl
  where
    go : (b : Bool) → same_text q.source x.source ≡ b → cond b (count_in (one_more_in x (counts_from counts x.source)) q) (count_at counts q) ≡ one_if (same q x) + count_at counts q
    go true e =
        count-one_more_in x q (counts_from counts x.source)
        ∙ ap (λ t. one_if (same q x) + count_in (counts_from counts t) q) (sym (same_is text_total text_antisymmetric q.source x.source e))
    go false e = let none : one_if (same q x) ≡ 0 = ap one_if (other_source q x e) in omega arith

count-one_less : (x q : Relation) (counts : Counts) → count_at (one_less x counts) q ≡ count_at counts q - one_if (same q x)
count-one_less x q counts = count-with_counts x.source (one_less_in x (counts_from counts x.source)) counts q ∙ go (same_text q.source x.source) refl
  where
    go : (b : Bool) → same_text q.source x.source ≡ b → cond b (count_in (one_less_in x (counts_from counts x.source)) q) (count_at counts q) ≡ count_at counts q - one_if (same q x)
    go true e =
        count-one_less_in x q (counts_from counts x.source)
        ∙ ap (λ t. count_in (counts_from counts t) q - one_if (same q x)) (sym (same_is text_total text_antisymmetric q.source x.source e))
    go false e = let none : one_if (same q x) ≡ 0 = ap one_if (other_source q x e) in omega arith

-- ---- many more and many less

-- how often a relation stands in a list
abbrev times : Relation → List Relation → ℕ
times q [] = 0
times q (x ∷ xs) = one_if (same q x) + times q xs

own-gained : (xs : List Relation) (counts : Counts) → AreOwn counts → AreOwn (gained xs counts)
own-gained [] counts h = h
own-gained (x ∷ xs) counts h = own-gained xs (one_more x counts) (own-with_counts x.source (one_more_in x (counts_from counts x.source)) counts (of_source-one_more x (counts_from counts x.source) (h x.source)) h)

own-lost : (xs : List Relation) (counts : Counts) → AreOwn counts → AreOwn (lost xs counts)
own-lost [] counts h = h
own-lost (x ∷ xs) counts h = own-lost xs (one_less x counts) (own-with_counts x.source (one_less_in x (counts_from counts x.source)) counts (of_source-one_less x (counts_from counts x.source) (h x.source)) h)

count-gained : (xs : List Relation) (counts : Counts) (q : Relation) → count_at (gained xs counts) q ≡ times q xs + count_at counts q
count-gained [] counts q = omega arith
count-gained (x ∷ xs) counts q = let rest = count-gained xs (one_more x counts) q in let one = count-one_more x q counts in omega arith

count-lost : (xs : List Relation) (counts : Counts) (q : Relation) → count_at (lost xs counts) q ≡ count_at counts q - times q xs
count-lost [] counts q = omega arith
count-lost (x ∷ xs) counts q = let rest = count-lost xs (one_less x counts) q in let one = count-one_less x q counts in omega arith

times_above : (q : Relation) (xs : List Relation) → AllByRecursion (λ y. relation_cmp q y ≡ Less) xs → times q xs ≡ 0
times_above q [] h = refl
times_above q (x ∷ xs) h =
    let rest = times_above q xs h.1 in
    let one : one_if (same q x) ≡ 0 = ap (λ o. one_if (is_eq o)) h.0 in
    omega arith

-- in order a relation stands once, if at all
times_once : (q : Relation) (xs : List Relation) → IsStrictlySortedBy relation_cmp xs → times q xs ≡ one_if (has q xs)
unfolding IsStrictlySortedBy
times_once q [] h = refl
times_once q (x ∷ xs) h = go (same q x) refl (times_once q xs h.1)
  where
    go : (b : Bool) → same q x ≡ b → times q xs ≡ one_if (has q xs) → one_if b + times q xs ≡ one_if (b || has q xs)
    go true e rest = let none : times q xs ≡ 0 = ap (λ y. times y xs) (is q x e) ∙ times_above x xs h.0 in omega arith
    go false e rest = omega arith

times-only_in : (q : Relation) (xs ys : List Relation) → times q (only_in xs ys) ≡ one_if (not (has q ys) && has q xs)
times-only_in q xs ys =
    let p : Relation → Bool = λ x. not (has x ys) in
    times_once q (only_in xs ys) (IsStrictlySortedBy-filter relation_cmp p (in_order relation_cmp xs) (in_order-rises relation_total relation_antisymmetric xs))
    ∙ ap one_if (has-filter relation_total relation_antisymmetric p q (in_order relation_cmp xs) ∙ ap (λ b. p q && b) (has-in_order relation_total relation_antisymmetric q xs))

-- ---- one emitter changes

less_is : (o : Ordering) → T (is_lt o) → o ≡ Less
less_is Less h = refl
less_is Equal h = absurd h
less_is Greater h = absurd h

left : (a b : Bool) → T (a && b) → T a
left true b h = tt
left false b h = h

right : (a b : Bool) → T (a && b) → T b
right true b h = h
right false b h = absurd h

none_below : (k j : Text) (es : Emitted) → text_cmp k j ≡ Less → T (below_all text_cmp j es) → find text_cmp k es ≡ None
none_below k j [] l h = refl
none_below k j (e ∷ es) l h =
    ap (λ o. cond (is_eq o) (Some e.1) (find text_cmp k es)) (text_total.trans k j e.0 l (less_is _ (left (is_lt (text_cmp j e.0)) _ h))) ∙ none_below k j es l (right (is_lt (text_cmp j e.0)) _ h)

emitters-put : (k : Text) (v : List Relation) (m : Emitted) (x : Relation) → T (is_sorted text_cmp m) → emitters_of (put text_cmp k v m) x + one_if (has x (emitted_by m k)) ≡ emitters_of m x + one_if (has x v)
emitters-put k v [] x h = omega arith
emitters-put k v (e ∷ es) x h = go (text_cmp k e.0) refl (emitters-put k v es x (right (below_all text_cmp e.0 es) _ h))
  where
    go : (o : Ordering) → text_cmp k e.0 ≡ o → emitters_of (put text_cmp k v es) x + one_if (has x (emitted_by es k)) ≡ emitters_of es x + one_if (has x v)
        → emitters_of (by_order o ((k, v) ∷ e ∷ es) ((e.0, v) ∷ es) (e ∷ put text_cmp k v es)) x + one_if (has x (unwrap_or (cond (is_eq o) (Some e.1) (find text_cmp k es)) [])) ≡ (one_if (has x e.1) + emitters_of es x) + one_if (has x v)
    go Less l ih =
        let none : one_if (has x (emitted_by es k)) ≡ 0 = ap (λ o. one_if (has x (unwrap_or o []))) (none_below k e.0 es l (left (below_all text_cmp e.0 es) _ h)) in
        omega arith
    go Equal l ih = omega arith
    go Greater l ih = omega arith

-- the sorted entries from a key on don't have it twice
silent_after : (k : Text) (e : Text × List Relation) (es : Emitted) → is_eq (text_cmp k e.0) ≡ true → T (below_all text_cmp e.0 es) → find text_cmp k es ≡ None
silent_after k e [] h l = refl
silent_after k e (f ∷ es) h l =
    let is_k : k ≡ e.0 = same_is text_total text_antisymmetric k e.0 h in
    ap (λ o. cond (is_eq o) (Some f.1) (find text_cmp k es)) (ap (λ t. text_cmp t f.0) is_k ∙ less_is _ (left (is_lt (text_cmp e.0 f.0)) _ l)) ∙ silent_after k e es h (right (is_lt (text_cmp e.0 f.0)) _ l)

emitters-without : (k : Text) (m : Emitted) (x : Relation) → T (is_sorted text_cmp m) → emitters_of (without text_cmp k m) x + one_if (has x (emitted_by m k)) ≡ emitters_of m x
emitters-without k [] x h = omega arith
emitters-without k (e ∷ es) x h = go (is_eq (text_cmp k e.0)) refl (emitters-without k es x (right (below_all text_cmp e.0 es) _ h))
  where
    go : (b : Bool) → is_eq (text_cmp k e.0) ≡ b → emitters_of (without text_cmp k es) x + one_if (has x (emitted_by es k)) ≡ emitters_of es x
        → emitters_of (cond (not b) (e ∷ without text_cmp k es) (without text_cmp k es)) x + one_if (has x (unwrap_or (cond b (Some e.1) (find text_cmp k es)) [])) ≡ one_if (has x e.1) + emitters_of es x
    go true t ih =
        let none : one_if (has x (emitted_by es k)) ≡ 0 = ap (λ o. one_if (has x (unwrap_or o []))) (silent_after k e es t (left (below_all text_cmp e.0 es) _ h)) in
        omega arith
    go false t ih = omega arith

pub emitters-with_emitter : (k : Text) (v : List Relation) (m : Emitted) (x : Relation) → T (is_sorted text_cmp m)
    → emitters_of (with_emitter k v m) x + one_if (has x (emitted_by m k)) ≡ emitters_of m x + one_if (has x v)
emitters-with_emitter k [] m x h = let e = emitters-without k m x h in omega arith
emitters-with_emitter k (y ∷ ys) m x h = emitters-put k (y ∷ ys) m x h

pub sorted-with_emitter : (k : Text) (v : List Relation) (m : Emitted) → T (is_sorted text_cmp m) → T (is_sorted text_cmp (with_emitter k v m))
sorted-with_emitter k [] m h = is_sorted-where_key text_cmp (λ q. not (same_text k q)) m h
sorted-with_emitter k (y ∷ ys) m h = is_sorted-put text_cmp text_total k (y ∷ ys) m h

pub emitted-with_emitter : (k q : Text) (v : List Relation) (m : Emitted) → emitted_by (with_emitter k v m) q ≡ cond (same_text q k) v (emitted_by m q)
emitted-with_emitter k q [] m = ap (λ o. unwrap_or o []) (find_text-without k q m) ∙ go (same_text k q) refl (same_text q k) refl
  where
    go : (a : Bool) → same_text k q ≡ a → (b : Bool) → same_text q k ≡ b → unwrap_or (cond (not a) (find text_cmp q m) None) [] ≡ cond b [] (emitted_by m q)
    go true e true f = refl
    go true e false f = absurd (true≢false (sym (same_self text_total text_antisymmetric k) ∙ (ap (λ y. same_text y k) (same_is text_total text_antisymmetric k q e) ∙ f)))
    go false e true f = absurd (true≢false (sym (same_self text_total text_antisymmetric q) ∙ (ap (λ y. same_text y q) (same_is text_total text_antisymmetric q k f) ∙ e)))
    go false e false f = refl
emitted-with_emitter k q (y ∷ ys) m = ap (λ o. unwrap_or o []) (find-put text_cmp text_total q k (y ∷ ys) m) ∙ go (same_text q k)
  where
    go : (b : Bool) → unwrap_or (cond b (Some (y ∷ ys)) (find text_cmp q m)) [] ≡ cond b (y ∷ ys) (emitted_by m q)
    go true = refl
    go false = refl

pub emitters-le : (m : Emitted) (x : Relation) → emitters_of m x ≤ length m
emitters-le [] x = omega arith
emitters-le (e ∷ es) x = go (has x e.1) (emitters-le es x)
  where
    go : (b : Bool) → emitters_of es x ≤ length es → one_if b + emitters_of es x ≤ length (e ∷ es)
    go true h = omega arith
    go false h = omega arith

-- what comes and goes changes the count as the emitter's list does
balance : (old new : Bool) (before after : ℕ) → after + one_if old ≡ before + one_if new → (one_if (not old && new) + before) - one_if (not new && old) ≡ after
balance true true before after e = omega arith
balance true false before after e = omega arith
balance false true before after e = omega arith
balance false false before after e = omega arith

pub are_counts : (m : Emitted) (counts : Counts) (k : Text) (v : List Relation) → AreCounts m counts
    → AreCounts (with_emitter k v m) (lost (only_in (emitted_by m k) v) (gained (only_in v (emitted_by m k)) counts))
are_counts m counts k v a =
    let come = only_in v (emitted_by m k) in
    let gone = only_in (emitted_by m k) v in
    let more = gained come counts in
    record {
      emitters = from_T _ (sorted-with_emitter k v m (to_T _ a.emitters));
      own = own-lost gone more (own-gained come counts a.own);
      exact = λ x.
          let e : count_at (lost gone more) x ≡ (one_if (not (has x (emitted_by m k)) && has x v) + emitters_of m x) - one_if (not (has x v) && has x (emitted_by m k)) =
          count-lost gone more x ∙ (λ i. (count-gained come counts x ∙ (λ j. times-only_in x v (emitted_by m k) j + a.exact x j)) i - times-only_in x (emitted_by m k) v i) in
          e ∙ balance (has x (emitted_by m k)) (has x v) (emitters_of m x) (emitters_of (with_emitter k v m) x) (emitters-with_emitter k v m x (to_T _ a.emitters));
    }

-- ---- what is counted

pub has_emitters : (m : Emitted) (x : Relation) → has x (all_emitted m) ≡ nat_lt 0 (emitters_of m x)
has_emitters [] x = refl
has_emitters (e ∷ es) x = list_any-append (same x) e.1 (all_emitted es) ∙ (ap (λ b. has x e.1 || b) (has_emitters es x) ∙ go (has x e.1))
  where
    go : (b : Bool) → (b || nat_lt 0 (emitters_of es x)) ≡ nat_lt 0 (one_if b + emitters_of es x)
    go true = grind (arith, nat_tests)
    go false = grind (arith, nat_tests)

some_if_positive : (s : Text) (own : SourceCounts) (x : Relation) → AreOfSource s own → is_some (find relation_cmp x own) ≡ nat_lt 0 (count_in own x)
some_if_positive s own x h = go (find relation_cmp x own) refl
  where
    go : (v : Option ℕ) → find relation_cmp x own ≡ v → is_some v ≡ nat_lt 0 (unwrap_or v 0)
    go None e = refl
    go (Some n) e = let l : 0 < n = h.positive x n e in grind (arith, nat_tests)

-- what is counted is what is emitted
pub counted : (m : Emitted) (counts : Counts) (x : Relation) → AreCounts m counts → is_some (find relation_cmp x (counts_from counts x.source)) ≡ has x (all_emitted m)
counted m counts x a = some_if_positive x.source (counts_from counts x.source) x (a.own x.source) ∙ (ap (nat_lt 0) (a.exact x) ∙ sym (has_emitters m x))

-- what is counted of a source are its relations, in order
pub linked : (m : Emitted) (counts : Counts) (s : Text) → AreCounts m counts → keys (counts_from counts s) ≡ relations_of m s
linked m counts s a =
    in_order_is relation_total relation_antisymmetric (filter (from s) (all_emitted m)) (keys (counts_from counts s)) (rises relation_total relation_antisymmetric (counts_from counts s) (a.own s).order)
    (λ x. sym (is_some-find relation_cmp x (counts_from counts s)) ∙ (go x (from s x) refl ∙ sym (has-filter relation_total relation_antisymmetric (from s) x (all_emitted m))))
  where
    from : Text → Relation → Bool
    from s x = same_text s x.source

    none : (x : Relation) (v : Option ℕ) → find relation_cmp x (counts_from counts s) ≡ v → same_text s x.source ≡ false → is_some v ≡ false
    none x None e h = refl
    none x (Some n) e h = absurd (true≢false (sym (same_self text_total text_antisymmetric s) ∙ (ap (same_text s) (sym ((a.own s).from x n e)) ∙ h)))

    go : (x : Relation) (b : Bool) → same_text s x.source ≡ b → is_some (find relation_cmp x (counts_from counts s)) ≡ (b && has x (all_emitted m))
    go x true e = ap (λ t. is_some (find relation_cmp x (counts_from counts t))) (same_is text_total text_antisymmetric s x.source e) ∙ counted m counts x a
    go x false e = none x (find relation_cmp x (counts_from counts s)) refl e
