-- The first that passes of keys in order is the least of those that pass.
use Rattle.std.proofs.Common.{T, ◌≡◌, Bool, true, false, cond, ◌&&◌, List, [], ◌∷◌, ◌++◌, refl, sym, ap, subst, ◌∙◌, Ordering, Less, Equal, Greater, is_some, true≢false}
use Rattle.std.specs.declared.option.Option.{Option}
use Rattle.std.specs.declared.option.Option.TheVariants.{None, Some}
use Rattle.std.specs.Ordering.{is_gt, is_lt}
use Rattle.std.specs.Cmp.{IsTotalOrder}
use Rattle.std.specs.FinMap.{IsAntisymmetric}
use Rattle.std.specs.FinMap.Entries.{below_all, by_order, is_sorted}
use Rattle.cat_collections.specs.Table.{Text, first, keys, put, put_some, tabulate, text_cmp}
use Rattle.cat_collections.proofs.Tables.{text_antisymmetric, text_total, and_first, and_second, is_sorted-tabulate}
use Rattle.cat_model.specs.declared.types.State.{State}
use Rattle.cat_model.specs.Catalogue.{known_refs}
use Rattle.cat_core.specs.Least.{least, lesser, lesser_of, nearer}

pub holds : (b : Bool) → T b → b ≡ true
holds true h = refl
holds false h = absurd h

pub is_less : (r : Ordering) → is_lt r ≡ true → r ≡ Less
is_less Less e = refl
is_less Equal e = absurd (true≢false (sym e))
is_less Greater e = absurd (true≢false (sym e))

alike : {A : Type 0} (b : Bool) (x : A) → x ≡ cond b x x
alike true x = refl
alike false x = refl

module _ {K : Type 0} {R : K → K → Ordering} (o : IsTotalOrder R) (s : IsAntisymmetric R) where
  -- beside a lower key, a key doesn't count
  lesser_beside : (k f : K) → R k f ≡ Less → (best : Option K) → lesser R k (lesser R f best) ≡ lesser R k best
  lesser_beside k f l None = ap (λ r. cond (is_gt r) (Some f) (Some k)) l
  lesser_beside k f l (Some b) = go (R f b) refl
    where
      lower : R k b ≡ Less → lesser R k (Some f) ≡ lesser R k (Some b)
      lower h = ap (λ r. cond (is_gt r) (Some f) (Some k)) l ∙ sym (ap (λ r. cond (is_gt r) (Some b) (Some k)) h)

      go : (r : Ordering) → R f b ≡ r → lesser R k (cond (is_gt r) (Some b) (Some f)) ≡ lesser R k (Some b)
      go Less q = lower (o.trans k f b l q)
      go Equal q = lower (subst (λ y. R k y ≡ Less) (s f b q) l)
      go Greater q = refl

module _ {K X : Type 0} {R : K → K → Ordering} (o : IsTotalOrder R) (s : IsAntisymmetric R) (p : K → Bool) where
  -- a key below y is the lesser beside entries above y
  lesser_below : (k y : K) (es : List (K × X)) → R k y ≡ Less → below_all R y es ≡ true → lesser R k (first p (keys es)) ≡ Some k
  lesser_below k y [] l b = refl
  lesser_below k y (e ∷ es) l b = go (p e.0) (lesser_below k y es l (and_second _ _ b))
    where
      go : (c : Bool) → lesser R k (first p (keys es)) ≡ Some k → lesser R k (cond c (Some e.0) (first p (keys es))) ≡ Some k
      go true ih = ap (λ r. cond (is_gt r) (Some e.0) (Some k)) (o.trans k y e.0 l (is_less (R y e.0) (and_first _ _ b)))
      go false ih = ih

  -- the first with a key put is the lesser of it and of the first, where it passes
  first_put : (k : K) (v : X) (es : List (K × X)) → is_sorted R es ≡ true → first p (keys (put R k v es)) ≡ nearer R (p k) k (first p (keys es))
  first_put k v [] h = go (p k)
    where
      go : (c : Bool) → cond c (Some k) None ≡ nearer R c k None
      go true = refl
      go false = refl
  first_put k v (e ∷ es) h = go (R k e.0) refl (first_put k v es (and_second _ _ h))
    where
      before : R k e.0 ≡ Less → (c d : Bool) → cond d (Some k) (cond c (Some e.0) (first p (keys es))) ≡ nearer R d k (cond c (Some e.0) (first p (keys es)))
      before l true true = sym (ap (λ r. cond (is_gt r) (Some e.0) (Some k)) l)
      before l false true = sym (lesser_below k e.0 es l (and_first _ _ h))
      before l c false = refl

      itself : (c : Bool) → cond c (Some e.0) (first p (keys es)) ≡ nearer R c e.0 (cond c (Some e.0) (first p (keys es)))
      itself true = alike (is_gt (R e.0 e.0)) (Some e.0)
      itself false = refl

      behind : R k e.0 ≡ Greater → (c d : Bool) → cond c (Some e.0) (nearer R d k (first p (keys es))) ≡ nearer R d k (cond c (Some e.0) (first p (keys es)))
      behind g true true = sym (ap (λ r. cond (is_gt r) (Some e.0) (Some k)) g)
      behind g true false = refl
      behind g false d = refl

      go : (r : Ordering) → R k e.0 ≡ r → first p (keys (put R k v es)) ≡ nearer R (p k) k (first p (keys es))
          → first p (keys (by_order r ((k, v) ∷ e ∷ es) ((e.0, v) ∷ es) (e ∷ put R k v es))) ≡ nearer R (p k) k (cond (p e.0) (Some e.0) (first p (keys es)))
      go Less l ih = before l (p e.0) (p k)
      go Equal t ih = subst (λ q. cond (p e.0) (Some e.0) (first p (keys es)) ≡ nearer R (p q) q (cond (p e.0) (Some e.0) (first p (keys es)))) (sym (s k e.0 t)) (itself (p e.0))
      go Greater g ih = ap (cond (p e.0) (Some e.0)) ih ∙ behind g (p e.0) (p k)

  -- beside a key below all entries, the first of them doesn't count
  lesser_first : (k : K) (es : List (K × X)) → below_all R k es ≡ true → (best : Option K) → lesser R k (lesser_of R (first p (keys es)) best) ≡ lesser R k best
  lesser_first k [] h best = refl
  lesser_first k (e ∷ es) h best = go (p e.0) (lesser_first k es (and_second _ _ h) best)
    where
      go : (c : Bool) → lesser R k (lesser_of R (first p (keys es)) best) ≡ lesser R k best → lesser R k (lesser_of R (cond c (Some e.0) (first p (keys es))) best) ≡ lesser R k best
      go true ih = lesser_beside o s k e.0 (is_less (R k e.0) (and_first _ _ h)) best
      go false ih = ih

  -- in order, the least of those that pass is the first
  least_first : (es : List (K × X)) → is_sorted R es ≡ true → (best : Option K) → least R p (keys es) best ≡ lesser_of R (first p (keys es)) best
  least_first [] h best = refl
  least_first (e ∷ es) h best = go (p e.0) (least_first es (and_second _ _ h) best)
    where
      go : (c : Bool) → least R p (keys es) best ≡ lesser_of R (first p (keys es)) best → nearer R c e.0 (least R p (keys es) best) ≡ lesser_of R (cond c (Some e.0) (first p (keys es))) best
      go true ih = ap (lesser R e.0) ih ∙ lesser_first e.0 es (and_first _ _ h) best
      go false ih = ih

module _ {K : Type 0} {R : K → K → Ordering} (o : IsTotalOrder R) (s : IsAntisymmetric R) (p : K → Bool) where
  -- the first of keys that are put in order is the least of those that have a value
  pub first_least : {X : Type 0} (f : K → Option X) (ks : List K) → first p (keys (tabulate R ks f)) ≡ least R (λ k. is_some (f k) && p k) ks None
  first_least {X = X} f [] = refl
  first_least {X = X} f (k ∷ ks) = go (f k) ∙ ap (nearer R (is_some (f k) && p k) k) (first_least f ks)
    where
      go : (v : Option X) → first p (keys (put_some R k v (tabulate R ks f))) ≡ nearer R (is_some v && p k) k (first p (keys (tabulate R ks f)))
      go None = refl
      go (Some v) = first_put o s p k v (tabulate R ks f) (holds _ (is_sorted-tabulate o s ks f))

  -- the least of two lists
  pub least_append : (ks js : List K) (best : Option K) → least R p (ks ++ js) best ≡ least R p ks (least R p js best)
  least_append [] js best = refl
  least_append (k ∷ ks) js best = ap (nearer R (p k) k) (least_append ks js best)

-- of what is known, the first that passes is the least of the records and the orphans
first_known : (p : Text → Bool) (m : State) → first p (known_refs m) ≡ least text_cmp p (keys m.records) (least text_cmp p (keys m.orphans) None)
first_known p m = first_least text_total text_antisymmetric p (λ r. Some (tt {0})) (keys m.records ++ keys m.orphans) ∙ least_append text_total text_antisymmetric p (keys m.records) (keys m.orphans) None

alone : (v : Option Text) → lesser_of text_cmp v None ≡ v
alone None = refl
alone (Some k) = refl

-- where records and orphans are in order, the lesser of their firsts is the first of what is known
pub known_is : (p : Text → Bool) (m : State) → is_sorted text_cmp m.records ≡ true → is_sorted text_cmp m.orphans ≡ true → (kept orphan found : Option Text)
    → kept ≡ first p (keys m.records) → orphan ≡ first p (keys m.orphans) → found ≡ lesser_of text_cmp kept orphan → found ≡ first p (known_refs m)
known_is p m records orphans kept orphan found k e f =
    let of_orphans = least_first text_total text_antisymmetric p m.orphans orphans None ∙ alone (first p (keys m.orphans)) in
    let of_records = least_first text_total text_antisymmetric p m.records records (first p (keys m.orphans)) in
    f ∙ ((λ i. lesser_of text_cmp (k i) (e i)) ∙ sym (first_known p m ∙ (ap (least text_cmp p (keys m.records)) of_orphans ∙ of_records)))
