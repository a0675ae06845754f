-- The walk over both sets of documents finds what differs.
use Rattle.std.proofs.Common.{T, ◌≡◌, Bool, true, false, cond, ◌&&◌, ◌||◌, List, [], ◌∷◌, ◌++◌, refl, sym, ap, subst, ◌∙◌, true≢false, Ordering, Less, Equal, Greater}
use Rattle.std.specs.Prelude.{if◌then◌else◌}
use Rattle.std.specs.declared.option.Option.{Option}
use Rattle.std.specs.declared.option.Option.TheVariants.{None, Some}
use Rattle.std.specs.Ordering.{eq_by_cmp, is_eq, is_lt}
use Rattle.std.specs.List.{list_any}
use Rattle.std.proofs.lemmas.List.Folds.{list_any-append}
use Rattle.std.specs.FinMap.Entries.{below_all, by_order, find, is_sorted, same_entries}
use Rattle.cat_tree.specs.Data.{Data}
use Rattle.cat_tree.specs.Same.{is_same}
use Rattle.cat_collections.specs.Table.{Text, get, keys, same_text, text_cmp, text_total, text_antisymmetric}
use Rattle.cat_collections.proofs.Tables.{find-tabulate_all, is_sorted-tabulate, no_key, or_false_first, or_false_second}
use Rattle.cat_feed.specs.Changes.{Difference, Documents, differences, new_at, sets}
use Rattle.cat_feed.specs.Walk.{unless_same, walked, walked_at}
use Rattle.cat_feed.proofs.Finds.{both, first, second, to_T, lt_from_less, less_from_greater, same_is_text, below_less, find-below}

-- what a list of differences must be
record IsFound (es ds : Documents) (w : List Difference) : Type 0 where
  finds : (q : Text) → get w q ≡ new_at (get es q) (get ds q)
  rises : T (is_sorted text_cmp w)
  higher : (q : Text) → T (below_all text_cmp q es) → T (below_all text_cmp q ds) → T (below_all text_cmp q w)

-- ---- where no old document is left

finds-sets : (ds : Documents) (q : Text) → get (sets ds) q ≡ new_at None (get ds q)
finds-sets [] q = refl
finds-sets (d ∷ ds) q = go (same_text q d.0) (finds-sets ds q)
  where
    go : (b : Bool) → get (sets ds) q ≡ new_at None (get ds q) → cond b (Some (Some d.1)) (get (sets ds) q) ≡ new_at None (cond b (Some d.1) (get ds q))
    go true ih = refl
    go false ih = ih

below-sets : (ds : Documents) (q : Text) → T (below_all text_cmp q ds) → T (below_all text_cmp q (sets ds))
below-sets [] q h = tt
below-sets (d ∷ ds) q h = both _ _ (first _ _ h) (below-sets ds q (second _ _ h))

pub sorted-sets : (ds : Documents) → T (is_sorted text_cmp ds) → T (is_sorted text_cmp (sets ds))
sorted-sets [] h = tt
sorted-sets (d ∷ ds) h = both _ _ (below-sets ds d.0 (first _ _ h)) (sorted-sets ds (second _ _ h))

found-sets : (ds : Documents) → T (is_sorted text_cmp ds) → IsFound [] ds (sets ds)
found-sets ds h = record { finds = finds-sets ds; rises = sorted-sets ds h; higher = λ q hq hd. below-sets ds q hd }

-- ---- at an old document

module _ (e : Text × Data) (es : Documents) (low : T (below_all text_cmp e.0 es)) (ih : (ds : Documents) → T (is_sorted text_cmp ds) → IsFound es ds (walked es ds)) where
  abbrev next : Documents → List Difference
  next = walked es

  -- it is gone: all new documents are above it
  gone : (ds : Documents) → T (below_all text_cmp e.0 ds) → T (is_sorted text_cmp ds) → IsFound (e ∷ es) ds ((e.0, None) ∷ next ds)
  gone ds above h =
      let r = ih ds h in
      record {
        finds = λ q. go q (same_text q e.0) refl (r.finds q);
        rises = both _ _ (r.higher e.0 low above) r.rises;
        higher = λ q hq hd. both _ _ (first _ _ hq) (r.higher q (second _ _ hq) hd);
      }
    where
      go : (q : Text) (b : Bool) → same_text q e.0 ≡ b → get (next ds) q ≡ new_at (get es q) (get ds q) → cond b (Some None) (get (next ds) q) ≡ new_at (cond b (Some e.1) (get es q)) (get ds q)
      go q true is f = sym (ap (λ v. new_at (Some e.1) v) (subst (λ k. get ds k ≡ None) (sym (same_is_text q e.0 is)) (find-below e.0 ds above)))
      go q false is f = f

  -- it is there, as it was
  stays : (d : Text × Data) (ds : Documents) → e.0 ≡ d.0 → is_same e.1 d.1 ≡ true → T (is_sorted text_cmp (d ∷ ds)) → IsFound (e ∷ es) (d ∷ ds) (next ds)
  stays d ds tie same h =
      let r = ih ds (second _ _ h) in
      record {
        finds = λ q. go q (same_text q e.0) refl (same_text q d.0) (ap (same_text q) tie) (r.finds q);
        rises = r.rises;
        higher = λ q hq hd. r.higher q (second _ _ hq) (second _ _ hd);
      }
    where
      go : (q : Text) (b : Bool) → same_text q e.0 ≡ b → (c : Bool) → same_text q e.0 ≡ c → get (next ds) q ≡ new_at (get es q) (get ds q) → get (next ds) q ≡ new_at (cond b (Some e.1) (get es q)) (cond c (Some d.1) (get ds q))
      go q true is true js f =
          let at : q ≡ e.0 = same_is_text q e.0 is in
          let old : get es q ≡ None = subst (λ k. get es k ≡ None) (sym at) (find-below e.0 es low) in
          let new : get ds q ≡ None = subst (λ k. get ds k ≡ None) (sym (at ∙ tie)) (find-below d.0 ds (first _ _ h)) in
          f ∙ ((λ i. new_at (old i) (new i)) ∙ sym (ap (λ b. if b then None else Some (Some d.1)) same))
      go q true is false js f = absurd (true≢false (sym is ∙ js))
      go q false is true js f = absurd (true≢false (sym js ∙ is))
      go q false is false js f = f

  -- it is there, and another document
  changes : (d : Text × Data) (ds : Documents) → e.0 ≡ d.0 → is_same e.1 d.1 ≡ false → T (is_sorted text_cmp (d ∷ ds)) → IsFound (e ∷ es) (d ∷ ds) ((d.0, Some d.1) ∷ next ds)
  changes d ds tie same h =
      let r = ih ds (second _ _ h) in
      record {
        finds = λ q. go q (same_text q d.0) (same_text q e.0) (ap (same_text q) tie) (r.finds q);
        rises = both _ _ (r.higher d.0 (subst (λ k. T (below_all text_cmp k es)) tie low) (first _ _ h)) r.rises;
        higher = λ q hq hd. both _ _ (first _ _ hd) (r.higher q (second _ _ hq) (second _ _ hd));
      }
    where
      go : (q : Text) (b c : Bool) → c ≡ b → get (next ds) q ≡ new_at (get es q) (get ds q) → cond b (Some (Some d.1)) (get (next ds) q) ≡ new_at (cond c (Some e.1) (get es q)) (cond b (Some d.1) (get ds q))
      go q true true js f = sym (ap (λ b. if b then None else Some (Some d.1)) same)
      go q true false js f = absurd (true≢false (sym js))
      go q false true js f = absurd (true≢false js)
      go q false false js f = f

  -- a new document stands before it
  comes : (d : Text × Data) (ds : Documents) (w : List Difference) → text_cmp d.0 e.0 ≡ Less → T (is_sorted text_cmp (d ∷ ds)) → IsFound (e ∷ es) ds w → IsFound (e ∷ es) (d ∷ ds) ((d.0, Some d.1) ∷ w)
  comes d ds w p h r =
      let under : T (below_all text_cmp d.0 (e ∷ es)) = both _ _ (lt_from_less p) (below_less d.0 e.0 es p low) in
      record {
        finds = λ q. go q under (same_text q d.0) refl (r.finds q);
        rises = both _ _ (r.higher d.0 under (first _ _ h)) r.rises;
        higher = λ q hq hd. both _ _ (first _ _ hd) (r.higher q hq (second _ _ hd));
      }
    where
      go : (q : Text) → T (below_all text_cmp d.0 (e ∷ es)) → (b : Bool) → same_text q d.0 ≡ b → get w q ≡ new_at (get (e ∷ es) q) (get ds q) → cond b (Some (Some d.1)) (get w q) ≡ new_at (get (e ∷ es) q) (cond b (Some d.1) (get ds q))
      go q under true is f = sym (ap (λ v. new_at v (Some d.1)) (subst (λ k. get (e ∷ es) k ≡ None) (sym (same_is_text q d.0 is)) (find-below d.0 (e ∷ es) under)))
      go q under false is f = f

  unless-same : (d : Text × Data) (ds : Documents) → e.0 ≡ d.0 → T (is_sorted text_cmp (d ∷ ds)) → IsFound (e ∷ es) (d ∷ ds) (unless_same e.1 d ++ next ds)
  unless-same d ds tie h = go (is_same e.1 d.1) refl
    where
      go : (b : Bool) → is_same e.1 d.1 ≡ b → IsFound (e ∷ es) (d ∷ ds) ((if b then [] else (d.0, Some d.1) ∷ []) ++ next ds)
      go true same = stays d ds tie same h
      go false same = changes d ds tie same h

  found-at : (ds : Documents) → T (is_sorted text_cmp ds) → IsFound (e ∷ es) ds (walked_at e next ds)
  found-at [] h = gone [] tt tt
  found-at (d ∷ ds) h = go (text_cmp e.0 d.0) refl (found-at ds (second _ _ h))
    where
      go : (o : Ordering) → text_cmp e.0 d.0 ≡ o → IsFound (e ∷ es) ds (walked_at e next ds)
          → IsFound (e ∷ es) (d ∷ ds) (by_order o ((e.0, None) ∷ next (d ∷ ds)) (unless_same e.1 d ++ next ds) ((d.0, Some d.1) ∷ walked_at e next ds))
      go Less p r = gone (d ∷ ds) (both _ _ (lt_from_less p) (below_less e.0 d.0 ds p (first _ _ h))) h
      go Equal p r = unless-same d ds (text_antisymmetric e.0 d.0 p) h
      go Greater p r = comes d ds (walked_at e next ds) (less_from_greater e.0 d.0 p) h r

-- ---- the whole walk

found : (es ds : Documents) → T (is_sorted text_cmp es) → T (is_sorted text_cmp ds) → IsFound es ds (walked es ds)
found [] ds g h = found-sets ds h
found (e ∷ es) ds g h = found-at e es (first _ _ g) (λ ds h. found es ds (second _ _ g) h) ds h

-- what differs, at a reference
pub find-differences : (es ds : Documents) (q : Text) → get (differences es ds) q ≡ new_at (get es q) (get ds q)
find-differences es ds q = find-tabulate_all text_total text_antisymmetric q (keys es ++ keys ds) (λ r. new_at (get es r) (get ds r)) none
  where
    none : list_any (same_text q) (keys es ++ keys ds) ≡ false → new_at (get es q) (get ds q) ≡ None
    none e =
        let neither : (list_any (same_text q) (keys es) || list_any (same_text q) (keys ds)) ≡ false = sym (list_any-append (same_text q) (keys es) (keys ds)) ∙ e in
        let old : get es q ≡ None = no_key text_total text_antisymmetric q es (or_false_first (list_any (same_text q) (keys es)) (list_any (same_text q) (keys ds)) neither) in
        let new : get ds q ≡ None = no_key text_total text_antisymmetric q ds (or_false_second (list_any (same_text q) (keys es)) (list_any (same_text q) (keys ds)) neither) in
        λ i. new_at (old i) (new i)

pub sorted-differences : (es ds : Documents) → T (is_sorted text_cmp (differences es ds))
sorted-differences es ds = is_sorted-tabulate text_total text_antisymmetric (keys es ++ keys ds) (λ r. new_at (get es r) (get ds r))

pub walked_is : (es ds : Documents) → T (is_sorted text_cmp es) → T (is_sorted text_cmp ds) → walked es ds ≡ differences es ds
walked_is es ds g h =
    let r = found es ds g h in
    same_entries text_cmp text_total text_antisymmetric (walked es ds) (differences es ds) r.rises (sorted-differences es ds) (λ q. r.finds q ∙ sym (find-differences es ds q))

-- the same, where the tests say that both are in order
pub walk_finds : (es ds : Documents) → is_sorted text_cmp es ≡ true → is_sorted text_cmp ds ≡ true → walked es ds ≡ differences es ds
walk_finds es ds g h = walked_is es ds (to_T _ g) (to_T _ h)
