-- The first step of the rules of holding keeps just the holders that are rooted and whose rows are there.
use Rattle.std.proofs.Common.{◌≡◌, ℕ, zero, suc, ◌+◌, ◌-◌, ◌≤◌, Bool, true, false, cond, not, ◌&&◌, ◌||◌, List, [], ◌∷◌, length, refl, sym, ap, subst, ◌∙◌, is_some, arith, true≢false, Ordering, Less, Equal, Greater, T, is_lt}
use Rattle.std.specs.declared.option.Option.{Option}
use Rattle.std.specs.declared.option.Option.TheVariants.{None, Some}
use Rattle.std.specs.Option.{option_and_then}
use Rattle.std.specs.Ordering.{is_eq}
use Rattle.std.specs.List.{list_any}
use Rattle.std.specs.FinMap.Entries.{is_some-find, is_sorted, below_all}
use Rattle.cat_collections.specs.Table.{text_cmp, same_text, Map, get, keys, over, first}
use Rattle.std.proofs.lemmas.List.{length-map}
use Rattle.cat_model.specs.Catalogue.{Ref, Rows, Holders, held, row_at, holding, climbs, climbs_row, climbs_origin, rooted}
use Rattle.cat_model.specs.declared.types.Origin.{Origin}
use Rattle.cat_model.specs.declared.types.Row.{Row}
use Rattle.cat_model.specs.declared.types.Origin.TheVariants.{Provider, Entity}
use Rattle.cat_collections.proofs.Tables.{text_total, text_antisymmetric, same_is, same_self, or_true, first_some, some_or_none, found_key, find-over, is_sorted-tabulate}
use Rattle.cat_model.proofs.Holding.{count, count-le, count-less, begun, Firm, firm_stays, begun_held, begun_was, begun_in_order, climbs_more, climbs_row-more}
use Rattle.cat_model.proofs.Holding.Firm.{by_provider, by_entity}
use Rattle.std.specs.FinMap.Entries.{same_entries}

pub first_of_any : (p : Ref → Bool) (ks : List Ref) → list_any p ks ≡ true → (k : Ref) × (first p ks ≡ Some k)
first_of_any p [] h = absurd (true≢false (sym h))
first_of_any p (k ∷ ks) h = go (p k) h (first_of_any p ks)
  where
    go : (b : Bool) → (b || list_any p ks) ≡ true → (list_any p ks ≡ true → (j : Ref) × (first p ks ≡ Some j)) → (j : Ref) × (cond b (Some k) (first p ks) ≡ Some j)
    go true h ih = (k, refl)
    go false h ih = ih h

-- no key of a map stands twice
pub not_below : {X : Type 0} (r : Ref) (es : Map X) → T (below_all text_cmp r es) → list_any (same_text r) (keys es) ≡ false
not_below r [] h = refl
not_below r (e ∷ es) h = go (text_cmp r e.0) h (not_below r es)
  where
    go : (c : Ordering) → T (is_lt c && below_all text_cmp r es) → (T (below_all text_cmp r es) → list_any (same_text r) (keys es) ≡ false) → (is_eq c || list_any (same_text r) (keys es)) ≡ false
    go Less h ih = ih h
    go Equal h ih = absurd h
    go Greater h ih = absurd h

-- so it has no more entries than there are references among which its keys are
pub entries_within : {X : Type 0} (refs : List Ref) (es : Map X) → T (is_sorted text_cmp es) → ((r : Ref) → list_any (same_text r) (keys es) ≡ true → list_any (same_text r) refs ≡ true)
    → length es + count (λ r. not (list_any (same_text r) (keys es))) refs ≤ length refs
entries_within refs [] h within = let l = count-le (λ (r : Ref). not false) refs in omega arith
entries_within refs (e ∷ es) h within =
    let rest = entries_within refs es (second (below_all text_cmp e.0 es) (is_sorted text_cmp es) h) (λ r i. within r (or_true (same_text r e.0) _ i)) in
    let f = first_of_any (same_text e.0) refs (within e.0 (ap (λ b. b || list_any (same_text e.0) (keys es)) (same_self text_total text_antisymmetric e.0))) in
    let same : e.0 ≡ f.0 = same_is text_total text_antisymmetric e.0 f.0 (first_some text_total text_antisymmetric (same_text e.0) refs f.0 f.1) in
    let less = count-less (λ r. not (list_any (same_text r) (keys es))) (λ r. not (list_any (same_text r) (keys (e ∷ es)))) fewer (same_text e.0) f.0 refs f.1
    (ap (λ r. not (list_any (same_text r) (keys es))) (sym same) ∙ ap not (not_below e.0 es (first_of (below_all text_cmp e.0 es) (is_sorted text_cmp es) h)))
    (ap (λ r. not (list_any (same_text r) (keys (e ∷ es)))) (sym same) ∙ ap (λ b. not (b || list_any (same_text e.0) (keys es))) (same_self text_total text_antisymmetric e.0)) in
    omega arith
  where
    second : (a b : Bool) → T (a && b) → T b
    second true b h = h
    second false b h = absurd h

    first_of : (a b : Bool) → T (a && b) → T a
    first_of true b h = tt
    first_of false b h = h

    fewer : (r : Ref) → not (same_text r e.0 || list_any (same_text r) (keys es)) ≡ true → not (list_any (same_text r) (keys es)) ≡ true
    fewer r h = go (same_text r e.0) h
      where
        go : (b : Bool) → not (b || list_any (same_text r) (keys es)) ≡ true → not (list_any (same_text r) (keys es)) ≡ true
        go true h = absurd (true≢false (sym h))
        go false h = h

split_holding : (rows : Rows) (holders : Holders) (r : Ref) (row : Row) → holding rows holders r ≡ Some row → (a : ℕ) × (get holders r ≡ Some a) × (row_at rows a ≡ Some row)
split_holding rows holders r row h = go (get holders r) refl h
  where
    go : (v : Option ℕ) → get holders r ≡ v → option_and_then (row_at rows) v ≡ Some row → (a : ℕ) × (get holders r ≡ Some a) × (row_at rows a ≡ Some row)
    go None e h = absurd (true≢false (sym (ap is_some h)))
    go (Some a) e h = (a, e, h)

module _ (rows : Rows) (holders : Holders) (names : (r : Ref) (a : ℕ) (row : Row) → get holders r ≡ Some a → row_at rows a ≡ Some row → row.reference ≡ r) where
  climbing_firm : (n : ℕ) (r : Ref) → climbs rows holders n r ≡ true → Firm rows holders r
  climbing_firm zero r h = absurd (true≢false (sym h))
  climbing_firm (suc n) r h = go (holding rows holders r) refl h (climbing_firm n)
    where
      at_row : (row : Row) → holding rows holders r ≡ Some row → (o : Origin) → row.origin ≡ o → climbs_origin (climbs rows holders n) o ≡ true
          → ((e : Ref) → climbs rows holders n e ≡ true → Firm rows holders e) → Firm rows holders r
      at_row row e (Provider p) is h up = let a = split_holding rows holders r row e in by_provider a.0 row p a.1 a.2 is
      at_row row e (Entity q) is h up = let a = split_holding rows holders r row e in by_entity a.0 row q a.1 a.2 is (up q h)

      go : (v : Option Row) → holding rows holders r ≡ v → climbs_row (climbs rows holders n) v ≡ true → ((e : Ref) → climbs rows holders n e ≡ true → Firm rows holders e) → Firm rows holders r
      go None e h up = absurd (true≢false (sym h))
      go (Some row) e h up = at_row row e row.origin refl h up

  same_holding_begun : (r : Ref) → held (begun rows holders) r ≡ true → holding rows (begun rows holders) r ≡ holding rows holders r
  same_holding_begun r h = let a = some_or_none (get (begun rows holders) r) h in ap (option_and_then (row_at rows)) (a.1 ∙ sym (begun_was rows holders names r a.0 a.1))

  climbs_before : (n : ℕ) (r : Ref) → climbs rows (begun rows holders) n r ≡ true → climbs rows holders n r ≡ true
  climbs_before zero r h = h
  climbs_before (suc n) r h =
      ap (climbs_row (climbs rows holders n)) (sym (same_holding_begun r (is_held (get (begun rows holders) r) h)))
      ∙ climbs_row-more (climbs rows (begun rows holders) n) (climbs rows holders n) (climbs_before n) (holding rows (begun rows holders) r) h
    where
      is_held : (v : Option ℕ) → climbs_row (climbs rows (begun rows holders) n) (option_and_then (row_at rows) v) ≡ true → is_some v ≡ true
      is_held None h = h
      is_held (Some a) h = refl

  climbs_upto : (n k : ℕ) (r : Ref) → climbs rows holders n r ≡ true → climbs rows holders (n + k) r ≡ true
  climbs_upto n zero r h = let e : n ≡ n + 0 = omega arith in subst (λ j. climbs rows holders j r ≡ true) e h
  climbs_upto n (suc k) r h = let e : suc (n + k) ≡ n + suc k = omega arith in subst (λ j. climbs rows holders j r ≡ true) e (climbs_more rows holders (n + k) r (climbs_upto n k r h))

  shorter : length (begun rows holders) ≤ length holders
  shorter =
      let a = entries_within (keys holders) (begun rows holders) (begun_in_order rows holders)
      (λ r h. let v = some_or_none (get (begun rows holders) r) (is_some-find text_cmp r (begun rows holders) ∙ h) in found_key text_total text_antisymmetric r holders v.0 (begun_was rows holders names r v.0 v.1)) in
      let c : length (keys holders) ≡ length holders = length-map holders (λ (e : Ref × ℕ). e.0) in
      omega arith

  begun-is : (r : Ref) → get (begun rows holders) r ≡ cond (rooted rows holders r) (get holders r) None
  begun-is r = go (rooted rows holders r) refl
    where
      go : (b : Bool) → rooted rows holders r ≡ b → get (begun rows holders) r ≡ cond b (get holders r) None
      go true h = let w = firm_stays rows holders names (climbing_firm (length holders) r h) in w.kept ∙ sym w.was
      go false h = out (get (begun rows holders) r) refl
        where
          out : (v : Option ℕ) → get (begun rows holders) r ≡ v → v ≡ None
          out None e = refl
          out (Some a) e =
              let up = climbs_upto (length (begun rows holders)) (length holders - length (begun rows holders)) r (climbs_before (length (begun rows holders)) r (begun_held rows holders r a e)) in
              let len : length (begun rows holders) + (length holders - length (begun rows holders)) ≡ length holders = fits (length (begun rows holders)) (length holders) shorter in
              absurd (true≢false (sym (subst (λ n. climbs rows holders n r ≡ true) len up) ∙ h))
            where
              fits : (a b : ℕ) → a ≤ b → a + (b - a) ≡ b
              fits a b h = omega arith

  -- what is kept first: the holders that are rooted through rows that are there
  pub first_step : begun rows holders ≡ over text_cmp holders (λ r a. cond (rooted rows holders r) (Some a) None)
  first_step = same_entries text_cmp text_total text_antisymmetric (begun rows holders) (over text_cmp holders (λ r a. cond (rooted rows holders r) (Some a) None))
      (begun_in_order rows holders) (is_sorted-tabulate text_total text_antisymmetric (keys holders) (λ k. option_and_then (λ a. cond (rooted rows holders k) (Some a) None) (get holders k)))
      (λ q. begun-is q ∙ sym (find-over text_total text_antisymmetric q holders (λ r a. cond (rooted rows holders r) (Some a) None) ∙ kept (rooted rows holders q) (get holders q)))
    where
      kept : (b : Bool) (v : Option ℕ) → option_and_then (λ a. cond b (Some a) None) v ≡ cond b v None
      kept true None = refl
      kept true (Some a) = refl
      kept false None = refl
      kept false (Some a) = refl
